-- A sink in memory: what it has taken, where its calls are cut, and what each call takes and leaves.
use Rattle.std.specs.Prelude.{◌≡◌, ◌==◌, ◌↔◌, ℕ, ◌+◌, ◌-◌, ◌≤◌, ◌++◌, min, Bool, IsTrue, cond, List, Option, None, Some, find, length, take, unwrap_or}
use Rattle.std.specs.Option.{option_map}
use Rattle.outside.specs.Faults.{one_more}
use Rattle.outside.specs.Sink.{SinkState, Takes}
use Rattle.outside.specs.declared.pages.Cut.{Cut}

-- a page as contracts see it: the bytes that it has taken, how many it has room for, the calls
-- that are cut, and how many calls were made and have failed
pub record Writing : Type 0 where
  pub bytes : List ℕ
  pub room : ℕ
  pub failing : List Cut
  pub calls : ℕ
  pub faults : ℕ

-- a page tells all that it has taken
abbrev pub page_state : Writing → SinkState
page_state p = record { written = Some p.bytes; faults = p.faults }

-- how many bytes the next call lets pass, where it is cut; of two cuts of one call the first stands
abbrev pub next_cut : Writing → Option ℕ
next_cut p = option_map (λ cut. cut.passes) (find (λ cut. cut.call == p.calls) p.failing)

-- the next call writes a whole piece of this length: it is not cut, and there is room
abbrev pub Passes : Writing → ℕ → Type 0
Passes p len = (next_cut p ≡ None) × (length p.bytes + len ≤ p.room)

-- how many bytes of a piece of this length the next call takes
abbrev pub taken_of : Writing → ℕ → ℕ
taken_of p len = min (min (unwrap_or (next_cut p) len) len) (p.room - length p.bytes)

-- what a page is after one call with this piece, which passed or failed
abbrev pub after_write : Writing → List ℕ → Bool → Writing
after_write p piece passed = record p {
  bytes = p.bytes ++ take (taken_of p (length piece)) piece;
  calls = one_more p.calls;
  faults = cond passed p.faults (one_more p.faults);
}

-- what a page took is what its cuts and its room let pass, and the call is counted
pub record PageTook (old new : Writing) (bytes : List ℕ) (all : Bool) : Type 0 where
  pub takes : Takes (page_state old) (page_state new) bytes all
  pub passes : IsTrue all ↔ Passes old (length bytes)
  pub after : new ≡ after_write old bytes all
