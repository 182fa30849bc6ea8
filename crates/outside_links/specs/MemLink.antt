-- A link in memory: what is left to read, which of its calls fail, and what each call answers and leaves.
use Rattle.std.specs.Prelude.{◌≡◌, ◌==◌, ℕ, ◌+◌, ◌-◌, ◌≤◌, ◌||◌, ◌++◌, not, [], ◌∷◌, min, Bool, true, cond, List, Option, None, Some, find, length, take, drop, unwrap_or, Vec}
use Rattle.std.specs.Option.{option_map}
use Rattle.std.specs.List.{list_any}
use Rattle.std.specs.declared.alloc.Global.{Global}
use Rattle.outside_links.specs.Faults.{one_more}
use Rattle.outside_links.specs.Link.{Exchanges, LinkState}
use Rattle.outside_links.specs.declared.cuts.Cut.{Cut}

-- the pieces without the empty ones in front
abbrev pub pass_empty : List (List ℕ) → List (List ℕ)
pass_empty [] = []
pass_empty ([] ∷ pieces) = pass_empty pieces
pass_empty ((byte ∷ piece) ∷ pieces) = (byte ∷ piece) ∷ pieces

-- the bytes of a vector
abbrev pub items_of : Vec ℕ Global → List ℕ
items_of piece = piece.items

-- the bytes of pieces, one behind another
abbrev pub bytes_of : List (List ℕ) → List ℕ
bytes_of [] = []
bytes_of (piece ∷ pieces) = piece ++ bytes_of pieces

-- what a read with so much room takes: bytes of the first piece, as many as fit
abbrev pub next_bytes : List (List ℕ) → ℕ → List ℕ
next_bytes [] room = []
next_bytes (piece ∷ pieces) room = take room piece

-- and what it leaves
abbrev pub left_behind : List (List ℕ) → ℕ → List (List ℕ)
left_behind [] room = []
left_behind (piece ∷ pieces) room = pass_empty (drop room piece ∷ pieces)

-- a link in memory as contracts see it
pub record Linked : Type 0 where
  -- what the peer has still to send, the first piece not empty
  pub pieces : List (List ℕ)
  -- what was written, and how much may be
  pub out : List ℕ
  pub room : ℕ
  -- the calls that fail, and how many calls were made
  pub failing_reads : List ℕ
  pub failing_writes : List Cut
  pub reads : ℕ
  pub writes : ℕ
  pub ended : Bool
  pub used : Bool
  pub faults : ℕ

-- a link in memory tells all
abbrev pub mem_link_state : Linked → LinkState
mem_link_state l = record {
  left = Some (bytes_of l.pieces);
  written = Some l.out;
  ended = l.ended;
  used = l.used;
  faults = l.faults;
}

-- and what its calls exchanged is what it tells
abbrev pub MemExchanges : (old new : Linked) → (read sent : List ℕ) → Type 0
MemExchanges old new read sent = Exchanges (mem_link_state old) (mem_link_state new) read sent

-- the next read is one of those that fail
abbrev pub read_fails : Linked → Bool
read_fails l = list_any (λ number. number == l.reads) l.failing_reads

-- what a link is after a read with so much room
abbrev pub after_read : Linked → ℕ → Linked
after_read l room = cond (read_fails l)
    (record l { reads = one_more l.reads; used = true; faults = one_more l.faults })
    (record l {
      reads = one_more l.reads;
      pieces = left_behind l.pieces room;
      ended = l.ended || (length (next_bytes l.pieces room) == 0);
      used = l.used || (length (next_bytes l.pieces room) == 0);
    })

-- how many bytes the next write lets pass, where it is cut; of two cuts of one call the first stands
abbrev pub next_cut : Linked → Option ℕ
next_cut l = option_map (λ cut. cut.passes) (find (λ cut. cut.call == l.writes) l.failing_writes)

-- the next write takes a whole piece of this length: it is not cut, and there is room
abbrev pub Passes : Linked → ℕ → Type 0
Passes l len = (next_cut l ≡ None) × (length l.out + len ≤ l.room)

-- how many bytes of a piece of this length the next write takes
abbrev pub taken_of : Linked → ℕ → ℕ
taken_of l len = min (min (unwrap_or (next_cut l) len) len) (l.room - length l.out)

-- what a link is after a write of these bytes, which passed or failed
abbrev pub after_write : Linked → List ℕ → Bool → Linked
after_write l bytes passed = record l {
  out = l.out ++ take (taken_of l (length bytes)) bytes;
  writes = one_more l.writes;
  used = cond passed (l.used || not (length bytes == 0)) true;
  faults = cond passed l.faults (one_more l.faults);
}
