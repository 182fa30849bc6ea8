-- A port in memory: the links that it hands out, which of its calls fail, and what each call answers and leaves.
use Rattle.std.specs.Prelude.{◌≡◌, ◌==◌, ℕ, ◌-◌, ◌||◌, [], ◌∷◌, Bool, false, cond, List, Option, None, Some, if◌then◌else◌}
use Rattle.std.specs.List.{list_any}
use Rattle.outside_links.specs.Faults.{one_more}
use Rattle.outside_links.specs.MemLink.{Linked}
use Rattle.outside_links.specs.Port.{PortState}

-- a port in memory as contracts see it
pub record Listening : Type 0 where
  -- the links that are still to be handed out
  pub links : List Linked
  -- the calls of `accept` that fail, and how many were made
  pub failing : List ℕ
  pub calls : ℕ
  pub number : ℕ
  pub lent : ℕ
  pub ended : Bool
  pub faults : ℕ

abbrev pub mem_port_state : Listening → PortState
mem_port_state p = record { number = p.number; lent = p.lent; ended = p.ended; faults = p.faults }

-- a port on which no call was made
abbrev pub unused_port : List Linked → (failing : List ℕ) → (number : ℕ) → Listening
unused_port links failing number = record {
  links = links;
  failing = failing;
  calls = 0;
  number = number;
  lent = 0;
  ended = false;
  faults = 0;
}

-- no call was made on it
pub record IsUntouched (p : Listening) : Type 0 where
  pub calls : p.calls ≡ 0
  pub lent : p.lent ≡ 0
  pub ended : p.ended ≡ false
  pub faults : p.faults ≡ 0

-- the next call of `accept` is one of those that fail
abbrev pub accept_fails : Listening → Bool
accept_fails p = list_any (λ number. number == p.calls) p.failing

-- the link that is handed out next, where there is one
abbrev pub first_link : List Linked → Option Linked
first_link [] = None
first_link (link ∷ links) = Some link

-- what a port is after a call of `accept` that did not fail
abbrev pub after_first : Listening → List Linked → Listening
after_first p [] = record p { calls = one_more p.calls; ended = p.ended || (p.lent == 0) }
after_first p (link ∷ links) = record p { calls = one_more p.calls; links = links; lent = one_more p.lent }

-- and after any call of it
abbrev pub after_accept : Listening → Listening
after_accept p = cond (accept_fails p)
    (record p { calls = one_more p.calls; faults = one_more p.faults })
    (after_first p p.links)

-- a link came back
abbrev pub after_close : Listening → Linked → Listening
after_close p link = record p { lent = if link.used then p.lent - 1 else p.lent }
