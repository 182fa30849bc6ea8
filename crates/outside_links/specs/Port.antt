-- A listener's end as contracts see it, and what each of its calls leaves.
use Rattle.std.specs.Prelude.{◌≡◌, ◌-◌, ℕ, Bool, false, ◌||◌, ◌==◌, Option, None, Some, if◌then◌else◌}
use Rattle.outside_links.specs.Faults.{one_more}
use Rattle.outside_links.specs.Link.{IsFresh, LinkState}

pub record PortState : Type 0 where
  -- the number at which it listens
  pub number : ℕ
  -- how many of its links are out, of those that came back used: what `open` answers
  pub lent : ℕ
  -- no more connections will come, and none of its links was out when it said so
  pub ended : Bool
  -- how many calls have failed
  pub faults : ℕ

-- a port on which no call was made
abbrev pub new_port : ℕ → PortState
new_port number = record { number = number; lent = 0; ended = false; faults = 0 }

-- a link was handed out
abbrev pub after_link : PortState → PortState
after_link port = record port { lent = one_more port.lent }

-- no more connections will come
abbrev pub after_last : PortState → PortState
after_last port = record port { ended = port.ended || (port.lent == 0) }

-- a call failed, and was counted
abbrev pub after_fault : PortState → PortState
after_fault port = record port { faults = one_more port.faults }

-- a link came back: only one that was used counts as returned
abbrev pub after_close : PortState → LinkState → PortState
after_close port link = record port { lent = if link.used then port.lent - 1 else port.lent }

-- the port answered its next connection, which is fresh, or that no more will come
abbrev pub Accepts : {L : Type 0} → (state : L → LinkState) → (old new : PortState) → Option L → Type 0
Accepts state old new (Some link) = (new ≡ after_link old) × IsFresh (state link)
Accepts state old new None = new ≡ after_last old
