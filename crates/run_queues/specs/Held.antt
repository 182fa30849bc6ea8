-- How a worker's own queue holds its entries.
use Rattle.std.specs.Prelude.{◌≡◌, ℕ, ◌≤◌, List, length, vec_capacity}
use Rattle.run_queues.specs.declared.entries.Entry.{Entry}
use Rattle.run_queues.specs.declared.local_queues.Waiting.{Waiting}
use Rattle.run_queues.specs.declared.local_queues.Waiting.TheVariants.{InTurn, ByDeadline}
use Rattle.run_queues.specs.declared.policies.Policy.{Policy}
use Rattle.run_queues.specs.declared.policies.Policy.TheVariants.{RoundRobin, EarliestDeadline}

abbrev pub policy_of : Waiting → Policy
policy_of (InTurn _) = RoundRobin
policy_of (ByDeadline _) = EarliestDeadline

abbrev pub entries_of : Waiting → List Entry
entries_of (InTurn ring) = ring.items
entries_of (ByDeadline entries) = entries.items

-- there are no more entries than the room, and memory for all of it
abbrev pub HasRoom : (room : ℕ) → Waiting → Type 0
HasRoom room (InTurn ring) = ring.capacity ≡ room
HasRoom room (ByDeadline entries) = room ≤ vec_capacity entries
