-- What contracts see of a worker's own queue.
use Rattle.std.specs.Prelude.{ℕ, List}
use Rattle.run_queues.specs.declared.entries.Entry.{Entry}
use Rattle.run_queues.specs.declared.policies.Policy.{Policy}

-- the policy, how many entries there may be, and the entries in the order in which they were pushed
pub record Queue : Type 0 where
  pub policy : Policy
  pub room : ℕ
  pub entries : List Entry
