-- Which entry of a queue is served next.
use Rattle.std.specs.Prelude.{◌≡◌, ℕ, Bool, List, length, slice_get, Some}
use Rattle.std.specs.Ordering.{is_lt, nat_cmp, ordering_then}
use Rattle.std.specs.List.{IsFirstBest, remove}
use Rattle.run_queues.specs.declared.entries.Entry.{Entry}
use Rattle.run_queues.specs.declared.policies.Policy.{Policy}
use Rattle.run_queues.specs.declared.policies.Policy.TheVariants.{RoundRobin, EarliestDeadline}

-- by deadline, then by place, then by turns
abbrev pub comes_before : (entry other : Entry) → Bool
comes_before entry other =
    is_lt (ordering_then (nat_cmp entry.deadline other.deadline) (ordering_then (nat_cmp entry.place other.place) (nat_cmp entry.turns other.turns)))

-- the policy serves the entry at this index: the first that was pushed, or the first of the least ones
abbrev pub IsServed : Policy → List Entry → (at : ℕ) → Type 0
IsServed RoundRobin entries at = at ≡ 0
IsServed EarliestDeadline entries at = IsFirstBest comes_before entries (length entries) at

-- of the entries before, the one that the policy serves next is taken out, and the others stay in order
pub record Takes (policy : Policy) (before after : List Entry) (entry : Entry) : Type 0 where
  pub at : ℕ
  pub served : IsServed policy before at
  pub is : slice_get before at ≡ Some entry
  pub others : after ≡ remove before at
