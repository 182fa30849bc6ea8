use Rattle.std.proofs.Common.{◌≡◌, ℕ, ◌<◌, ◌≤◌, true, false, ◌++◌, length, drop, get_or, vec_capacity}
use Rattle.memory_pool.proofs.Ending.{berths_in, Leaves}
use Rattle.memory_pool.proofs.pools.Pool.close.Given as goal

abbrev pub invariant-loop-slot : goal.invariant-loop-slot
invariant-loop-slot l =
    (l.berths.items ++ berths_in (drop l.slot l.closed.slots.items) ≡ berths_in l.closed.slots.items)
    × Leaves l.fn.self.pages l.fn.pass.taken l.fn.pass.given l.closed.slots.items
    × (length l.closed.slots.items ≡ l.closed.slots.len)
    × (l.closed.slots.len ≡ l.fn.self.id.slots)
    × (l.closed.slots.len ≤ vec_capacity l.berths)
    × (length l.berths.items ≤ l.slot)
    × ((k : ℕ) → l.slot ≤ k → k < l.closed.slots.len → get_or l.closed.slots.filled k false ≡ true)
    × ((k : ℕ) → k < l.slot → get_or l.closed.slots.filled k false ≡ false)
