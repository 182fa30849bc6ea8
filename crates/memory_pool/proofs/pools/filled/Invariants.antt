use Rattle.std.proofs.Common.{◌≡◌, ◌≤◌, replicate, vec_capacity, Some}
use Rattle.wasm_store.specs.View.{empty}
use Rattle.memory_pool.proofs.pools.filled.Given as goal

abbrev pub invariant-loop : goal.invariant-loop
invariant-loop l = (l.slots.items ≡ replicate l.counter (Some (empty l.pages))) × (l.berths ≤ vec_capacity l.slots)
