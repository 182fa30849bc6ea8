use Rattle.std.proofs.Common.{◌≡◌, true}
use Rattle.memory_pool.proofs.Rows.{Tried}
use Rattle.memory_pool.specs.declared.movers.Found.TheVariants.{Empty}
use Rattle.memory_pool.proofs.pools.Pool.give.Given as goal

abbrev pub invariant-loop-slot : goal.invariant-loop-slot
invariant-loop-slot l = Tried true Empty l.fn.pass l.pass l.slot × (l.berth ≡ l.fn.berth)
