use Rattle.std.proofs.Common.{false}
use Rattle.memory_pool.proofs.Rows.{Tried}
use Rattle.memory_pool.specs.declared.movers.Found.TheVariants.{Full}
use Rattle.memory_pool.proofs.pools.Pool.take.Given as goal

abbrev pub invariant-loop-slot : goal.invariant-loop-slot
invariant-loop-slot l = Tried false Full l.fn.pass l.pass l.slot
