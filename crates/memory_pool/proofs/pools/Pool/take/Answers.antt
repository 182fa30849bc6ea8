use Rattle.std.proofs.Common.{false}
use Rattle.memory_pool.proofs.Rows.{tried_more}
use Rattle.memory_pool.specs.declared.movers.Found.TheVariants.{Full}
use Rattle.memory_pool.proofs.pools.Pool.take.Goals as goal

pub loop-slot-preserved : goal.loop-slot-preserved
loop-slot-preserved c =
    let e = c.in-None.ensures in
    tried_more false Full _ _ _ _ e.0 c.loop-slot.invariant e.1 e.2
