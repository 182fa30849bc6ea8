use Rattle.std.proofs.Common.{◌∙◌, true}
use Rattle.memory_pool.proofs.Rows.{tried_more}
use Rattle.memory_pool.specs.declared.movers.Found.TheVariants.{Empty}
use Rattle.memory_pool.proofs.pools.Pool.give.Goals as goal

pub loop-slot-preserved : goal.loop-slot-preserved
loop-slot-preserved c =
    let e = c.in-Kept.ensures in
    (tried_more true Empty _ _ _ _ e.1.0 c.loop-slot.invariant.0 e.1.1 e.1.2, e.0 ∙ c.loop-slot.invariant.1)
