use Rattle.std.proofs.Common.{rules}
use Rattle.memory_pool.proofs.Handing.{unites}
use Rattle.memory_pool.proofs.pools.Pool.join.Goals as goal

pub join_seat-requires : goal.join_seat-requires
join_seat-requires c =
    (search rules, search rules, search rules, search rules, unites _ _ _ _ _ c.pass.invariant.0 c.other.invariant.1)
