use Rattle.std.proofs.Common.{rules}
use Rattle.run_queues.proofs.Draws.{unites}
use Rattle.run_queues.proofs.common_queues.Common.join.Goals as goal

pub join_seat-requires : goal.join_seat-requires
join_seat-requires c =
    (search rules, search rules, search rules, search rules, unites _ _ _ _ c.pass.invariant.0)
