use Rattle.std.proofs.Common.{rules}
use Rattle.run_queues.proofs.Draws.{cuts}
use Rattle.run_queues.proofs.common_queues.Common.split.Goals as goal

pub split_seat-requires : goal.split_seat-requires
split_seat-requires c = (search rules, search rules, cuts _ _ (search rules))
