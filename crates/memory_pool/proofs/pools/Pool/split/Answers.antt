use Rattle.std.proofs.Common.{rules}
use Rattle.memory_pool.proofs.Handing.{cuts}
use Rattle.memory_pool.proofs.pools.Pool.split.Goals as goal

pub split_seat-requires : goal.split_seat-requires
split_seat-requires c = (search rules, search rules, cuts _ _ _ (search rules))
