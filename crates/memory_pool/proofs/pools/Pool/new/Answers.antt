use Rattle.std.proofs.Common.{◌≡◌, rules, replicate}
use Rattle.memory_pool.proofs.Ending.{starts}
use Rattle.memory_pool.proofs.pools.Pool.new.Goals as goal

pub new-requires : goal.new-requires
new-requires c =
    let words : c.as_slice.result.now ≡ replicate c.args.berths 1 = search rules in
    starts _ c.args.berths _ _ words c.in_ok-slots.ensures
