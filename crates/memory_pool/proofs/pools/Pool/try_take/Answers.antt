use Rattle.std.proofs.Common.{◌≡◌, ◌<◌, rules, arith, ap, ◌∙◌}
use Rattle.memory_pool.proofs.Handing.{Seat, takes_one, ends_taking, out_now}
use Rattle.memory_pool.proofs.pools.Pool.try_take.Goals as goal

pub compare_exchange-found-requires : goal.compare_exchange-found-requires
compare_exchange-found-requires c =
    let inside : c.args.slot < c.self.inside.table.shared.table_id.slots = search rules in
    (search rules, omega (arith, inside, c.self.invariant.0), takes_one _ _ _ _ _ c.pass.invariant.0 c.pass.invariant.1 inside)

pub exchange-berth-requires : goal.exchange-berth-requires
exchange-berth-requires c =
    let played = c.compare_exchange-found.ensures.2.0 (search rules) in
    (search rules, (_, out_now _ _ _ _ _ played))

pub store-requires : goal.store-requires
store-requires c =
    let inside : c.args.slot < c.self.inside.table.shared.table_id.slots = search rules in
    let played = c.compare_exchange-found.ensures.2.0 (search rules) in
    let parts = ap (λ (m : Seat). m.0.parts) played in (
      search rules,
      omega (arith, inside, c.self.invariant.0),
      ends_taking _ _ _ _ c.compare_exchange-found.new.seat.me.0 c.args.slot _ c.exchange-berth.ensures.3 (omega (arith, parts, c.pass.invariant.0)) (ap (λ (m : Seat). m.0.moving) played) inside,
    )
