use Rattle.std.proofs.Common.{◌≡◌, ◌<◌, rules, arith, ap, sym, ◌∙◌}
use Rattle.wasm_store.specs.View.{empty}
use Rattle.memory_pool.specs.Passing.{PassView}
use Rattle.memory_pool.proofs.Handing.{Seat, gives_one, ends_giving}
use Rattle.memory_pool.proofs.pools.Pool.try_give.Goals as goal

pub compare_exchange-found-requires : goal.compare_exchange-found-requires
compare_exchange-found-requires c =
    let inside : c.args.slot < c.self.inside.table.shared.table_id.slots = search rules in
    (search rules, omega (arith, inside, c.self.invariant.0), gives_one _ _ _ _ _ c.pass.invariant.0 c.pass.invariant.1 inside)

pub store-requires : goal.store-requires
store-requires c =
    let inside : c.args.slot < c.self.inside.table.shared.table_id.slots = search rules in
    let played = c.compare_exchange-found.ensures.2.0 (search rules) in
    let parts = ap (λ (m : Seat). m.0.parts) played in
    let pages : c.args.berth.pages ≡ c.compare_exchange-found.new.seat.me.0.pages =
    c.requires.pages ∙ (sym c.requires.own.1 ∙ (sym (ap (λ (p : PassView). p.pages) c.pass.view_is) ∙ sym (ap (λ (m : Seat). m.0.pages) played))) in (
      search rules,
      omega (arith, inside, c.self.invariant.0),
      ends_giving _ _ _ _ c.compare_exchange-found.new.seat.me.0 c.args.slot c.args.berth _ c.exchange.ensures.3 (c.pages-pages.ensures.clean ∙ ap empty pages) (omega (arith, parts, c.pass.invariant.0)) (ap (λ (m : Seat). m.0.moving) played) inside,
    )
