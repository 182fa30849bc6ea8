use Rattle.std.proofs.Common.{ap, ◌∙◌}
use Rattle.std.specs.Vec.{vec_capacity}
use Rattle.shop_desks.proofs.Returning.{desk-delivered}
use Rattle.shop_desks.specs.Shops.{ShopView}
use Rattle.shop_desks.proofs.desks.ShopDeskDesk.deliver.Goals as goal

pub invariant_of-self : goal.invariant_of-self
invariant_of-self g c =
    desk-delivered _ c.self.invariant c.args.berth _ _ _ c.put_answered.ensures c.give_back.new.pass c.give_back.new.stock.items (vec_capacity c.give_back.new.stock) _ (ap (λ (s : ShopView). s.pool) (c.behind-self-in-Some-2.view_is ∙ c.deref-in-Some-3.ensures)) c.give_back.ensures.berth
    c.give_back.ensures.room _ c.take.ensures.after
