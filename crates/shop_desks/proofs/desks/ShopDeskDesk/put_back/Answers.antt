use Rattle.std.proofs.Common.{arith}
use Rattle.shop_desks.proofs.Returning.{desk-put-back}
use Rattle.shop_desks.proofs.desks.ShopDeskDesk.put_back.Goals as goal

pub invariant_of-self : goal.invariant_of-self
invariant_of-self g c =
    desk-put-back _ _ c.self.view_is c.self.invariant c.args.sandbox c.requires _ c.place.ensures (omega (arith, c.turns.ensures.turns, c.turns.ensures.most)) _ _ _ c.put_suspended.ensures _ c.push.ensures _ c.take.ensures.after

pub invariant_of-self-else-has_others : goal.invariant_of-self-else-has_others
invariant_of-self-else-has_others g c =
    desk-put-back _ _ c.self.view_is c.self.invariant c.args.sandbox c.requires _ c.place.ensures (omega (arith, c.turns.ensures.turns, c.turns.ensures.most)) _ _ _ c.put_suspended.ensures _ c.push.ensures _ c.take.ensures.after
