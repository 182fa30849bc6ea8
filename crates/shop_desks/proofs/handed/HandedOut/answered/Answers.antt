use Rattle.std.proofs.Common.{sym, subst}
use Rattle.worker_desks.specs.Duties.{IsDelivered}
use Rattle.shop_desks.specs.Desks.{HandedView, begins_in}
use Rattle.shop_desks.proofs.Returning.{answers-over}
use Rattle.shop_desks.proofs.handed.HandedOut.answered.Goals as goal

pub of-requires : goal.of-requires
of-requires c =
    answers-over _ c.args.quantum _ c.args.answer c.args.berth.now c.turns_keep.ensures.answers c.self.invariant
    (subst (λ (h : HandedView). IsDelivered c.args.quantum (begins_in h) c.args.answer c.args.berth.now) (sym c.self.view_is) c.requires)
