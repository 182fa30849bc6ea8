use Rattle.std.proofs.Common.{sym, subst}
use Rattle.sandbox_states.specs.Stands.{IsOneTurn}
use Rattle.shop_desks.specs.Desks.{HandedView, begins_in}
use Rattle.shop_desks.proofs.handed.HandedOut.stopped.Goals as goal

pub of-requires : goal.of-requires
of-requires c =
    c.turns_keep.ensures.stands _ c.args.quantum _ c.args.sandbox c.self.invariant (subst (λ (h : HandedView). IsOneTurn c.args.quantum (begins_in h) c.args.sandbox) (sym c.self.view_is) c.requires)
