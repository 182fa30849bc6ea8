use Rattle.std.proofs.Common.{◌≡◌, arith}
use Rattle.worker_desks.proofs.Keeping.{shared-roomy}
use Rattle.worker_desks.proofs.Returning.{returns-answered, belongs-answered, stock-room, shared-delivered, regains-put, rises-due}
use Rattle.worker_desks.proofs.shared_desks.SharedDeskDesk.deliver.Goals as goal

pub put_answered-requires-clause-belongs : goal.put_answered-requires-clause-belongs
put_answered-requires-clause-belongs c =
    belongs-answered _ _ c.self.view_is c.self.invariant.0 c.args.answer c.args.berth c.requires c.turns_keep.ensures.last _ c.place-place.ensures

pub give_back-requires-clause-room : goal.give_back-requires-clause-room
give_back-requires-clause-room c =
    let r = returns-answered _ _ c.self.view_is c.self.invariant.0 c.args.answer c.args.berth c.requires _ c.place-place.ensures in
    omega (arith, c.self.invariant.1, stock-room _ _ _ c.self.invariant.0 r)

pub invariant_of-self : goal.invariant_of-self
invariant_of-self c =
    let r = returns-answered _ _ c.self.view_is c.self.invariant.0 c.args.answer c.args.berth c.requires _ c.place-place.ensures in
    (shared-roomy _ _ (shared-delivered _ _ _ _ _ _ c.args.berth c.self.invariant.0 r c.put_answered.ensures c.give_back.ensures.berth), omega (arith, c.self.invariant.1, c.give_back.ensures.room))

pub returns-clause-back : goal.returns-clause-back
returns-clause-back c =
    let r = returns-answered _ _ c.self.view_is c.self.invariant.0 c.args.answer c.args.berth c.requires _ c.place-place.ensures in
    rw (← c.self.view_is) (regains-put _ _ _ _ _ r (rises-due _ _ _ r).1 c.put_answered.ensures)
