use Rattle.std.proofs.Common.{◌≡◌, arith, refl}
use Rattle.worker_desks.proofs.Returning.{returns-stopped, belongs-stopped, push-room, shared-put-back, regains-put, rises-due}
use Rattle.worker_desks.proofs.shared_desks.SharedDeskDesk.put_back.Goals as goal

pub put_suspended-requires-clause-belongs : goal.put_suspended-requires-clause-belongs
put_suspended-requires-clause-belongs c =
    belongs-stopped _ _ c.self.view_is c.self.invariant.0 c.args.sandbox c.requires c.turns_keep.ensures.one _ c.place.ensures

pub push-requires : goal.push-requires
push-requires c =
    record { room = push-room _ c.place.result c.args.sandbox.turns c.self.invariant.0 (returns-stopped _ _ c.self.view_is c.self.invariant.0 c.args.sandbox c.requires _ c.place.ensures) }

pub invariant_of-self : goal.invariant_of-self
invariant_of-self c = (
  shared-put-back _ c.place.result c.args.sandbox.turns _ _ _ c.self.invariant.0 (returns-stopped _ _ c.self.view_is c.self.invariant.0 c.args.sandbox c.requires _ c.place.ensures) c.put_suspended.ensures c.push.ensures refl c.turns.ensures.turns,
  c.self.invariant.1,
)
