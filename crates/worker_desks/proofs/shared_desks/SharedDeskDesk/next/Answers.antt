use Rattle.std.proofs.Common.{◌≡◌, arith}
use Rattle.worker_desks.proofs.Keeping.{none-out, shared-roomy, keeps-begun, gives-begun, keeps-resumed, gives-resumed, shared-rested, closes-rested}
use Rattle.worker_desks.proofs.shared_desks.SharedDeskDesk.next.Goals as goal

pub invariant_of-self : goal.invariant_of-self
invariant_of-self c =
    (shared-roomy _ _ (keeps-begun _ _ _ _ _ c.in-Some.duty _ c.of.ensures c.self.invariant.0 (none-out _ _ c.self.view_is c.requires) c.in-Some.ensures.begun), omega (arith, c.self.invariant.1, c.in-Some.ensures.room))

pub returns-in-Some-clause-some : goal.returns-in-Some-clause-some
returns-in-Some-clause-some c =
    rw (← c.self.view_is) (gives-begun _ _ _ _ _ c.in-Some.duty _ c.of.ensures c.self.invariant.0 (none-out _ _ c.self.view_is c.requires) c.in-Some.ensures.begun)

pub invariant_of-self-in-Some-resume : goal.invariant_of-self-in-Some-resume
invariant_of-self-in-Some-resume c = (
  shared-roomy _ _ (keeps-resumed _ c.begin-begun.new.board_pass c.resume.new.pass c.begin-begun.new.pool_pass c.begin-begun.new.queue_pass c.resume.new.local c.begin-begun.new.stock.items c.in-Some-resume.sandbox _ c.of-in-Some-resume.ensures c.self.invariant.0
      (none-out _ _ c.self.view_is c.requires) c.in-Some-resume.ensures.few c.in_default.ensures.begun c.in-Some-resume.ensures.resumed c.in-Some-resume.ensures.queue.1),
  omega (arith, c.self.invariant.1, c.in_default.ensures.room),
)

pub returns-in-Some-resume-clause-some : goal.returns-in-Some-resume-clause-some
returns-in-Some-resume-clause-some c =
    rw (← c.self.view_is) (gives-resumed _ c.begin-begun.new.board_pass c.resume.new.pass c.begin-begun.new.pool_pass c.begin-begun.new.queue_pass c.resume.new.local c.begin-begun.new.stock.items c.in-Some-resume.sandbox _ c.of-in-Some-resume.ensures
    c.self.invariant.0 (none-out _ _ c.self.view_is c.requires) c.in-Some-resume.ensures.few c.in_default.ensures.begun c.in-Some-resume.ensures.resumed)

pub returns-in-Some-resume-clause-next : goal.returns-in-Some-resume-clause-next
returns-in-Some-resume-clause-next c =
    rw (← c.self.view_is) (c.begin-begun.new.board_pass, c.in_default.ensures.begun, c.in-Some-resume.ensures.resumed)

pub invariant_of-self-in-None : goal.invariant_of-self-in-None
invariant_of-self-in-None c = (
  shared-roomy _ _ (shared-rested _ c.begin-begun.new.board_pass c.resume.new.pass c.begin-begun.new.pool_pass c.begin-begun.new.queue_pass c.resume.new.local c.begin-begun.new.stock.items c.self.invariant.0 (none-out _ _ c.self.view_is c.requires) c.in_default.ensures.begun
      c.in-None.ensures.resumed c.in-None.ensures.queue.1),
  omega (arith, c.self.invariant.1, c.in_default.ensures.room),
)

pub returns-in-None-clause-none : goal.returns-in-None-clause-none
returns-in-None-clause-none c =
    rw (← c.self.view_is) (closes-rested _ c.begin-begun.new.board_pass c.resume.new.pass c.begin-begun.new.pool_pass c.begin-begun.new.queue_pass c.resume.new.local c.begin-begun.new.stock.items c.self.invariant.0 (none-out _ _ c.self.view_is c.requires)
    c.in_default.ensures.begun c.in-None.ensures.resumed)
