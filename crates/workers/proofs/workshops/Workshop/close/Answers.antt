use Rattle.workers.proofs.workshops.Workshop.close.Goals as goal

pub returns-clause-tasks : goal.returns-clause-tasks
returns-clause-tasks c = λ place task at.
    let left = c.close.ensures.jobs place task at in
    let owned = left.owned c.requires.fixed in (left.stands, owned)
