use Rattle.std.proofs.Common.{ap, sym, subst}
use Rattle.sandbox_states.specs.Views.{SandboxView}
use Rattle.worker_desks.specs.declared.tasks.Task.{Task}
use Rattle.workers.specs.Tasks.{IsFinishOf}
use Rattle.workers.proofs.Ends.{begun_and_ended}
use Rattle.workers.proofs.leftovers.finish.Goals as goal

pub returns-in-Waiting-clause-answer : goal.returns-in-Waiting-clause-answer
returns-in-Waiting-clause-answer g c =
    subst (λ (t : Task). IsFinishOf c.args.settings.now.quantum t c.run_on.result.0) (sym c.in-Waiting.is)
    (begun_and_ended c.args.settings.now.quantum c.in-Waiting.job c.start.result c.run_on.result.0 (ap (λ (s : SandboxView). s.place) c.start.ensures.started) (c.start.ensures.in_turns c.args.settings.now.quantum) c.run_on.ensures.answer)
