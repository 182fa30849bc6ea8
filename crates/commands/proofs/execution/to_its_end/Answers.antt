-- What the request began as is what its last turn answers.
use Rattle.std.proofs.Common.{subst, sym}
use Rattle.sandbox_states.specs.Stands.{AnswersFor}
use Rattle.sandbox_states.specs.Views.{AnswerView}
use Rattle.commands.proofs.execution.to_its_end.Goals as goal

pub returns-in-Done : goal.returns-in-Done
returns-in-Done c = λ request stands.
    subst (λ (a : AnswerView). AnswersFor request a.verdict a.units) (sym c.settle-answer.ensures.answer)
    (c.in-Done.ensures.stands request (c.loop-stopped.invariant request stands))
