-- Requests that the caller finishes.
use Rattle.std.proofs.Common.{◌≡◌, ℕ, ◌∙◌, subst}
use Rattle.sandbox_states.specs.Stands.{AnswersIn, StandsInTurns}
use Rattle.sandbox_states.specs.Views.{AdmittedView, AnswerView, SandboxView}
use Rattle.wasm_meaning.specs.Requests.{Request}
use Rattle.worker_desks.specs.declared.tasks.Task.TheVariants.{Waiting}
use Rattle.workers.specs.Tasks.{IsEndOf, IsFinishOf}

-- a request that begins now, and is run to its end
pub begun_and_ended : (quantum : ℕ) (own : AdmittedView) (s : SandboxView) (answer : AnswerView) → s.place ≡ own.place → StandsInTurns own.request quantum s → IsEndOf quantum s answer → IsFinishOf quantum (Waiting own) answer
begun_and_ended quantum own s answer place stands ended = λ job at.
    record {
      place = ended.place ∙ (place ∙ at.place);
      answers = subst (λ (r : Request). AnswersIn r quantum answer.verdict answer.units answer.turns) at.owned (ended.answers own.request stands);
    }
