-- What stands at the places of a batch once its workers have ended.
use Rattle.std.specs.Prelude.{◌≡◌, ℕ, List, Some}
use Rattle.std.specs.List.{AllZip}
use Rattle.sandbox_states.specs.Stands.{AnswersIn, StandsInTurns}
use Rattle.sandbox_states.specs.Views.{AdmittedView, AnswerView, SandboxView}
use Rattle.wasm_meaning.specs.Requests.{Request}
use Rattle.worker_desks.specs.Tasks.{IsTaskOf, place_of}
use Rattle.worker_desks.specs.declared.tasks.Task.{Task}
use Rattle.workers.specs.Batches.{IsAnswerTo}

-- the request's own task, at its place
pub record IsAtPlaceOf (quantum : ℕ) (job : AdmittedView) (task : Task) : Type 0 where
  pub place : place_of task ≡ job.place
  pub owned : IsTaskOf quantum (Some job) task

abbrev pub AreTasksOf : (quantum : ℕ) → List AdmittedView → List Task → Type 0
AreTasksOf quantum jobs tasks = AllZip (IsAtPlaceOf quantum) jobs tasks

-- whichever request it is the task of, the answer is to that one
abbrev pub IsFinishOf : (quantum : ℕ) → Task → AnswerView → Type 0
IsFinishOf quantum task answer = (job : AdmittedView) → IsAtPlaceOf quantum job task → IsAnswerTo quantum job answer

-- whatever request the sandbox stands for, the answer is that one's, at the sandbox's place
pub record IsEndOf (quantum : ℕ) (sandbox : SandboxView) (answer : AnswerView) : Type 0 where
  pub place : answer.place ≡ sandbox.place
  pub answers : (request : Request) → StandsInTurns request quantum sandbox → AnswersIn request quantum answer.verdict answer.units answer.turns
