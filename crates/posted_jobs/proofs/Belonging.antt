-- What it says of an answer that it belongs to a request.
use Rattle.std.proofs.Common.{◌≡◌, subst, Some}
use Rattle.sandbox_states.specs.Views.{AnswerView}
use Rattle.wasm_meaning.specs.Requests.{Request, verdict}
use Rattle.worker_desks.specs.declared.tasks.Task.{Task}
use Rattle.worker_desks.specs.declared.tasks.Task.TheVariants.{Answered}
use Rattle.posted_jobs.specs.Posting.{BelongsTo}

pub answers_for : (request : Request) (task : Task) (answer : AnswerView) → task ≡ Answered answer → BelongsTo request task → verdict request ≡ Some answer.verdict
answers_for request task answer is belongs = (subst (BelongsTo request) is belongs).verdict_is
