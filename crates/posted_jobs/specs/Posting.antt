-- A job that keeps its request, and when its task belongs to that.
use Rattle.std.specs.Prelude.{◌≡◌, ℕ, List}
use Rattle.sandbox_states.specs.Stands.{StandsFor, AnswersFor}
use Rattle.sandbox_states.specs.Views.{AdmittedView}
use Rattle.wasm_meaning.specs.Programs.{Program}
use Rattle.wasm_meaning.specs.Requests.{Request}
use Rattle.job_board.specs.declared.words.Kind.{Kind}
use Rattle.worker_desks.specs.Tasks.{place_of, kind_of, turns_of}
use Rattle.worker_desks.specs.declared.tasks.Task.{Task}
use Rattle.worker_desks.specs.declared.tasks.Task.TheVariants.{Waiting, Suspended, Answered}

abbrev pub kept : Program → (body : List ℕ) → (budget : ℕ) → Request
kept program body budget = record { program = program; body = body; budget = budget }

-- the request as it is admitted at a place
abbrev pub admitted_at : Request → (place deadline : ℕ) → AdmittedView
admitted_at request place deadline = record { place = place; deadline = deadline; request = request }

-- what waits is this request; what was stopped stands for it, whatever its turns; what was answered has its verdict and its units
abbrev pub BelongsTo : Request → Task → Type 0
BelongsTo request (Waiting job) = job.request ≡ request
BelongsTo request (Suspended sandbox) = StandsFor request sandbox
BelongsTo request (Answered answer) = AnswersFor request answer.verdict answer.units

-- a job: the request that it keeps, and how far it has come
pub record PostedView : Type 0 where
  pub request : Request
  pub task : Task

abbrev pub posted : Request → Task → PostedView
posted request task = record { request = request; task = task }

-- what it tells its board
abbrev pub place_in : PostedView → ℕ
place_in job = place_of job.task

abbrev pub kind_in : PostedView → Kind
kind_in job = kind_of job.task

abbrev pub turns_in : PostedView → ℕ
turns_in job = turns_of job.task

-- a job that waits
abbrev pub waiting_job : Request → (place deadline : ℕ) → PostedView
waiting_job request place deadline = posted request (Waiting (admitted_at request place deadline))
