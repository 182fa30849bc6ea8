-- What a task tells its board, and which request it is the task of.
use Rattle.std.specs.Prelude.{◌≡◌, ℕ, ◌≤◌, Option, Some, None}
use Rattle.std.proofs.Common.{refl, sym, subst}
use Rattle.job_board.specs.declared.words.Kind.{Kind}
use Rattle.job_board.specs.declared.words.Kind.TheVariants as kind
use Rattle.sandbox_states.specs.Stands.{StandsInTurns, AnswersIn}
use Rattle.sandbox_states.specs.Views.{AdmittedView}
use Rattle.worker_desks.specs.declared.tasks.Task.{Task}
use Rattle.worker_desks.specs.declared.tasks.Task.TheVariants.{Waiting, Suspended, Answered}

abbrev pub place_of : Task → ℕ
place_of (Waiting job) = job.place
place_of (Suspended sandbox) = sandbox.place
place_of (Answered answer) = answer.place

abbrev pub kind_of : Task → Kind
kind_of (Waiting job) = kind.Waiting
kind_of (Suspended sandbox) = kind.Suspended
kind_of (Answered answer) = kind.Answered

abbrev pub turns_of : Task → ℕ
turns_of (Waiting job) = 0
turns_of (Suspended sandbox) = sandbox.turns
turns_of (Answered answer) = answer.turns

-- the request as it was admitted, which only a task that waits has as a whole
abbrev pub admitted_as : Task → Option AdmittedView
admitted_as (Waiting job) = Some job
admitted_as (Suspended sandbox) = None
admitted_as (Answered answer) = None

-- in turns of so many units: this request itself, a sandbox that stands for it, or its answer
abbrev pub IsTaskOf : (quantum : ℕ) → Option AdmittedView → Task → Type 0
IsTaskOf quantum None task = ⊥
IsTaskOf quantum (Some job) (Waiting own) = own.request ≡ job.request
IsTaskOf quantum (Some job) (Suspended sandbox) = StandsInTurns job.request quantum sandbox
IsTaskOf quantum (Some job) (Answered answer) = AnswersIn job.request quantum answer.verdict answer.units answer.turns

-- the same by the first task of a place
abbrev pub IsNextOf : (quantum : ℕ) → (first : Task) → Task → Type 0
IsNextOf quantum first task = IsTaskOf quantum (admitted_as first) task

-- the pages that the request of a task which waits has to have
abbrev pub FitsIn : (pages : ℕ) → Task → Type 0
FitsIn pages (Waiting job) = job.request.program.pages ≤ pages
FitsIn pages (Suspended sandbox) = Unit {0}
FitsIn pages (Answered answer) = Unit {0}

-- A task that waits is the task of its own request.

abbrev Waits : Kind → Type 0
Waits kind.Waiting = Unit {0}
Waits kind.Suspended = ⊥
Waits kind.Answered = ⊥

its_own : (quantum : ℕ) (task : Task) → Waits (kind_of task) → IsTaskOf quantum (admitted_as task) task
its_own quantum (Waiting job) waits = refl
its_own quantum (Suspended sandbox) waits = absurd waits
its_own quantum (Answered answer) waits = absurd waits

pub waits_for_its_own : (quantum : ℕ) (task : Task) → kind_of task ≡ kind.Waiting → IsTaskOf quantum (admitted_as task) task
waits_for_its_own quantum task waits = its_own quantum task (subst Waits (sym waits) tt)
