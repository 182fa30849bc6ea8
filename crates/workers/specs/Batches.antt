-- What a batch of requests asks and answers. It speaks of requests and answers alone, and of no worker.
use Rattle.std.specs.Prelude.{◌≡◌, ℕ, ◌+◌, ◌*◌, ◌≤◌, List, slice_get, Some}
use Rattle.std.specs.List.{AllZip}
use Rattle.sandbox_states.specs.Stands.{AnswersIn}
use Rattle.sandbox_states.specs.Views.{AdmittedView, AnswerView}
use Rattle.worker_desks.specs.declared.settings.Settings.{Settings}

-- the limits of a batch
pub record IsWithinLimits (s : Settings) : Type 0 where
  pub some_workers : 1 ≤ s.workers
  pub most_workers : s.workers ≤ 64
  pub quantum : 1 ≤ s.quantum
  pub berths : 1 ≤ s.berths
  pub pages : 1 ≤ s.pages
  pub room : (s.berths + 1) * s.pages ≤ 16384

-- each request has its number in the batch as its place
abbrev pub AreNumbered : List AdmittedView → Type 0
AreNumbered jobs = (place : ℕ) (job : AdmittedView) → slice_get jobs place ≡ Some job → job.place ≡ place

-- a berth of so many pages has room for the program
abbrev pub FitsBerths : (pages : ℕ) → AdmittedView → Type 0
FitsBerths pages job = job.request.program.pages ≤ pages

-- the request's place, and its verdict, its units and its turns
pub record IsAnswerTo (quantum : ℕ) (job : AdmittedView) (answer : AnswerView) : Type 0 where
  pub place : answer.place ≡ job.place
  pub answers : AnswersIn job.request quantum answer.verdict answer.units answer.turns

-- answer by answer, each to the request of its number
abbrev pub AreAnswersTo : (quantum : ℕ) → List AdmittedView → List AnswerView → Type 0
AreAnswersTo quantum jobs answers = AllZip (IsAnswerTo quantum) jobs answers
