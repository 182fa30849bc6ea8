-- The batch that the admitted requests of a replay make: one for each admitted item, in order.
use Rattle.std.specs.Prelude.{◌≡◌, ℕ, ◌≤◌, ◌^◌, List, [], ◌∷◌, ◌++◌, length, Some}
use Rattle.sandbox_states.specs.Stands.{AnswersIn}
use Rattle.sandbox_states.specs.Views.{AdmittedView, AnswerView}
use Rattle.serve_config.specs.declared.tenants.Tenant.{Tenant}
use Rattle.wasm_meaning.specs.Programs.{Program}
use Rattle.wasm_meaning.specs.Requests.{Request}
use Rattle.recorded_runner.specs.Fates.{Entry, Fate, Refuses, Admits, Decided}
use Rattle.recorded_runner.specs.Replies.{request_at}

-- One for each admitted item.

-- where an item is admitted, the first of these is its own; a refusal has none
abbrev pub FirstIs : {A : Type 0} → (IsOf : Entry → A → Type 0) → Fate → List A → Type 0
FirstIs IsOf (Refuses refusal) xs = Unit {0}
FirstIs IsOf (Admits entry) [] = ⊥
FirstIs IsOf (Admits entry) (x ∷ xs) = IsOf entry x

-- those that are left to the items behind
abbrev pub behind : {A : Type 0} → Fate → List A → List A
behind (Refuses refusal) xs = xs
behind (Admits entry) [] = []
behind (Admits entry) (x ∷ xs) = xs

-- each admitted item has its own, in order, and there are no others
abbrev pub AreOfAdmitted : {A : Type 0} → (IsOf : Entry → A → Type 0) → List Decided → List A → Type 0
AreOfAdmitted IsOf [] xs = xs ≡ []
AreOfAdmitted IsOf (d ∷ items) xs = FirstIs IsOf d.fate xs × AreOfAdmitted IsOf items (behind d.fate xs)

-- The jobs of a batch.

-- the job is the request that the body makes at the route, and is due at the same moment
pub record IsJobOf (tenants : List Tenant) (programs : List Program) (entry : Entry) (job : AdmittedView) : Type 0 where
  pub made : request_at tenants programs entry.route entry.body ≡ Some job.request
  pub due : job.deadline ≡ entry.deadline

abbrev pub AreJobsOf : List Tenant → List Program → List Decided → List AdmittedView → Type 0
AreJobsOf tenants programs items jobs = AreOfAdmitted (IsJobOf tenants programs) items jobs

-- behind these an admitted item's job, which has their number as its place; none for a refusal
abbrev pub AddsJobOf : List Tenant → List Program → Fate → (old new : List AdmittedView) → Type 0
AddsJobOf tenants programs (Refuses refusal) old new = new ≡ old
AddsJobOf tenants programs (Admits entry) old new =
    (job : AdmittedView) × (new ≡ old ++ job ∷ []) × (job.place ≡ length old) × IsJobOf tenants programs entry job

-- Their answers.

-- the verdict, the units and the turns of the request that the body makes at the route
pub record IsAnswerFor (tenants : List Tenant) (programs : List Program) (quantum : ℕ) (entry : Entry) (answer : AnswerView) : Type 0 where
  pub request : Request
  pub made : request_at tenants programs entry.route entry.body ≡ Some request
  pub answers : AnswersIn request quantum answer.verdict answer.units answer.turns

abbrev pub AreAnswersFor : List Tenant → List Program → (quantum : ℕ) → List Decided → List AnswerView → Type 0
AreAnswersFor tenants programs quantum items answers = AreOfAdmitted (IsAnswerFor tenants programs quantum) items answers

-- the units are no more than a budget may have
abbrev pub IsWithinBudgets : Entry → AnswerView → Type 0
IsWithinBudgets entry answer = answer.units ≤ 2 ^ 40
