-- A batch as it is laid on its board, and as it is taken from there.
use Rattle.std.proofs.Common.{◌≡◌, ℕ, zero, suc, ◌<◌, ◌≤◌, List, length, map, slice_get, Option, Some, None, true, refl, sym, ap, subst, ◌∙◌, arith}
use Rattle.std.proofs.lemmas.List.Elements.{All-map}
use Rattle.std.proofs.lemmas.List.{length-map}
use Rattle.std.proofs.lemmas.Option.{slice_get-map, slice_get_within, get_or_from_slice_get, slice_get-get_or}
use Rattle.std.proofs.lemmas.Slice.Zip.{AllZip-long}
use Rattle.std.specs.List.{All}
use Rattle.std.specs.Prelude.{option_map, get_or, ◌∷◌, []}
use Rattle.job_board.specs.Boarding.{terms}
use Rattle.job_board.specs.Ends.{AreUnbegun}
use Rattle.job_board.specs.declared.holders.Terms.{Terms}
use Rattle.job_board.specs.declared.words.Kind.TheVariants as kind
use Rattle.sandbox_states.specs.Views.{AdmittedView}
use Rattle.worker_desks.specs.Tasks.{place_of, kind_of, turns_of, FitsIn, IsNextOf, IsTaskOf, admitted_as}
use Rattle.worker_desks.specs.declared.settings.Settings.{Settings}
use Rattle.worker_desks.specs.declared.tasks.Task.{Task}
use Rattle.worker_desks.specs.declared.tasks.Task.TheVariants.{Waiting, Suspended, Answered}
use Rattle.workers.proofs.Zips.{zip_by_number, zip_at}
use Rattle.workers.specs.Batches.{AreNumbered, FitsBerths, IsWithinLimits}
use Rattle.workers.specs.Tasks.{IsAtPlaceOf, AreTasksOf}
use Rattle.workers.specs.Workshops.{IsLaidOut, TakesDesks}
use Rattle.workers.specs.declared.workshops.Passes.{Passes}
use Rattle.workers.specs.declared.workshops.Workshop.{Workshop}

-- a member of a mapped list is that of the list itself
record IsFrom {A B : Type 0} (f : A → B) (xs : List A) (k : ℕ) (y : B) : Type 0 where
  source : A
  at : slice_get xs k ≡ Some source
  is : y ≡ f source

from_map : {A B : Type 0} (f : A → B) (xs : List A) (k : ℕ) (y : B) → slice_get (map f xs) k ≡ Some y → IsFrom f xs k y
from_map {A} {B} f xs k y at = by (slice_get xs k) refl (sym (slice_get-map f xs k) ∙ at)
  where
    by : (o : Option A) → slice_get xs k ≡ o → option_map f o ≡ Some y → IsFrom f xs k y
    by None has is = absurd cc
    by (Some x) has is = record { source = x; at = has; is = cc }

pub unbegun : (jobs : List AdmittedView) → AreNumbered jobs → AreUnbegun place_of kind_of turns_of (map Waiting jobs)
unbegun jobs numbered = λ place task at.
    let f = from_map Waiting jobs place task at in
    subst (λ (t : Task). (place_of t ≡ place) × (kind_of t ≡ kind.Waiting) × (turns_of t ≡ 0)) (sym f.is) (numbered place f.source f.at, refl, refl)

pub takes_desks : (s : Settings) (jobs : List AdmittedView) (tasks : List Task) (w : Workshop) (passes : Passes) → tasks ≡ map Waiting jobs → length jobs ≤ 4096 → IsWithinLimits s → All (FitsBerths s.pages) jobs
    → IsLaidOut s tasks w passes → TakesDesks w s.quantum
takes_desks s jobs tasks w passes are few limits fits laid =
    let given : w.board.terms.jobs ≡ map Waiting jobs = ap (λ (t : Terms Task). t.jobs) laid.terms_are ∙ are in
    record {
      some = limits.quantum;
      quantum_is = ap (λ (t : Terms Task). t.quantum) laid.terms_are;
      fixed = ap (λ (t : Terms Task). t.fixed) laid.terms_are;
      few = omega (arith, few, laid.places, ap (λ (ts : List Task). length ts) are, length-map jobs Waiting);
      drawn = laid.drawn;
      roomy = subst (λ (ts : List Task). All (FitsIn w.pool.pages) ts) (sym given) (subst (λ (n : ℕ). All (FitsIn n) (map Waiting jobs)) (sym laid.pages) (All-map (FitsIn s.pages) Waiting jobs fits));
    }

-- what comes from the board is of its place, and its request's own
abbrev pub ComesFrom : (given : Terms Task) → (place : ℕ) → Task → Type 0
ComesFrom given place task = (place_of task ≡ place) × ((first : Task) × (slice_get given.jobs place ≡ Some first) × IsNextOf given.quantum first task)

own_task : (quantum : ℕ) (jobs : List AdmittedView) (given : Terms Task) → AreNumbered jobs → given ≡ terms true quantum (map Waiting jobs) → (place : ℕ) (job : AdmittedView) (task : Task) → slice_get jobs place ≡ Some job → ComesFrom given place task
    → IsAtPlaceOf quantum job task
own_task quantum jobs given numbered is place job task at comes =
    let first = comes.1.0 in
    let f = from_map Waiting jobs place first (subst (λ (t : Terms Task). slice_get t.jobs place ≡ Some first) is comes.1.1) in
    let same : f.source ≡ job = cc (f.at, at) in
    let owned : IsNextOf quantum first task = subst (λ (t : Terms Task). IsNextOf t.quantum first task) is comes.1.2 in
    record {
      place = comes.0 ∙ sym (numbered place job at);
      owned = subst (λ (j : AdmittedView). IsTaskOf quantum (Some j) task) same (subst (λ (t : Task). IsTaskOf quantum (admitted_as t) task) f.is owned);
    }

pub own_tasks : (quantum : ℕ) (jobs : List AdmittedView) (given : Terms Task) (left : List Task) → AreNumbered jobs → given ≡ terms true quantum (map Waiting jobs) → length left ≡ length jobs
    → ((place : ℕ) (task : Task) → slice_get left place ≡ Some task → ComesFrom given place task) → AreTasksOf quantum jobs left
own_tasks quantum jobs given left numbered is many comes =
    zip_by_number (IsAtPlaceOf quantum) jobs left many (λ k job task at at'. own_task quantum jobs given numbered is k job task at (comes k task at'))

fits_still : (pages quantum : ℕ) (job : AdmittedView) (task : Task) → FitsBerths pages job → IsAtPlaceOf quantum job task → FitsIn pages task
fits_still pages quantum job (Waiting own) fits stands = subst (λ r. r.program.pages ≤ pages) (sym stands.owned) fits
fits_still pages quantum job (Suspended s) fits stands = tt
fits_still pages quantum job (Answered a) fits stands = tt

fits_at : (pages : ℕ) (jobs : List AdmittedView) (k : ℕ) (job : AdmittedView) → All (FitsBerths pages) jobs → slice_get jobs k ≡ Some job → FitsBerths pages job
fits_at pages jobs k job fits at = subst (λ (j : AdmittedView). FitsBerths pages j) (get_or_from_slice_get jobs k job job at) (fits k job (slice_get_within jobs k job at))

slice_get_none : {A : Type 0} (xs : List A) (k : ℕ) → k < length xs → slice_get xs k ≡ None → ⊥
slice_get_none [] k inside none = absurd (omega (arith, inside))
slice_get_none (x ∷ xs) zero inside none = absurd cc
slice_get_none (x ∷ xs) (suc k) inside none = slice_get_none xs k (omega (arith, inside)) none

pub all_fit_still : (pages quantum : ℕ) (jobs : List AdmittedView) (tasks : List Task) → All (FitsBerths pages) jobs → AreTasksOf quantum jobs tasks → All (FitsIn pages) tasks
all_fit_still pages quantum jobs tasks fits stands = λ k d inside.
    let many : length tasks ≡ length jobs = AllZip-long (IsAtPlaceOf quantum) jobs tasks stands in
    by k d inside (slice_get jobs k) refl (slice_get-get_or tasks k d inside) many
  where
    by : (k : ℕ) (d : Task) → k < length tasks → (o : Option AdmittedView) → slice_get jobs k ≡ o → slice_get tasks k ≡ Some (get_or tasks k d) → length tasks ≡ length jobs → FitsIn pages (get_or tasks k d)
    by k d inside None has at many = absurd (slice_get_none jobs k (omega (arith, inside, many)) has)
    by k d inside (Some job) has at many = fits_still pages quantum job (get_or tasks k d) (fits_at pages jobs k job fits has) (zip_at (IsAtPlaceOf quantum) jobs tasks k job (get_or tasks k d) stands has at)
