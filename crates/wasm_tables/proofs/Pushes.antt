-- A request more behind those of a batch.
use Rattle.std.proofs.Common.{◌≡◌, ℕ, zero, suc, ◌+◌, List, length, ◌++◌, ◌∷◌, [], slice_get, Some, Bool, true, false, cond, subst, sym, arith}
use Rattle.std.proofs.lemmas.List.Elements.{All-push}
use Rattle.std.specs.List.{All}
use Rattle.sandbox_states.specs.Views.{AdmittedView}
use Rattle.workers.specs.Batches.{AreNumbered, FitsBerths}

-- each request from a number on has its place in this order
pub numbered_from : (first : ℕ) (jobs : List AdmittedView) (job : AdmittedView) → ((place : ℕ) (other : AdmittedView) → slice_get jobs place ≡ Some other → other.place ≡ first + place) → job.place ≡ first + length jobs
    → (place : ℕ) (other : AdmittedView) → slice_get (jobs ++ job ∷ []) place ≡ Some other → other.place ≡ first + place
numbered_from first [] job numbered is zero other at = let same : job ≡ other = cc at in subst (λ (j : AdmittedView). j.place ≡ first + 0) same is
numbered_from first [] job numbered is (suc place) other at = absurd cc
numbered_from first (j ∷ jobs) job numbered is zero other at = numbered zero other at
numbered_from first (j ∷ jobs) job numbered is (suc place) other at =
    let later = numbered_from (suc first) jobs job (λ k o seen. let is : o.place ≡ first + suc k = numbered (suc k) o seen in omega (arith, is)) (omega (arith, is)) place other at in
    omega (arith, later)

pub numbered_pushed : (pushed : Bool) (jobs now : List AdmittedView) (job : AdmittedView) → AreNumbered jobs → job.place ≡ length jobs → now ≡ cond pushed (jobs ++ job ∷ []) jobs → AreNumbered now
numbered_pushed true jobs now job numbered is made = subst AreNumbered (sym made) (λ place other at.
    let placed = numbered_from 0 jobs job (λ k o seen. let there : o.place ≡ k = numbered k o seen in omega (arith, there)) (omega (arith, is)) place other at in
    omega (arith, placed))
numbered_pushed false jobs now job numbered is made = subst AreNumbered (sym made) numbered

pub pages_pushed : (pushed : Bool) (pages : ℕ) (jobs now : List AdmittedView) (job : AdmittedView) → All (FitsBerths pages) jobs → FitsBerths pages job → now ≡ cond pushed (jobs ++ job ∷ []) jobs → All (FitsBerths pages) now
pages_pushed true pages jobs now job fits fits_too made = subst (All (FitsBerths pages)) (sym made) (All-push (FitsBerths pages) jobs job fits fits_too)
pages_pushed false pages jobs now job fits fits_too made = subst (All (FitsBerths pages)) (sym made) fits
