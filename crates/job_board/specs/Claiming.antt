-- What claims, fills and puts ask and give.
use Rattle.std.specs.Prelude.{◌≡◌, ℕ, ◌≤◌, ◌≢◌, true, false, None}
use Rattle.job_board.specs.Boarding.{PassView, holding, noting, putting, RisesPast, IsWordOf}
use Rattle.job_board.specs.Ruled as board
use Rattle.job_board.specs.Words.{rank, IsResting, resting, word}
use Rattle.job_board.specs.declared.holders.Terms.{Terms}
use Rattle.job_board.specs.declared.moves.Claim.{Claim}
use Rattle.job_board.specs.declared.moves.Claim.TheVariants.{Got, Other}
use Rattle.job_board.specs.declared.moves.Fill.{Fill}
use Rattle.job_board.specs.declared.moves.Fill.TheVariants as fill
use Rattle.job_board.specs.declared.words.Kind.{Kind}
use Rattle.job_board.specs.declared.words.State.TheVariants as state
use Rattle.job_board.specs.declared.words.Word.{Word}

-- the word w was found at this call's step, and is noted; it is no other than the board may have, and past all that was noted of the place
pub record Sees {J : Type 0} (old new : PassView J) (place : ℕ) (w : Word) : Type 0 where
  pub noted : new ≡ noting old place w
  pub past : old.terms.fixed ≡ true → RisesPast old.notes place w
  pub known : IsWordOf old.terms w

-- the job stands at the place, and the word that tells it is noted; or the place was not vacant at this call's step, and the job comes back
abbrev pub IsFill : {J : Type 0} → (old new : PassView J) → (place : ℕ) → (job : J) → Fill J → Type 0
IsFill old new place job fill.Filled = new ≡ noting old place (word 0 state.Waiting)
IsFill old new place job (fill.Other back w) = (back ≡ job) × (w.state ≢ state.Vacant) × Sees old new place w

module _ {J : Type 0} (place_of : J → ℕ) (kind_of : J → Kind) (turns_of : J → ℕ) (belongs : ℕ → J → J → Type 0) where
  -- a job of the place, kind and turns that the word told, which belongs to the request of its place; the pass holds the place. The word is past all that was noted of the place
  pub record Gets (old new : PassView J) (place : ℕ) (seen : Word) (job : J) : Type 0 where
    pub holds : new ≡ holding old place seen
    pub past : old.terms.fixed ≡ true → RisesPast old.notes place seen
    pub stands : place_of job ≡ place
    pub told : board.told_by place_of kind_of turns_of belongs job ≡ seen
    pub owned : board.Belongs place_of kind_of turns_of belongs old.terms place job

  abbrev pub IsClaim : (old new : PassView J) → (place : ℕ) → (seen : Word) → Claim J → Type 0
  IsClaim old new place seen (Got job) = Gets old new place seen job
  IsClaim old new place seen (Other w) = (w ≢ seen) × Sees old new place w

  -- as a claim, but what was found there is left vacant, and nothing is held
  abbrev pub IsVacated : (old new : PassView J) → (place : ℕ) → (seen : Word) → Claim J → Type 0
  IsVacated old new place seen (Got job) = (middle : PassView J) × Gets old middle place seen job × (new ≡ putting middle place (word 0 state.Vacant))
  IsVacated old new place seen (Other w) = (w ≢ seen) × Sees old new place w

  -- a put of this job may follow where that word was found: no turn is lost, the job does not go back, what waits has had no turn, and it belongs to the request of its place
  pub record MayPut (given : Terms J) (place : ℕ) (job : J) (found : Word) : Type 0 where
    pub stands : place_of job ≡ place
    pub turns : found.turns ≤ turns_of job
    pub onward : IsResting found.state → rank found.state ≤ rank (resting (kind_of job))
    pub unbegun : rank (resting (kind_of job)) ≡ 0 → turns_of job ≡ 0
    pub owned : board.Belongs place_of kind_of turns_of belongs given place job
