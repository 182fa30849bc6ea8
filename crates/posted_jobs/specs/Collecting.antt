-- What one look for an answer comes to.
use Rattle.std.specs.Prelude.{◌≡◌, ◌≢◌, ◌⊎◌, ℕ, Some}
use Rattle.job_board.specs.Boarding.{PassView, noting}
use Rattle.job_board.specs.Words.{word}
use Rattle.job_board.specs.declared.words.Kind.TheVariants as kind
use Rattle.job_board.specs.declared.words.State.TheVariants as state
use Rattle.job_board.specs.declared.words.Word.{Word}
use Rattle.sandbox_states.specs.Views.{told}
use Rattle.wasm_meaning.specs.Requests.{Request, verdict}
use Rattle.posted_jobs.specs.Posting.{PostedView, place_in, kind_in, turns_in}
use Rattle.posted_jobs.specs.declared.collects.Collected.{Collected}
use Rattle.posted_jobs.specs.declared.collects.Collected.TheVariants.{Answered, Another, NotOver}

-- this job was over at the place, as its word told, and was taken out; the place is vacant then
pub record TakenOut (old new : PassView PostedView) (place : ℕ) (seen : Word) (job : PostedView) : Type 0 where
  pub over : kind_in job ≡ kind.Answered
  pub stood : place_in job ≡ place
  pub turns : turns_in job ≡ seen.turns
  pub vacant : new ≡ noting old place (word 0 state.Vacant)

-- the look found an answered place, and what stood there is the request's own with its verdict, or another one's; or the look, or the claim behind it, found a word that is noted and is not that of an answer which was seen
abbrev pub IsCollected : Request → (old new : PassView PostedView) → (place : ℕ) → Collected → Type 0
IsCollected request old new place (Answered given) =
    (seen : Word) × (job : PostedView) × TakenOut (noting old place seen) new place seen job × (job.request ≡ request) × (verdict request ≡ Some (told given))
IsCollected request old new place Another = (seen : Word) × (job : PostedView) × TakenOut (noting old place seen) new place seen job × (job.request ≢ request)
IsCollected request old new place (NotOver w) =
    ((w.state ≢ state.Answered) × (new ≡ noting old place w)) ⊎ ((seen : Word) × (seen.state ≡ state.Answered) × (w ≢ seen) × (new ≡ noting (noting old place seen) place w))
