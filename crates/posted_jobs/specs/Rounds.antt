-- A worker's round over the places of a board: a job, or why each place was passed over.
use Rattle.std.specs.Prelude.{◌≡◌, ◌≢◌, ◌⊎◌, ℕ, ◌+◌, ◌<◌, ◌≤◌, List, [], ◌∷◌, ◌++◌, length, Option, Some, None, IfSome, IsSomeAnd}
use Rattle.std.specs.List.{All}
use Rattle.job_board.specs.Boarding.{PassView, note, noting}
use Rattle.job_board.specs.Claiming.{Gets}
use Rattle.job_board.specs.Words.{word}
use Rattle.job_board.specs.declared.holders.Note.{Note}
use Rattle.job_board.specs.declared.words.State.TheVariants as state
use Rattle.job_board.specs.declared.words.Word.{Word}
use Rattle.posted_jobs.specs.Posting.{PostedView, place_in, kind_in, turns_in}

abbrev pub Pass : Type 0
Pass = PassView PostedView

abbrev pub GetsJob : (old new : Pass) → (place : ℕ) → (seen : Word) → PostedView → Type 0
GetsJob old new place seen job =
    Gets place_in kind_in turns_in (λ (quantum : ℕ) (first own : PostedView). own.request ≡ first.request) old new place seen job

abbrev pub noting_all : Pass → List Note → Pass
noting_all pass notes = record pass { notes = pass.notes ++ notes }

-- the states that a worker claims
abbrev pub MayClaim : Word → Type 0
MayClaim seen = (seen.state ≡ state.Suspended) ⊎ (seen.state ≡ state.Waiting)

-- why a place was passed over: what was seen there neither waits nor was stopped; it waits, and there is no berth; the claim found another word; it waits, wants so many pages, and was put back
pub data Refusal : Type 0 where
  Idle : Refusal
  Berthless : Refusal
  Lost : (found : Word) → Refusal
  TooWide : (pages : ℕ) → Refusal

pub record Look : Type 0 where
  pub seen : Word
  pub why : Refusal

abbrev pub IsWhy : (berth : Option ℕ) → (seen : Word) → Refusal → Type 0
IsWhy berth seen Idle = (seen.state ≢ state.Suspended) × (seen.state ≢ state.Waiting)
IsWhy berth seen Berthless = (seen.state ≡ state.Waiting) × (berth ≡ None)
IsWhy berth seen (Lost found) = MayClaim seen × (found ≢ seen)
IsWhy berth seen (TooWide pages) = (seen.state ≡ state.Waiting) × IfSome berth (λ room. room < pages)

abbrev pub IsPassedOver : (berth : Option ℕ) → Look → Type 0
IsPassedOver berth look = IsWhy berth look.seen look.why

-- what is noted of a place behind the look
abbrev pub notes_at : (place : ℕ) → Refusal → List Note
notes_at place Idle = []
notes_at place Berthless = []
notes_at place (Lost found) = note place found ∷ []
notes_at place (TooWide pages) = note place (word 0 state.Waiting) ∷ []

abbrev pub notes_from : (place : ℕ) → List Look → List Note
notes_from place [] = []
notes_from place (look ∷ looks) = (note place look.seen ∷ notes_at place look.why) ++ notes_from (place + 1) looks

-- each of so many places was looked at once, in order, and passed over
pub record PassesOver (berth : Option ℕ) (places : ℕ) (old new : Pass) : Type 0 where
  pub looks : List Look
  pub count : length looks ≡ places
  pub each : All (IsPassedOver berth) looks
  pub noted : new ≡ noting_all old (notes_from 0 looks)

-- one place was looked at and passed over
pub record Refuses (berth : Option ℕ) (place : ℕ) (old new : Pass) : Type 0 where
  pub look : Look
  pub passed : IsPassedOver berth look
  pub noted : new ≡ noting_all old (note place look.seen ∷ notes_at place look.why)

-- the job of a place was claimed: it was stopped, or it waits, and there is a berth that it fits
pub record IsClaimed (berth : Option ℕ) (place : ℕ) (old new : Pass) (job : PostedView) : Type 0 where
  pub seen : Word
  pub gets : GetsJob (noting old place seen) new place seen job
  pub fits : (seen.state ≡ state.Suspended) ⊎ ((seen.state ≡ state.Waiting) × IsSomeAnd berth (λ room. job.request.program.pages ≤ room))

abbrev pub IsRound : (berth : Option ℕ) → (places : ℕ) → (old new : Pass) → Option PostedView → Type 0
IsRound berth places old new None = PassesOver berth places old new
IsRound berth places old new (Some job) =
    (place : ℕ) × (place < places) × (between : Pass) × PassesOver berth place old between × IsClaimed berth place between new job

-- a claim of what was seen: a job that was stopped, or waits and fits; or another word was found; or the job was put back
abbrev pub Claims : (room : ℕ) → (place : ℕ) → (seen : Word) → (old new : Pass) → Option PostedView → Type 0
Claims room place seen old new (Some job) = GetsJob old new place seen job × ((seen.state ≡ state.Suspended) ⊎ ((seen.state ≡ state.Waiting) × (job.request.program.pages ≤ room)))
Claims room place seen old new None =
    ((found : Word) × (found ≢ seen) × (new ≡ noting old place found))
    ⊎ ((pages : ℕ) × (seen.state ≡ state.Waiting) × (room < pages) × (new ≡ noting old place (word 0 state.Waiting)))
