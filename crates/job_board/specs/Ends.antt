-- What a board is made of, and what it leaves.
use Rattle.std.specs.Prelude.{◌≡◌, ℕ, List, slice_get, Some}
use Rattle.job_board.specs.Boarding.{RisesPast}
use Rattle.job_board.specs.Ruled as board
use Rattle.job_board.specs.declared.holders.Note.{Note}
use Rattle.job_board.specs.declared.holders.Terms.{Terms}
use Rattle.job_board.specs.declared.words.Kind.{Kind}
use Rattle.job_board.specs.declared.words.Kind.TheVariants as kind

-- each job waits at the place of its number, and has had no turn
abbrev pub AreUnbegun : {J : Type 0} → (place_of : J → ℕ) → (kind_of : J → Kind) → (turns_of : J → ℕ) → List J → Type 0
AreUnbegun {J} place_of kind_of turns_of jobs =
    (place : ℕ) (job : J) → slice_get jobs place ≡ Some job → (place_of job ≡ place) × (kind_of job ≡ kind.Waiting) × (turns_of job ≡ 0)

-- a job that comes out of a board: it is of its place, belongs to the request there, and is no less far than what was noted
pub record IsLeft {J : Type 0} (place_of : J → ℕ) (kind_of : J → Kind) (turns_of : J → ℕ) (belongs : ℕ → J → J → Type 0) (given : Terms J) (notes : List Note) (place : ℕ) (job : J) : Type 0 where
  pub stands : place_of job ≡ place
  pub owned : board.Belongs place_of kind_of turns_of belongs given place job
  pub past : RisesPast notes place (board.told_by place_of kind_of turns_of belongs job)
