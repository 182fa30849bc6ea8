-- What contracts see of a board and of its passes.
use Rattle.std.specs.Prelude.{◌≡◌, ℕ, ◌+◌, ◌-◌, ◌<◌, ◌≤◌, ◌≢◌, Bool, true, false, List, [], ◌∷◌, ◌++◌, Option, Some, None, slice_get}
use Rattle.std.specs.List.{All}
use Rattle.atomic_table.specs.Seated.{TableId}
use Rattle.job_board.specs.Words.{IsResting, Rises}
use Rattle.job_board.specs.declared.holders.Hold.{Hold}
use Rattle.job_board.specs.declared.holders.Note.{Note}
use Rattle.job_board.specs.declared.holders.Terms.{Terms}
use Rattle.job_board.specs.declared.words.State.{State}
use Rattle.job_board.specs.declared.words.State.TheVariants as state
use Rattle.job_board.specs.declared.words.Word.{Word}

-- which board it is, and what it was made for
pub record BoardView (J : Type 0) : Type 0 where
  pub id : TableId
  pub terms : Terms J

-- which board a pass is for and what that was made for, its parts of 65,536, the place that it holds with the word found there, and what it has noted, in order
pub record PassView (J : Type 0) : Type 0 where
  pub id : TableId
  pub terms : Terms J
  pub parts : ℕ
  pub held : Option Hold
  pub notes : List Note

abbrev pub hold : (place : ℕ) → (found : Word) → Hold
hold place found = record { place = place; found = found }

abbrev pub note : (place : ℕ) → (word : Word) → Note
note place w = record { place = place; word = w }

-- the pass holds this place, and P holds of the word that it found there
abbrev pub HoldsPlace : Option Hold → (place : ℕ) → (Word → Type 0) → Type 0
HoldsPlace None place P = ⊥
HoldsPlace (Some h) place P = (h.place ≡ place) × P h.found

module _ {J : Type 0} where
  abbrev pub terms : (fixed : Bool) → (quantum : ℕ) → (jobs : List J) → Terms J
  terms fixed quantum jobs = record { fixed = fixed; quantum = quantum; jobs = jobs }

  -- how many places there are
  abbrev pub places_of : BoardView J → ℕ
  places_of board = board.id.words

  abbrev pub IsPassOf : BoardView J → PassView J → Type 0
  IsPassOf board pass = (pass.id ≡ board.id) × (pass.terms ≡ board.terms)

  -- the first pass of a board has all parts
  abbrev pub first_pass : BoardView J → PassView J
  first_pass board = record { id = board.id; terms = board.terms; parts = 65536; held = None; notes = [] }

  abbrev pub holding : PassView J → (place : ℕ) → (found : Word) → PassView J
  holding pass place found = record pass { held = Some (hold place found) }

  abbrev pub noting : PassView J → (place : ℕ) → (word : Word) → PassView J
  noting pass place w = record pass { notes = pass.notes ++ note place w ∷ [] }

  -- it holds nothing any more, and has noted the word that it stored
  abbrev pub putting : PassView J → (place : ℕ) → (word : Word) → PassView J
  putting pass place w = record pass { held = None; notes = pass.notes ++ note place w ∷ [] }

  -- what is left where a second pass was made, and the second one, which has the same notes
  abbrev pub apart : PassView J → PassView J
  apart pass = record pass { parts = pass.parts - 1 }

  abbrev pub second : PassView J → PassView J
  second pass = record pass { parts = 1; held = None }

  -- a pass that took another one back, with its notes
  abbrev pub together : PassView J → PassView J → PassView J
  together pass other = record pass { parts = pass.parts + other.parts; notes = pass.notes ++ other.notes }

-- all that was noted for a place may come before this word
abbrev pub RisesPast : List Note → (place : ℕ) → (now : Word) → Type 0
RisesPast notes place now = All (λ (n : Note). n.place ≡ place → Rises n.word now) notes

-- a word that a board of these terms may have: what is vacant or waits has had no turn, and nothing is vacant where the board was made of jobs
pub record IsWordOf {J : Type 0} (terms : Terms J) (w : Word) : Type 0 where
  pub few : w.turns < 2305843009213693952
  pub unbegun : (w.state ≡ state.Vacant → w.turns ≡ 0) × (w.state ≡ state.Waiting → w.turns ≡ 0)
  pub filled : terms.fixed ≡ true → w.state ≢ state.Vacant
