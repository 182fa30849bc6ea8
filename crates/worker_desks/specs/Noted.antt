-- What the notes of a board's pass tell of each place: how many turns it has had at the least, and how far it has come at the least.
use Rattle.std.specs.Prelude.{ℕ, zero, suc, ◌+◌, ◌-◌, ◌==◌, nat_le, max, List, [], ◌∷◌, ◌++◌, Option, Some, None, if◌then◌else◌}
use Rattle.job_board.specs.Boarding.{PassView, note}
use Rattle.job_board.specs.Words.{rank, word}
use Rattle.job_board.specs.declared.holders.Hold.{Hold}
use Rattle.job_board.specs.declared.holders.Note.{Note}
use Rattle.job_board.specs.declared.words.State.TheVariants as state
use Rattle.job_board.specs.declared.words.Word.{Word}

-- the greatest number of this kind in the words that were noted of a place, 0 where none was
abbrev pub greatest : (Word → ℕ) → (place : ℕ) → List Note → ℕ
greatest of place [] = 0
greatest of place (n ∷ notes) = max (if n.place == place then of n.word else 0) (greatest of place notes)

abbrev pub turns_in : Word → ℕ
turns_in w = w.turns

abbrev pub rank_in : Word → ℕ
rank_in w = rank w.state

-- what a pass will note at the least once it puts back the job of the place that it holds: one turn more, and that it has begun
abbrev pub due_of : Option Hold → List Note
due_of None = []
due_of (Some h) = note h.place (word (h.found.turns + 1) state.Suspended) ∷ []

-- all that it has noted, and what it is due to note
abbrev pub notes_due : {J : Type 0} → PassView J → List Note
notes_due pass = pass.notes ++ due_of pass.held

-- the sum over the first places
abbrev pub sum_over : (ℕ → ℕ) → (places : ℕ) → ℕ
sum_over f zero = 0
sum_over f (suc place) = sum_over f place + f place

-- the most turns that a request has: 2^40 units make no more, and one ends it
abbrev pub most_turns : ℕ
most_turns = 1099511627777

-- the turns that a place may still have, by these notes
abbrev pub turns_left_at : List Note → (place : ℕ) → ℕ
turns_left_at notes place = most_turns - greatest turns_in place notes

-- the turns that all places may still have
abbrev pub turns_left : (places : ℕ) → List Note → ℕ
turns_left places notes = sum_over (turns_left_at notes) places

-- 1 where the place was noted to have come so far, else 0
abbrev pub reached_at : (far : ℕ) → List Note → (place : ℕ) → ℕ
reached_at far notes place = if nat_le far (greatest rank_in place notes) then 1 else 0

-- how many places were noted to have begun, and to be over
abbrev pub begun_places : (places : ℕ) → List Note → ℕ
begun_places places notes = sum_over (reached_at 1 notes) places

abbrev pub answered_places : (places : ℕ) → List Note → ℕ
answered_places places notes = sum_over (reached_at 2 notes) places
