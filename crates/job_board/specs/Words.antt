-- A place's word: its state and turns, and how it is stored.
use Rattle.std.specs.Prelude.{◌≡◌, ℕ, zero, suc, ◌+◌, ◌*◌, ◌/◌, ◌%◌, ◌≤◌, slice_index, List}
use Rattle.job_board.specs.declared.words.Kind.{Kind}
use Rattle.job_board.specs.declared.words.Kind.TheVariants as kind
use Rattle.job_board.specs.declared.words.State.{State}
use Rattle.job_board.specs.declared.words.State.TheVariants as state
use Rattle.job_board.specs.declared.words.Word.{Word}

-- the number of each state
abbrev pub number : State → ℕ
number state.Vacant = 0
number state.Waiting = 1
number state.Suspended = 2
number state.Answered = 3
number (state.Held kind.Waiting) = 4
number (state.Held kind.Suspended) = 5
number (state.Held kind.Answered) = 6

-- the state of a number
abbrev pub numbered : ℕ → State
numbered zero = state.Vacant
numbered (suc zero) = state.Waiting
numbered (suc (suc zero)) = state.Suspended
numbered (suc (suc (suc zero))) = state.Answered
numbered (suc (suc (suc (suc zero)))) = state.Held kind.Waiting
numbered (suc (suc (suc (suc (suc zero))))) = state.Held kind.Suspended
numbered (suc (suc (suc (suc (suc (suc _)))))) = state.Held kind.Answered

-- how far a job has come: it never goes back (of what is vacant nothing is said)
abbrev pub rank : State → ℕ
rank state.Vacant = 0
rank state.Waiting = 0
rank state.Suspended = 1
rank state.Answered = 2
rank (state.Held kind.Waiting) = 0
rank (state.Held kind.Suspended) = 1
rank (state.Held kind.Answered) = 2

-- a job is there and nobody holds it
abbrev pub IsResting : State → Type 0
IsResting state.Waiting = Unit {0}
IsResting state.Suspended = Unit {0}
IsResting state.Answered = Unit {0}
IsResting state.Vacant = ⊥
IsResting (state.Held _) = ⊥

-- how many passes hold a place of this state
abbrev pub holders_in : State → ℕ
holders_in (state.Held _) = 1
holders_in state.Vacant = 0
holders_in state.Waiting = 0
holders_in state.Suspended = 0
holders_in state.Answered = 0

-- the state of a job that nobody holds, by its kind
abbrev pub resting : Kind → State
resting kind.Waiting = state.Waiting
resting kind.Suspended = state.Suspended
resting kind.Answered = state.Answered

-- what a claim lays down, by what it found
abbrev pub held_state : State → State
held_state state.Waiting = state.Held kind.Waiting
held_state state.Suspended = state.Held kind.Suspended
held_state state.Answered = state.Held kind.Answered
held_state state.Vacant = state.Held kind.Answered
held_state (state.Held k) = state.Held kind.Answered

abbrev pub word : (turns : ℕ) → State → Word
word turns s = record { turns = turns; state = s }

abbrev pub held_of : Word → Word
held_of w = word w.turns (held_state w.state)

-- as it is stored: eight times the turns, and the number of the state
abbrev pub code_of : Word → ℕ
code_of w = w.turns * 8 + number w.state

abbrev pub word_of : ℕ → Word
word_of code = word (code / 8) (numbered (code % 8))

-- the word of a place
abbrev pub word_at : (words : List ℕ) → (place : ℕ) → Word
word_at words place = word_of (slice_index words place)

-- a word that may come after another one: no turn is lost, and the job does not go back
abbrev pub Rises : (before after : Word) → Type 0
Rises before after = (before.turns ≤ after.turns) × (rank before.state ≤ rank after.state)
