-- The board rule: what holds of the words, of the jobs at home and of what all passes know, between any two atomic steps.
use Rattle.std.specs.Prelude.{◌≡◌, ℕ, ◌+◌, ◌*◌, ◌%◌, ◌<◌, ◌≤◌, ◌==◌, Bool, true, false, List, [], length, slice_index, slice_get, Option, Some, None, if◌then◌else◌, IfSome}
use Rattle.std.specs.List.{All}
use mathlib.Core.Option.{some}
use mathlib.Core.Option as logic
use lib.ListN.{get_elem?}
use Rattle.atomic_table.specs.Table.{State}
use Rattle.view_totals.specs.Totals.{total}
use Rattle.job_board.specs.Boarding.{terms}
use Rattle.job_board.specs.Words.{number, rank, holders_in, IsResting, resting, held_of, word, word_at, Rises}
use Rattle.job_board.specs.declared.holders.Charter.{Charter}
use Rattle.job_board.specs.declared.holders.Hold.{Hold}
use Rattle.job_board.specs.declared.holders.Holder.{Holder}
use Rattle.job_board.specs.declared.holders.Note.{Note}
use Rattle.job_board.specs.declared.holders.Terms.{Terms}
use Rattle.job_board.specs.declared.words.Kind.{Kind}
use Rattle.job_board.specs.declared.words.State.TheVariants as state
use Rattle.job_board.specs.declared.words.Word.{Word}

abbrev pub terms_of : {J : Type 0} → Charter J → Terms J
terms_of charter = terms charter.fixed charter.quantum charter.jobs.value.items

abbrev pub holder : {J : Type 0} → (parts : ℕ) → Terms J → (held : Option Hold) → (notes : List Note) → Holder J
holder parts given held notes = record { parts = parts; terms = given; held = held; notes = notes }

-- a view that a join leaves: it has no part, holds nothing and has noted nothing
abbrev pub spent_holder : {J : Type 0} → Holder J
spent_holder = holder 0 (terms false 0 []) None []

abbrev pub parts_in : {J : Type 0} → Holder J → ℕ
parts_in v = v.parts

-- 1 where the place is the one that is held, else 0
abbrev pub held_at : (place : ℕ) → Option Hold → ℕ
held_at place None = 0
held_at place (Some h) = if h.place == place then 1 else 0

abbrev pub holds_place : {J : Type 0} → (place : ℕ) → Holder J → ℕ
holds_place place v = held_at place v.held

-- a note tells no more than the place's word now: turns never fall, and no job goes back
abbrev pub IsPast : (words : List ℕ) → Note → Type 0
IsPast words n = Rises n.word (word_at words n.place)

-- the word of the place is that which a claim laid down where it found what the pass remembers
abbrev pub IsHeldIn : (words : List ℕ) → Hold → Type 0
IsHeldIn words h = (word_at words h.place ≡ held_of h.found) × IsResting h.found.state

module _ {J : Type 0} (place_of : J → ℕ) (kind_of : J → Kind) (turns_of : J → ℕ) (belongs : ℕ → J → J → Type 0) where
  -- the word that tells this job while nobody holds it
  abbrev pub told_by : J → Word
  told_by job = word (turns_of job) (resting (kind_of job))

  -- on a board that was made of jobs: in turns of the board's quantum, the job belongs to the request of the first job at the place
  abbrev pub Belongs : Terms J → (place : ℕ) → J → Type 0
  Belongs given place job = given.fixed ≡ true → (first : J) × (slice_get given.jobs place ≡ Some first) × belongs given.quantum first job

  -- the job is of this place, and has the kind and the turns that the word tells
  abbrev pub Fits : Terms J → (place : ℕ) → Word → J → Type 0
  Fits given place w job = (place_of job ≡ place) × (told_by job ≡ w) × Belongs given place job

  -- what a place's word says of it
  pub record PlaceStands (given : Terms J) (homes : List (logic.Option (Option J))) (views : List (Holder J)) (place : ℕ) (w : Word) : Type 0 where
    -- where nobody holds the place and it is not vacant, the job that its word tells is at home
    pub home : IsResting w.state → (job : J) × (get_elem? homes place ≡ some (some (Some job))) × Fits given place w job
    -- where it is vacant, nothing is at home, and the board was not made of jobs
    pub vacant : w.state ≡ state.Vacant → (get_elem? homes place ≡ some (some None)) × (given.fixed ≡ false)
    -- what is vacant, waits, or was found waiting, has had no turn
    pub unbegun : rank w.state ≡ 0 → w.turns ≡ 0
    -- exactly one pass holds it where its word says so, and else none
    pub holders : total (holds_place place) views ≡ holders_in w.state

  -- what is known of a pass
  pub record Knows (given : Terms J) (words : List ℕ) (v : Holder J) : Type 0 where
    pub same : 0 < v.parts → v.terms ≡ given
    pub spent : v.parts ≡ 0 → (v.held ≡ None) × (v.notes ≡ [])
    pub held : IfSome v.held (IsHeldIn words)
    pub past : given.fixed ≡ true → All (IsPast words) v.notes

  -- the rule
  pub record Ruled (given : Terms J) (s : State (Option J) (Holder J)) : Type 0 where
    pub wide : length s.words ≡ length s.homes
    pub coded : (place : ℕ) → place < length s.homes → slice_index s.words place % 8 ≤ 6
    pub places : (place : ℕ) → place < length s.homes → PlaceStands given s.homes s.views place (word_at s.words place)
    pub parts : total parts_in s.views ≡ 65536
    pub seats : (j : ℕ) (v : Holder J) → get_elem? s.views j ≡ some v → Knows given s.words v
