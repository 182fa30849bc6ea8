-- What each atomic step of a board tells the pass that makes it.
use Rattle.std.specs.Prelude.{◌≡◌, ℕ, ◌+◌, ◌-◌, ◌≢◌, true, List, [], ◌∷◌, ◌++◌, Option, Some, None}
use Rattle.atomic_table.specs.Table.{Me, Step, rest}
use Rattle.job_board.specs.Boarding.{hold, note, RisesPast, IsWordOf}
use Rattle.job_board.specs.Ruled as board
use Rattle.job_board.specs.Ruled.{holder, spent_holder}
use Rattle.job_board.specs.Words.{word_of, word}
use Rattle.job_board.specs.declared.holders.Holder.{Holder}
use Rattle.job_board.specs.declared.words.Kind.{Kind}
use Rattle.job_board.specs.declared.words.Kind.TheVariants as kind
use Rattle.job_board.specs.declared.words.State.TheVariants as state
use Rattle.job_board.specs.declared.words.Word.{Word}

module _ {J : Type 0} where
  abbrev pub held_by : Holder J → (place : ℕ) → (found : Word) → Holder J
  held_by v place found = holder v.parts v.terms (Some (hold place found)) v.notes

  abbrev pub noted_by : Holder J → (place : ℕ) → Word → Holder J
  noted_by v place w = holder v.parts v.terms v.held (v.notes ++ note place w ∷ [])

  abbrev pub put_by : Holder J → (place : ℕ) → Word → Holder J
  put_by v place w = holder v.parts v.terms None (v.notes ++ note place w ∷ [])

  -- the word that the step found is noted, and tells no less than what was noted of the place before
  abbrev pub Noted : Me (Option J) (Holder J) → (place found : ℕ) → Me (Option J) (Holder J) → Type 0
  Noted m place found n =
      (n ≡ (noted_by m.0 place (word_of found), m.1)) × (m.0.terms.fixed ≡ true → RisesPast m.0.notes place (word_of found)) × IsWordOf m.0.terms (word_of found)

  -- a load of a place's word
  abbrev pub looked : Step (Option J) → Me (Option J) (Holder J) → (found : ℕ) → Me (Option J) (Holder J) → Type 0
  looked st m found n = Noted m st.word found n

  -- an exchange of the word that a filler asks for, which is that of a vacant place: the place is held, and nothing was at home; or the word found is noted
  abbrev pub filled : Step (Option J) → Me (Option J) (Holder J) → (found : ℕ) → Me (Option J) (Holder J) → Type 0
  filled st m found n =
      (found ≡ 0 → n ≡ (held_by m.0 st.word (word 0 state.Waiting), (st.word, None) ∷ m.1)) × (found ≢ 0 → Noted m st.word found n)

  -- a store of the word that a put lays down: the place is no longer held, and that word is noted
  abbrev pub put : Step (Option J) → Me (Option J) (Holder J) → (stored : ℕ) → Me (Option J) (Holder J) → Type 0
  put st m stored n = n ≡ (put_by m.0 st.word (word_of stored), rest m.1)

  -- a second pass has the notes of the first, and holds nothing
  abbrev pub less_one : Holder J → Holder J
  less_one v = holder (v.parts - 1) v.terms v.held v.notes

  abbrev pub one_part : Holder J → Holder J
  one_part v = holder 1 v.terms None v.notes

  abbrev pub both_noted : Holder J → Holder J → Holder J
  both_noted v w = holder (v.parts + w.parts) v.terms v.held (v.notes ++ w.notes)

module _ {J : Type 0} (place_of : J → ℕ) (kind_of : J → Kind) (turns_of : J → ℕ) (belongs : ℕ → J → J → Type 0) where
  -- an exchange of the word that a claimer asks for: the place is held, and the job that the word tells is out; or the word found is noted. Either way the word found tells no less than what was noted of the place before
  abbrev pub claimed : Step (Option J) → Me (Option J) (Holder J) → (found : ℕ) → Me (Option J) (Holder J) → Type 0
  claimed st m found n =
      (found ≡ st.first → (m.0.terms.fixed ≡ true → RisesPast m.0.notes st.word (word_of found)) × (job : J) × (n ≡ (held_by m.0 st.word (word_of found), (st.word, Some job) ∷ m.1)) × board.Fits place_of kind_of turns_of belongs m.0.terms st.word (word_of found) job)
      × (found ≢ st.first → Noted m st.word found n)
