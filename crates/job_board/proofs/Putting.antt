-- A put by the pass that holds the place.
use Rattle.std.proofs.Common.{◌≡◌, ℕ, ◌<◌, ◌≤◌, ◌≢◌, true, false, List, [], ◌∷◌, sym, refl, ap, ◌∙◌, subst, arith, Option, Some, None}
use mathlib.Core.Bool.{false≢true}
use mathlib.Core.Option.{none}
use Rattle.atomic_table.specs.Table.{Me, step, rest, Allows}
use Rattle.job_board.proofs.Codes.{resting_rests, resting_is_there, no_holder}
use Rattle.job_board.proofs.Stepping.{MayLay, lays}
use Rattle.job_board.specs.Boarding.{PassView, hold, HoldsPlace}
use Rattle.job_board.specs.Claiming.{MayPut}
use Rattle.job_board.specs.Ruled as board
use Rattle.job_board.specs.Ruled.{told_by, Ruled}
use Rattle.job_board.specs.Settled.{IsSettled}
use Rattle.job_board.specs.Steps.{put}
use Rattle.job_board.specs.Words.{rank, IsResting, resting, word, code_of}
use Rattle.job_board.specs.declared.holders.Hold.{Hold}
use Rattle.job_board.specs.declared.holders.Holder.{Holder}
use Rattle.job_board.specs.declared.holders.Terms.{Terms}
use Rattle.job_board.specs.declared.words.Kind.{Kind}
use Rattle.job_board.specs.declared.words.Kind.TheVariants as kind
use Rattle.job_board.specs.declared.words.State.{State}
use Rattle.job_board.specs.declared.words.State.TheVariants as state
use Rattle.job_board.specs.declared.words.Word.{Word}

-- the word that was found
pub held_found : (o : Option Hold) (place : ℕ) (P : Word → Type 0) → HoldsPlace o place P → (found : Word) × (o ≡ Some (hold place found)) × P found
held_found None place P h = absurd h
held_found (Some x) place P h = (x.found, ap (λ (p : ℕ). Some (hold p x.found)) h.0, h.1)

-- nothing else is out with the pass
pub settled_rest : {J : Type 0} (o : Option Hold) (slots : List (ℕ × Option J)) (h : Hold) → o ≡ Some h → IsSettled o slots → rest slots ≡ []
settled_rest {J} None slots h e s = cc
settled_rest {J} (Some x) slots h e s = ap (λ (l : List (ℕ × Option J)). rest l) s.0

-- what was found there was not held
pub settled_found : {J : Type 0} (o : Option Hold) (slots : List (ℕ × Option J)) (place : ℕ) (found : Word) → o ≡ Some (hold place found) → IsSettled o slots → (slots ≡ (place, None) ∷ []) × IsResting found.state
settled_found {J} None slots place found e s = cc
settled_found {J} (Some x) slots place found e s =
    let P : Option Hold → Type 0 = λ o. IsSettled o slots in
    subst P e s

-- what is not over has a rank below it
pub not_over : (s : State) → IsResting s → s ≢ state.Answered → rank s ≤ 1
not_over state.Waiting rests open_job = omega arith
not_over state.Suspended rests open_job = omega arith
not_over state.Answered rests open_job = absurd (open_job refl)
not_over state.Vacant rests open_job = absurd rests
not_over (state.Held k) rests open_job = absurd rests

module _ {J : Type 0} (place_of : J → ℕ) (kind_of : J → Kind) (turns_of : J → ℕ) (belongs : ℕ → J → J → Type 0) where
  abbrev Seat : Type 0
  Seat = Me (Option J) (Holder J)

  abbrev told : J → Word
  told = told_by place_of kind_of turns_of belongs

  abbrev May : Terms J → ℕ → J → Word → Type 0
  May = MayPut place_of kind_of turns_of belongs

  may_lay : (given : Terms J) (place : ℕ) (job : J) (found : Word) → IsResting found.state → May given place job found → MayLay place_of kind_of turns_of belongs given place found (Some job) (told job)
  may_lay given place job found rests may = record {
    home = λ _. (job, refl, (may.stands, refl, may.owned));
    vacant = λ empty. absurd (resting_is_there (kind_of job) empty);
    unbegun = may.unbegun;
    up = λ fixed. (may.turns, may.onward rests);
    nobody = no_holder (resting (kind_of job)) (resting_rests (kind_of job));
  }

  pub puts_as : (given : Terms J) (slots id : ℕ) (m old : Seat) (pass : PassView J) (place : ℕ) (job : J) (stored : ℕ) → old.0.held ≡ pass.held → old.0.terms ≡ pass.terms
      → HoldsPlace pass.held place (May pass.terms place job) → m ≡ (old.0, (place, Some job) ∷ rest old.1) → stored ≡ code_of (told job) → 0 < old.0.parts → IsSettled old.0.held old.1 → place < slots
      → Allows (Ruled place_of kind_of turns_of belongs given) slots id m place (λ _. stored) (λ _. put (step slots place stored 0 none) m stored)
  puts_as given slots id m old pass place job stored held terms holds mine code live settled inside =
      let h = held_found pass.held place (May pass.terms place job) holds in
      let may : May old.0.terms place job h.0 = subst (λ (t : Terms J). May t place job h.0) (sym terms) h.2 in
      lays place_of kind_of turns_of belongs given slots id m old.0 place h.0 (Some job) (told job) (rest old.1) stored mine code live (held ∙ h.1) inside (may_lay old.0.terms place job h.0 (settled_found old.0.held old.1 place h.0 (held ∙ h.1) settled).1 may)

  -- a job that was stopped follows what was not over
  pub suspends : (given : Terms J) (held : Option Hold) (place : ℕ) (job : J) → HoldsPlace held place (λ found. (found.state ≢ state.Answered) × (found.turns ≤ turns_of job)) → kind_of job ≡ kind.Suspended → place_of job ≡ place
      → board.Belongs place_of kind_of turns_of belongs given place job → HoldsPlace held place (May given place job)
  suspends given None place job h suspended stands owned = absurd h
  suspends given (Some x) place job h suspended stands owned =
      let one : rank (resting (kind_of job)) ≡ 1 = ap (λ (k : Kind). rank (resting k)) suspended in (
        h.0,
        record {
          stands = stands;
          turns = h.1.1;
          onward = λ rests. omega (arith, one, not_over x.found.state rests h.1.0);
          unbegun = λ low. absurd (omega (arith, one, low));
          owned = owned;
        },
      )

  -- the place that is held is left vacant
  pub leaves_as : (given : Terms J) (slots id : ℕ) (m : Seat) (pass : PassView J) (place : ℕ) → m.0.held ≡ pass.held → m.0.terms ≡ pass.terms → HoldsPlace pass.held place (λ found. Unit {0}) → pass.terms.fixed ≡ false → 0 < m.0.parts
      → IsSettled m.0.held m.1 → place < slots
      → Allows (Ruled place_of kind_of turns_of belongs given) slots id m place (λ _. 0) (λ _. put (step slots place 0 0 none) m 0)
  leaves_as given slots id m pass place held terms holds open_board live settled inside =
      let h = held_found pass.held place (λ found. Unit {0}) holds in
      let out = settled_found m.0.held m.1 place h.0 (held ∙ h.1) settled in
      let not_fixed : m.0.terms.fixed ≡ false = ap (λ (t : Terms J). t.fixed) terms ∙ open_board in
      lays place_of kind_of turns_of belongs given slots id m m.0 place h.0 None (word 0 state.Vacant) [] 0 (λ i. (m.0, out.0 i)) refl live (held ∙ h.1) inside record {
        home = λ rests. absurd rests;
        vacant = λ _. (refl, not_fixed);
        unbegun = λ _. refl;
        up = λ fixed. absurd (false≢true (sym not_fixed ∙ fixed));
        nobody = refl;
      }

  -- the word that a put lays down, by its parts
  pub laid_word : (job : J) (kind : Kind) (turns : ℕ) (s : State) → kind_of job ≡ kind → turns ≡ turns_of job → s ≡ resting kind → word turns s ≡ told job
  laid_word job kind turns s k t r = let state : s ≡ resting (kind_of job) = r ∙ ap resting (sym k) in λ i. word (t i) (state i)
