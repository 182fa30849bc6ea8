-- A board of jobs that have not begun, and one of vacant places, begin by the rule; and what stands at the places where one pass has all parts.
use Rattle.std.proofs.Common.{◌≡◌, ◌⊎◌, inl, inr, ℕ, zero, suc, ◌+◌, ◌%◌, ◌<◌, ◌≤◌, ◌≢◌, true, false, List, [], ◌∷◌, ◌++◌, map, length, get_or, replicate, slice_get, sym, refl, ap, ◌∙◌, subst, ⊎_elim, arith, Option, Some, None}
use Rattle.std.proofs.lemmas.List.{length-map}
use Rattle.std.proofs.lemmas.List.Elements.{All-nil}
use Rattle.std.specs.List.{All}
use mathlib.Core.Bool.{false≢true}
use mathlib.Core.Option.{some, some-injective, some-ne-none}
use mathlib.Core.Option as logic
use lib.ListN.{get_elem?}
use Rattle.atomic_table.specs.Table.{State, opening, Final, Seen}
use Rattle.atomic_table.proofs.Lists.{at_snoc}
use Rattle.view_totals.specs.Totals.{total}
use Rattle.view_totals.proofs.Sums.{total-alone, terms_le}
use Rattle.job_board.proofs.Codes.{resting_rests}
use Rattle.job_board.proofs.Stepping.{past_here}
use Rattle.job_board.specs.Boarding.{terms, RisesPast}
use Rattle.job_board.specs.Ends.{AreUnbegun, IsLeft}
use Rattle.job_board.specs.Ruled as board
use Rattle.job_board.specs.Ruled.{holder, parts_in, held_at, holds_place, IsPast, IsHeldIn}
use Rattle.job_board.specs.Words.{holders_in, IsResting, resting, word, word_of, word_at, Rises}
use Rattle.job_board.specs.declared.holders.Holder.{Holder}
use Rattle.job_board.specs.declared.holders.Note.{Note}
use Rattle.job_board.specs.declared.holders.Terms.{Terms}
use Rattle.job_board.specs.declared.words.Kind.{Kind}
use Rattle.job_board.specs.declared.words.Kind.TheVariants as kind
use Rattle.job_board.specs.declared.words.State as types
use Rattle.job_board.specs.declared.words.State.TheVariants as state
use Rattle.job_board.specs.declared.words.Word.{Word}

long_same : (n x : ℕ) → length (replicate n x) ≡ n
long_same zero x = refl
long_same (suc n) x = ap suc (long_same n x)

read_same : (n x place : ℕ) → place < n → get_or (replicate n x) place 0 ≡ x
read_same zero x place inside = absurd (omega arith)
read_same (suc n) x zero inside = refl
read_same (suc n) x (suc place) inside = read_same n x place (omega arith)

none_long : (J : Type 0) (n : ℕ) → length (replicate {A = Option J} n None) ≡ n
none_long J zero = refl
none_long J (suc n) = ap suc (none_long J n)

none_at : (J : Type 0) (n place : ℕ) → place < n → get_elem? (map some (replicate {A = Option J} n None)) place ≡ some (some None)
none_at J zero place inside = absurd (omega arith)
none_at J (suc n) zero inside = refl
none_at J (suc n) (suc place) inside = none_at J n place (omega arith)

job_at : {J : Type 0} → (jobs : List J) (place : ℕ) → place < length jobs → (job : J) × (slice_get jobs place ≡ Some job) × (get_elem? (map some (map Some jobs)) place ≡ some (some (Some job)))
job_at [] place inside = absurd (omega arith)
job_at (x ∷ xs) zero inside = (x, refl, refl)
job_at (x ∷ xs) (suc place) inside = job_at xs place (omega arith)

read_last : {J : Type 0} → (jobs : List J) (x : J) (place : ℕ) (job : J) → slice_get (jobs ++ x ∷ []) place ≡ Some job → (slice_get jobs place ≡ Some job) ⊎ ((place ≡ length jobs) × (Some x ≡ Some job))
read_last [] x zero job e = inr (refl, e)
read_last [] x (suc place) job e = cc
read_last (y ∷ ys) x zero job e = inl e
read_last (y ∷ ys) x (suc place) job e = ⊎_elim (λ h. inl h) (λ h. inr (ap suc h.0, h.1)) (read_last ys x place job e)

same_job : {J : Type 0} → (a b : J) → Some a ≡ Some b → a ≡ b
same_job a b e = cc

-- one job more waits behind the others
pub unbegun_push : {J : Type 0} (place_of : J → ℕ) (kind_of : J → Kind) (turns_of : J → ℕ) (jobs : List J) (x : J) → AreUnbegun place_of kind_of turns_of jobs → place_of x ≡ length jobs → kind_of x ≡ kind.Waiting → turns_of x ≡ 0
    → AreUnbegun place_of kind_of turns_of (jobs ++ x ∷ [])
unbegun_push {J} place_of kind_of turns_of jobs x all p k t place job e =
    ⊎_elim (λ old. all place job old)
    (λ h. let is = same_job x job h.1 in (ap place_of (sym is) ∙ (p ∙ sym h.0), ap kind_of (sym is) ∙ k, ap turns_of (sym is) ∙ t))
    (read_last jobs x place job e)

-- what is there and is not held is a job
rests_or_vacant : (s : types.State) → holders_in s ≡ 0 → s ≢ state.Vacant → IsResting s
rests_or_vacant state.Vacant nobody there = absurd (there refl)
rests_or_vacant state.Waiting nobody there = tt
rests_or_vacant state.Suspended nobody there = tt
rests_or_vacant state.Answered nobody there = tt
rests_or_vacant (state.Held k) nobody there = absurd (omega arith)

module _ {J : Type 0} (place_of : J → ℕ) (kind_of : J → Kind) (turns_of : J → ℕ) (belongs : ℕ → J → J → Type 0) where
  abbrev Ruled : Terms J → State (Option J) (Holder J) → Type 0
  Ruled = board.Ruled place_of kind_of turns_of belongs

  abbrev Knows : Terms J → List ℕ → Holder J → Type 0
  Knows = board.Knows place_of kind_of turns_of belongs

  abbrev first : Terms J → Holder J
  first given = holder 65536 given None []

  first_knows : (given : Terms J) (words : List ℕ) (j : ℕ) (v : Holder J) → get_elem? (first given ∷ []) j ≡ some v → Knows given words v
  first_knows given words j v e =
      let mine : Knows given words (first given) = record { same = λ _. refl; spent = λ none_left. absurd (omega arith); held = tt; past = λ _. All-nil (IsPast words) } in
      ⊎_elim (λ (t : get_elem? [] j ≡ some v). absurd (some-ne-none v (sym t))) (λ t. subst (Knows given words) t mine) (at_snoc [] (first given) v j e)

  pub starts : (quantum : ℕ) (jobs : List J) (words : List ℕ) (slots : List (Option J)) → words ≡ replicate (length jobs) 1 → slots ≡ map Some jobs → AreUnbegun place_of kind_of turns_of jobs
      → ((job : J) → kind_of job ≡ kind.Waiting → belongs quantum job job) → Ruled (terms true quantum jobs) (opening words slots (first (terms true quantum jobs)))
  starts quantum jobs words slots w x unbegun own =
      let given : Terms J = terms true quantum jobs in
      let wide : length (map some slots) ≡ length jobs = length-map slots some ∙ (ap length x ∙ length-map jobs Some) in
      let read : (place : ℕ) → place < length (map some slots) → get_or words place 0 ≡ 1 =
      λ place inside. ap (λ (l : List ℕ). get_or l place 0) w ∙ read_same (length jobs) 1 place (omega (arith, wide)) in
      record {
        wide = ap length w ∙ (long_same (length jobs) 1 ∙ sym wide);
        coded = λ place inside. omega (arith, read place inside);
        places = λ place inside.
            let j = job_at jobs place (omega (arith, wide)) in
            let u = unbegun place j.0 j.1 in
            subst (board.PlaceStands place_of kind_of turns_of belongs given (map some slots) (first given ∷ []) place) (sym (ap word_of (read place inside))) record {
              home = λ _. (
                j.0,
                ap (λ (l : List (Option J)). get_elem? (map some l) place) x ∙ j.2,
                (u.0, (λ i. word (u.2 i) (resting (u.1 i))), (λ _. (j.0, j.1, own j.0 u.1))),
              );
              vacant = λ e. cc;
              unbegun = λ _. refl;
              holders = refl;
            };
        parts = refl;
        seats = first_knows given words;
      }

  pub begins_vacant : (n : ℕ) (words : List ℕ) → words ≡ replicate n 0 → Ruled (terms false 0 []) (opening words (replicate n None) (first (terms false 0 [])))
  begins_vacant n words w =
      let given : Terms J = terms false 0 [] in
      let slots : List (Option J) = replicate n None in
      let wide : length (map some slots) ≡ n = length-map slots some ∙ none_long J n in
      let read : (place : ℕ) → place < length (map some slots) → get_or words place 0 ≡ 0 =
      λ place inside. ap (λ (l : List ℕ). get_or l place 0) w ∙ read_same n 0 place (omega (arith, wide)) in
      record {
        wide = ap length w ∙ (long_same n 0 ∙ sym wide);
        coded = λ place inside. omega (arith, read place inside);
        places = λ place inside.
            subst (board.PlaceStands place_of kind_of turns_of belongs given (map some slots) (first given ∷ []) place) (sym (ap word_of (read place inside))) record {
              home = λ rests. absurd rests;
              vacant = λ _. (none_at J n place (omega (arith, wide)), refl);
              unbegun = λ _. refl;
              holders = refl;
            };
        parts = refl;
        seats = first_knows given words;
      }

  -- the job that lies at a place
  abbrev pub Lies : Terms J → List Note → List (Option J) → (place : ℕ) → Type 0
  Lies given notes slots place = (job : J) × (get_elem? slots place ≡ some (Some job)) × IsLeft place_of kind_of turns_of belongs given notes place job

  -- no other pass holds anything where one has all parts
  pub closes : (given : Terms J) (id : ℕ) (v : Holder J) (words : List ℕ) (slots : List (Option J)) → given.fixed ≡ true → v.parts ≡ 65536 → v.held ≡ None → Final (Seen (Ruled given) id v) words slots
      → (place : ℕ) → place < length slots → Lies given v.notes slots place
  closes given id v words slots fixed all free final place inside =
      let s = final.0 in
      let r = final.1.0 in
      let me = final.1.1 in
      let there : place < length s.homes = omega (arith, final.3, inside) in
      let p = r.places place there in
      let k = r.seats id v me in
      let nobody : total (holds_place place) s.views ≡ holds_place place v =
      total-alone (holds_place place) s.views id v me (λ j u apart e.
      ap (held_at place) ((r.seats j u e).spent (omega (arith, terms_le parts_in s.views id j v u apart me e, r.parts, all))).0) in
      let rests : IsResting (word_at s.words place).state =
      rests_or_vacant (word_at s.words place).state (sym p.holders ∙ (nobody ∙ ap (held_at place) free)) (λ vacant. false≢true (sym (p.vacant vacant).1 ∙ fixed)) in
      let h = p.home rests in (
        h.0,
        final.4 place (Some h.0) h.1,
        record {
          stands = h.2.0;
          owned = h.2.2;
          past = subst (RisesPast v.notes place) (sym h.2.1) (past_here place_of kind_of turns_of belongs s.words place v.notes (k.past fixed));
        },
      )
