-- What keeps the board rule: that one word, its slot and the view of one pass change together, or that views change alone.
use Rattle.std.proofs.Common.{◌≡◌, ℕ, zero, suc, ◌+◌, ◌%◌, ◌<◌, ◌≤◌, ◌≢◌, ◌==◌, eqb, cond, true, false, List, [], ◌∷◌, ◌++◌, length, get_or, set, sym, refl, ap, ◌∙◌, subst, ⊎_elim, arith, length-set, get_or-set_same, get_or-set_other, eq-eqb, ne_eqb, Option, Some, None, IfSome}
use Rattle.std.proofs.lemmas.List.Elements.{All-weaker}
use Rattle.std.specs.List.{All}
use mathlib.Core.Logic.{dite}
use mathlib.Core.Option.{some}
use mathlib.Core.Option as logic
use native.Mathlib.Decide.{ℕ_discrete}
use lib.ListN.{get_elem?}
use Rattle.atomic_table.specs.Table.{State}
use Rattle.atomic_table.proofs.Lists.{at_set}
use Rattle.view_totals.specs.Totals.{total}
use Rattle.view_totals.proofs.Sums.{total-set, terms_le}
use Rattle.job_board.proofs.Codes.{rises_twice}
use Rattle.job_board.specs.Ruled.{parts_in, held_at, holds_place, IsPast, IsHeldIn}
use Rattle.job_board.specs.Ruled as board
use Rattle.job_board.specs.Words.{rank, holders_in, IsResting, word_of, word_at, Rises}
use Rattle.job_board.specs.declared.holders.Hold.{Hold}
use Rattle.job_board.specs.declared.holders.Holder.{Holder}
use Rattle.job_board.specs.declared.holders.Note.{Note}
use Rattle.job_board.specs.declared.holders.Terms.{Terms}
use Rattle.job_board.specs.declared.words.Kind.{Kind}
use Rattle.job_board.specs.declared.words.State.TheVariants as state
use Rattle.job_board.specs.declared.words.Word.{Word}

pub held_here : (place : ℕ) (h : Hold) → h.place ≡ place → held_at place (Some h) ≡ 1
held_here place h e = ap (λ b. cond b 1 0) (eq-eqb h.place place e)

pub held_elsewhere : (place : ℕ) (h : Hold) → h.place ≢ place → held_at place (Some h) ≡ 0
held_elsewhere place h ne = ap (λ b. cond b 1 0) (ne_eqb h.place place ne)

-- the word of another place stays
word_else : (words : List ℕ) (place code other : ℕ) → other ≢ place → word_at (set words place code) other ≡ word_at words other
word_else words place code other ne = ap word_of (get_or-set_other words place other code 0 ne)

-- a pass that does not hold the place is not touched by a change of its word
held_still : (words : List ℕ) (place code : ℕ) (held : Option Hold) → held_at place held ≡ 0 → IfSome held (IsHeldIn words) → IfSome held (IsHeldIn (set words place code))
held_still words place code None free h = h
held_still words place code (Some x) free h =
    dite (ℕ_discrete x.place place)
    (λ e. absurd (omega (arith, held_here place x e)))
    (λ ne. (word_else words place code x.place ne ∙ h.0, h.1))

-- nor is a note, where the word rises
pub past_still : (words : List ℕ) (place code : ℕ) (w : Word) → word_at (set words place code) place ≡ w → Rises (word_at words place) w → (n : Note) → IsPast words n → IsPast (set words place code) n
past_still words place code w here up n past =
    dite (ℕ_discrete n.place place)
    (λ e.
    let old : Rises n.word (word_at words place) = subst (λ (p : ℕ). Rises n.word (word_at words p)) e past in
    let new : Rises n.word w = rises_twice n.word (word_at words place) w old up in
    let there : word_at (set words place code) n.place ≡ w = ap (word_at (set words place code)) e ∙ here in
    subst (Rises n.word) (sym there) new)
    (λ ne. subst (Rises n.word) (sym (word_else words place code n.place ne)) past)

module _ {J : Type 0} (place_of : J → ℕ) (kind_of : J → Kind) (turns_of : J → ℕ) (belongs : ℕ → J → J → Type 0) where
  abbrev St : Type 0
  St = State (Option J) (Holder J)

  abbrev pub at : List ℕ → List (logic.Option (Option J)) → List (Holder J) → St
  at words homes views = record { words = words; homes = homes; views = views }

  abbrev Ruled : Terms J → St → Type 0
  Ruled = board.Ruled place_of kind_of turns_of belongs

  abbrev Stands : Terms J → List (logic.Option (Option J)) → List (Holder J) → ℕ → Word → Type 0
  Stands = board.PlaceStands place_of kind_of turns_of belongs

  abbrev Knows : Terms J → List ℕ → Holder J → Type 0
  Knows = board.Knows place_of kind_of turns_of belongs

  abbrev Fits : Terms J → ℕ → Word → J → Type 0
  Fits = board.Fits place_of kind_of turns_of belongs

  -- views change alone: the parts stay in sum, each place has as many holders, and each view is sound
  pub review : (given : Terms J) (s : St) → Ruled given s → (views : List (Holder J)) → total parts_in views ≡ 65536
      → ((place : ℕ) → total (holds_place place) views ≡ total (holds_place place) s.views)
      → ((j : ℕ) (v : Holder J) → get_elem? views j ≡ some v → Knows given s.words v)
      → Ruled given (at s.words s.homes views)
  review given s r views parts same seats = record {
    wide = r.wide;
    coded = r.coded;
    places = λ place inside. let p = r.places place inside in record { home = p.home; vacant = p.vacant; unbegun = p.unbegun; holders = same place ∙ p.holders };
    parts = parts;
    seats = seats;
  }

  -- the word of a place becomes w, by the pass that holds it or where none does; its slot and the view of that pass become what the word then tells
  pub record Change (given : Terms J) (s : St) (id : ℕ) (v v' : Holder J) (place code : ℕ) (w : Word) (homes : List (logic.Option (Option J))) : Type 0 where
    pub me : get_elem? s.views id ≡ some v
    pub inside : place < length s.homes
    pub is : word_of code ≡ w
    pub coded : code % 8 ≤ 6
    pub wide : length homes ≡ length s.homes
    pub others : (other : ℕ) → other ≢ place → get_elem? homes other ≡ get_elem? s.homes other
    pub live : 0 < v.parts
    pub parts : v'.parts ≡ v.parts
    pub terms : v'.terms ≡ v.terms
    pub alone : total (holds_place place) s.views ≡ holds_place place v
    pub elsewhere : (other : ℕ) → other ≢ place → holds_place other v' ≡ holds_place other v
    pub up : given.fixed ≡ true → Rises (word_at s.words place) w
    pub held : word_at (set s.words place code) place ≡ w → IfSome v'.held (IsHeldIn (set s.words place code))
    pub past : word_at (set s.words place code) place ≡ w → given.fixed ≡ true → All (IsPast (set s.words place code)) v'.notes
    pub home : IsResting w.state → (job : J) × (get_elem? homes place ≡ some (some (Some job))) × Fits given place w job
    pub vacant : w.state ≡ state.Vacant → (get_elem? homes place ≡ some (some None)) × (given.fixed ≡ false)
    pub unbegun : rank w.state ≡ 0 → w.turns ≡ 0
    pub holder : holds_place place v' ≡ holders_in w.state

  here : (s : St) (place code : ℕ) (w : Word) → place < length s.words → word_of code ≡ w → word_at (set s.words place code) place ≡ w
  here s place code w inside is = ap word_of (get_or-set_same s.words place code 0 inside) ∙ is

  -- another place stands as it did
  place_else : (given : Terms J) (s : St) (id : ℕ) (v v' : Holder J) (place code : ℕ) (w : Word) (homes : List (logic.Option (Option J))) → Change given s id v v' place code w homes
      → (other : ℕ) → other ≢ place → Stands given s.homes s.views other (word_at s.words other)
      → Stands given homes (set s.views id v') other (word_at (set s.words place code) other)
  place_else given s id v v' place code w homes c other ne p =
      subst (Stands given homes (set s.views id v') other) (sym (word_else s.words place code other ne)) record {
        home = λ rest. let h = p.home rest in (h.0, c.others other ne ∙ h.1, h.2);
        vacant = λ empty. let e = p.vacant empty in (c.others other ne ∙ e.0, e.1);
        unbegun = p.unbegun;
        holders = omega (arith, total-set (holds_place other) s.views id v v' c.me, c.elsewhere other ne, p.holders);
      }

  -- another pass knows what it did
  knows_else : (given : Terms J) (s : St) (id : ℕ) (v v' : Holder J) (place code : ℕ) (w : Word) (homes : List (logic.Option (Option J))) → Change given s id v v' place code w homes
      → word_at (set s.words place code) place ≡ w → (j : ℕ) (u : Holder J) → j ≢ id → get_elem? s.views j ≡ some u → Knows given s.words u → Knows given (set s.words place code) u
  knows_else given s id v v' place code w homes c now j u apart there k =
      let two = terms_le (holds_place place) s.views id j v u apart c.me there in
      let alone = c.alone in
      record {
        same = k.same;
        spent = k.spent;
        held = held_still s.words place code u.held (omega arith) k.held;
        past = λ fixed. All-weaker (IsPast s.words) (IsPast (set s.words place code)) (past_still s.words place code w now (c.up fixed)) u.notes (k.past fixed);
      }

  pub changed : (given : Terms J) (s : St) (id : ℕ) (v v' : Holder J) (place code : ℕ) (w : Word) (homes : List (logic.Option (Option J))) → Ruled given s → Change given s id v v' place code w homes
      → Ruled given (at (set s.words place code) homes (set s.views id v'))
  changed given s id v v' place code w homes r c =
      let now = here s place code w (omega (arith, r.wide, c.inside)) c.is in
      let mine = r.seats id v c.me in
      let parts = c.parts in
      let live = c.live in
      let own : Knows given (set s.words place code) v' = record {
        same = λ some_part. c.terms ∙ mine.same live;
        spent = λ none_left. absurd (omega arith);
        held = c.held now;
        past = c.past now;
      } in
      let there : Stands given homes (set s.views id v') place w = record {
        home = c.home;
        vacant = c.vacant;
        unbegun = c.unbegun;
        holders = omega (arith, total-set (holds_place place) s.views id v v' c.me, c.alone, c.holder);
      } in
      record {
        wide = length-set s.words place code ∙ (r.wide ∙ sym c.wide);
        coded = λ other inside.
            dite (ℕ_discrete other place)
            (λ e. subst (λ (n : ℕ). n % 8 ≤ 6) (sym (ap (λ (p : ℕ). get_or (set s.words place code) p 0) e ∙ get_or-set_same s.words place code 0 (omega (arith, r.wide, c.inside)))) c.coded)
            (λ ne. subst (λ (n : ℕ). n % 8 ≤ 6) (sym (get_or-set_other s.words place other code 0 ne)) (r.coded other (omega (arith, c.wide, inside))));
        places = λ other inside.
            dite (ℕ_discrete other place)
            (λ e. subst (λ (p : ℕ). Stands given homes (set s.views id v') p (word_at (set s.words place code) p)) (sym e) (subst (Stands given homes (set s.views id v') place) (sym now) there))
            (λ ne. place_else given s id v v' place code w homes c other ne (r.places other (omega (arith, c.wide, inside))));
        parts = omega (arith, total-set parts_in s.views id v v' c.me, r.parts);
        seats = λ j u e.
            ⊎_elim (λ t. subst (Knows given (set s.words place code)) t.1 own)
            (λ t. knows_else given s id v v' place code w homes c now j u t.0 t.1 (r.seats j u t.1))
            (at_set s.views id j v' u e);
      }
