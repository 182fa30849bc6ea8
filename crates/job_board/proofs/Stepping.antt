-- Each step of a board keeps its rule, and tells its pass what it should.
use Rattle.std.proofs.Common.{◌≡◌, ℕ, ◌+◌, ◌-◌, ◌%◌, ◌^◌, ◌<◌, ◌≤◌, ◌≢◌, ◌==◌, eqb, true, false, List, [], ◌∷◌, ◌++◌, length, get_or, set, sym, refl, ap, ◌∙◌, subst, ⊎_elim, arith, length-set, get_or-set_same, Option, Some, None, IfSome}
use Rattle.std.proofs.lemmas.List.{set-get_or}
use Rattle.std.proofs.lemmas.List.Elements.{All-nil, All-weaker, All-push, All-append}
use Rattle.std.specs.List.{All}
use mathlib.Core.Bool.{false≢true}
use mathlib.Core.Option.{some, none}
use mathlib.Core.Option as logic
use lib.ListN.{get_elem?}
use prog.Atomic.{either}
use Rattle.atomic_table.specs.Table.{State, Me, Step, step, Act, keeps, takes, gives, Valid, carried_after, put_back, rest, stepped, Allows, Splits, Joins}
use Rattle.atomic_table.proofs.Lists.{at_set, at_snoc, set_here, set_else, exchanged}
use Rattle.view_totals.specs.Totals.{total}
use Rattle.view_totals.proofs.Sums.{total-set, total-push, term_le}
use Rattle.job_board.proofs.Codes.{code_few, word_of-code_of, rank_held, one_holder, no_holder, held_rests_not, held_is_taken}
use Rattle.job_board.proofs.Standing as standing
use Rattle.job_board.proofs.Standing.{at, held_here, held_elsewhere, past_still, Change}
use Rattle.job_board.specs.Boarding.{hold, note, RisesPast, IsWordOf}
use Rattle.job_board.specs.Ruled.{holder, spent_holder, parts_in, held_at, holds_place, IsPast, IsHeldIn}
use Rattle.job_board.specs.Ruled as board
use Rattle.job_board.specs.Steps.{held_by, noted_by, put_by, Noted, looked, filled, put, less_one, one_part, both_noted}
use Rattle.job_board.specs.Steps as steps
use Rattle.job_board.specs.Words.{rank, holders_in, IsResting, held_state, held_of, word, code_of, word_of, word_at, Rises}
use Rattle.job_board.specs.declared.holders.Hold.{Hold}
use Rattle.job_board.specs.declared.holders.Holder.{Holder}
use Rattle.job_board.specs.declared.holders.Note.{Note}
use Rattle.job_board.specs.declared.holders.Terms.{Terms}
use Rattle.job_board.specs.declared.words.Kind.{Kind}
use Rattle.job_board.specs.declared.words.State.TheVariants as state
use Rattle.job_board.specs.declared.words.Word.{Word}

none_some : (h : Hold) → None ≡ Some h → ⊥
none_some h e = cc

-- the slot that was taken last
pub taken : {J : Type 0} (m : Me (Option J) (Holder J)) (v : Holder J) (place : ℕ) (x : Option J) (more : List (ℕ × Option J)) → m ≡ (v, (place, x) ∷ more) → m.1 ≡ (place, x) ∷ rest m.1
taken {J} m v place x more e =
    ap (λ (y : Me (Option J) (Holder J)). y.1) e ∙ ap (λ (y : Me (Option J) (Holder J)). (place, x) ∷ rest y.1) (sym e)

module _ {J : Type 0} (place_of : J → ℕ) (kind_of : J → Kind) (turns_of : J → ℕ) (belongs : ℕ → J → J → Type 0) where
  abbrev St : Type 0
  St = State (Option J) (Holder J)

  abbrev Seat : Type 0
  Seat = Me (Option J) (Holder J)

  abbrev Ruled : Terms J → St → Type 0
  Ruled = board.Ruled place_of kind_of turns_of belongs

  abbrev Stands : Terms J → List (logic.Option (Option J)) → List (Holder J) → ℕ → Word → Type 0
  Stands = board.PlaceStands place_of kind_of turns_of belongs

  abbrev Knows : Terms J → List ℕ → Holder J → Type 0
  Knows = board.Knows place_of kind_of turns_of belongs

  abbrev Fits : Terms J → ℕ → Word → J → Type 0
  Fits = board.Fits place_of kind_of turns_of belongs

  abbrev claimed : Step (Option J) → Seat → ℕ → Seat → Type 0
  claimed = steps.claimed place_of kind_of turns_of belongs

  -- the word of a place is one that the board may have
  may_be : (given : Terms J) (s : St) → Ruled given s → (place : ℕ) → place < length s.homes → get_or s.words place 0 < 18446744073709551616 → IsWordOf given (word_at s.words place)
  may_be given s r place inside small =
      let p = r.places place inside in
      record {
        few = omega (arith, small);
        unbegun = (λ vacant. p.unbegun (ap rank vacant), λ waits. p.unbegun (ap rank waits));
        filled = λ fixed vacant. false≢true (sym (p.vacant vacant).1 ∙ fixed);
      }

  -- all that a pass has noted of a place is past its word
  pub past_here : (words : List ℕ) (place : ℕ) (notes : List Note) → All (IsPast words) notes → RisesPast notes place (word_at words place)
  past_here words place notes past =
      All-weaker (IsPast words) (λ (n : Note). n.place ≡ place → Rises n.word (word_at words place)) (λ n p e. subst (λ (k : ℕ). Rises n.word (word_at words k)) e p) notes past

  -- a word that is found, and stays, is noted
  sees : (given : Terms J) (s : St) → Ruled given s → (id : ℕ) (m : Seat) → get_elem? s.views id ≡ some m.0 → 0 < m.0.parts → (place : ℕ) → place < length s.homes
      → get_or s.words place 0 < 18446744073709551616
      → Ruled given (stepped s place (get_or s.words place 0) id m.1 (noted_by m.0 place (word_at s.words place)) keeps) × Noted m place (get_or s.words place 0) (noted_by m.0 place (word_at s.words place), m.1)
  sees given s r id m me live place inside small =
      let v : Holder J = m.0 in
      let v' : Holder J = noted_by v place (word_at s.words place) in
      let k = r.seats id v me in
      let same = k.same live in
      let up : Rises (word_at s.words place) (word_at s.words place) = (omega arith, omega arith) in
      let knows : Knows given s.words v' = record {
        same = k.same;
        spent = λ none_left. absurd (omega arith);
        held = k.held;
        past = λ fixed. All-push (IsPast s.words) v.notes (note place (word_at s.words place)) (k.past fixed) up;
      } in
      let ruled = standing.review place_of kind_of turns_of belongs given s r (set s.views id v')
      (omega (arith, total-set parts_in s.views id v v' me, r.parts))
      (λ p. omega (arith, total-set (holds_place p) s.views id v v' me))
      (λ j u e. ⊎_elim (λ t. subst (Knows given s.words) t.1 knows) (λ t. r.seats j u t.1) (at_set s.views id j v' u e))
      in (
        subst (λ (ws : List ℕ). Ruled given (at place_of kind_of turns_of belongs ws s.homes (set s.views id v'))) (sym (set-get_or s.words place 0)) ruled,
        (
          refl,
          (λ fixed. past_here s.words place v.notes (k.past (subst (λ (t : Terms J). t.fixed ≡ true) same fixed))),
          subst (λ (t : Terms J). IsWordOf t (word_at s.words place)) (sym same) (may_be given s r place inside small),
        ),
      )

  pub looks : (given : Terms J) (slots id : ℕ) (m : Seat) (place : ℕ) → 0 < m.0.parts → place < slots → Allows (Ruled given) slots id m place (λ n. n) (looked (step slots place 0 0 none) m)
  looks given slots id m place live inside s r wide me small =
      let t = sees given s r id m me live place (omega (arith, wide)) small in (noted_by m.0 place (word_at s.words place), keeps, tt, t.0, t.1)

  -- a place whose word tells a job is claimed: the word is exchanged for that of a held place
  claims_at : (given : Terms J) (s : St) → Ruled given s → (id : ℕ) (m : Seat) → get_elem? s.views id ≡ some m.0 → 0 < m.0.parts → m.0.held ≡ None → (place : ℕ) → place < length s.homes
      → (seen : Word) → IsResting seen.state → word_at s.words place ≡ seen → (job : J) → get_elem? s.homes place ≡ some (some (Some job))
      → Ruled given (stepped s place (code_of (held_of seen)) id m.1 (held_by m.0 place seen) (takes place (Some job)))
  claims_at given s r id m me live free place inside seen rests is job home =
      let v : Holder J = m.0 in
      let v' : Holder J = held_by v place seen in
      let code : ℕ = code_of (held_of seen) in
      let p : Stands given s.homes s.views place seen = subst (Stands given s.homes s.views place) is (r.places place inside) in
      let k = r.seats id v me in
      let none_held : (other : ℕ) → holds_place other v ≡ 0 = λ other. ap (held_at other) free in
      let up : Rises (word_at s.words place) (held_of seen) = subst (λ (w : Word). Rises w (held_of seen)) (sym is) (omega arith, omega (arith, rank_held seen.state rests)) in
      standing.changed place_of kind_of turns_of belongs given s id v v' place code (held_of seen) (set s.homes place none) r record {
        me = me;
        inside = inside;
        is = word_of-code_of (held_of seen);
        coded = code_few (held_of seen);
        wide = length-set s.homes place none;
        others = λ other ne. set_else s.homes place other none ne;
        live = live;
        parts = refl;
        terms = refl;
        alone = p.holders ∙ (no_holder seen.state rests ∙ sym (none_held place));
        elsewhere = λ other ne. held_elsewhere other (hold place seen) (λ e. ne (sym e)) ∙ sym (none_held other);
        up = λ fixed. up;
        held = λ now. (now, rests);
        past = λ now fixed. All-weaker (IsPast s.words) (IsPast (set s.words place code)) (past_still s.words place code (held_of seen) now up) v.notes (k.past fixed);
        home = λ resting. absurd (held_rests_not seen.state rests resting);
        vacant = λ empty. absurd (held_is_taken seen.state rests empty);
        unbegun = λ low. p.unbegun (sym (rank_held seen.state rests) ∙ low);
        holder = held_here place (hold place seen) refl ∙ sym (one_holder seen.state rests);
      }

  pub claims : (given : Terms J) (slots id : ℕ) (m : Seat) (place : ℕ) (seen : Word) → 0 < m.0.parts → m.0.held ≡ None → place < slots → IsResting seen.state
      → Allows (Ruled given) slots id m place (λ n. either (n == code_of seen) (code_of (held_of seen)) n) (claimed (step slots place (code_of seen) (code_of (held_of seen)) none) m)
  claims given slots id m place seen live free inside rests s r wide me small =
      let n : ℕ = get_or s.words place 0 in
      let asked : ℕ = code_of seen in
      let there : place < length s.homes = omega (arith, wide) in
      let same = (r.seats id m.0 me).same live in
      exchanged n asked (code_of (held_of seen))
      (λ (k : ℕ). (w : Holder J) × (a : Act (Option J)) × Valid s.homes m.1 a × Ruled given (stepped s place k id m.1 w a) × claimed (step slots place asked (code_of (held_of seen)) none) m n (w, carried_after m.1 a))
      (λ e.
      let is : word_at s.words place ≡ seen = ap word_of e ∙ word_of-code_of seen in
      let h = (subst (Stands given s.homes s.views place) is (r.places place there)).home rests in (
        held_by m.0 place seen,
        takes place (Some h.0),
        h.1,
        claims_at given s r id m me live free place there seen rests is h.0 h.1,
        (
          (λ _. (
            (λ fixed. past_here s.words place m.0.notes ((r.seats id m.0 me).past (subst (λ (t : Terms J). t.fixed ≡ true) same fixed))),
            h.0,
            ap (λ (w : Word). (held_by m.0 place w, (place, Some h.0) ∷ m.1)) (sym is),
            subst (λ (w : Word). Fits m.0.terms place w h.0) (sym is) (subst (λ (t : Terms J). Fits t place seen h.0) (sym same) h.2),
          )),
          (λ ne. absurd (ne e)),
        ),
      ))
      (λ ne.
      let t = sees given s r id m me live place there small in
      (noted_by m.0 place (word_at s.words place), keeps, tt, t.0, ((λ e. absurd (ne e)), (λ _. t.1))))

  -- the same by the two numbers as they are stored
  pub claims_as : (given : Terms J) (slots id : ℕ) (m : Seat) (place : ℕ) (seen : Word) (asked laid : ℕ) → asked ≡ code_of seen → laid ≡ code_of (held_of seen) → 0 < m.0.parts → m.0.held ≡ None → place < slots → IsResting seen.state
      → Allows (Ruled given) slots id m place (λ n. either (n == asked) laid n) (claimed (step slots place asked laid none) m)
  claims_as given slots id m place seen asked laid a l live free inside rests =
      subst (λ (x : ℕ). Allows (Ruled given) slots id m place (λ n. either (n == x) laid n) (claimed (step slots place x laid none) m)) (sym a)
      (subst (λ (y : ℕ). Allows (Ruled given) slots id m place (λ n. either (n == code_of seen) y n) (claimed (step slots place (code_of seen) y none) m)) (sym l)
      (claims given slots id m place seen live free inside rests))

  -- a vacant place is taken by a filler, who is taken to have found a job that waits
  fills_at : (given : Terms J) (s : St) → Ruled given s → (id : ℕ) (m : Seat) → get_elem? s.views id ≡ some m.0 → 0 < m.0.parts → m.0.held ≡ None → m.0.terms.fixed ≡ false → (place : ℕ) → place < length s.homes
      → word_at s.words place ≡ word 0 state.Vacant
      → Ruled given (stepped s place 4 id m.1 (held_by m.0 place (word 0 state.Waiting)) (takes place None))
  fills_at given s r id m me live free open_board place inside is =
      let v : Holder J = m.0 in
      let found : Word = word 0 state.Waiting in
      let v' : Holder J = held_by v place found in
      let p : Stands given s.homes s.views place (word 0 state.Vacant) = subst (Stands given s.homes s.views place) is (r.places place inside) in
      let k = r.seats id v me in
      let none_held : (other : ℕ) → holds_place other v ≡ 0 = λ other. ap (held_at other) free in
      let not_fixed : given.fixed ≡ false = subst (λ (t : Terms J). t.fixed ≡ false) (k.same live) open_board in
      standing.changed place_of kind_of turns_of belongs given s id v v' place 4 (held_of found) (set s.homes place none) r record {
        me = me;
        inside = inside;
        is = refl;
        coded = omega arith;
        wide = length-set s.homes place none;
        others = λ other ne. set_else s.homes place other none ne;
        live = live;
        parts = refl;
        terms = refl;
        alone = p.holders ∙ sym (none_held place);
        elsewhere = λ other ne. held_elsewhere other (hold place found) (λ e. ne (sym e)) ∙ sym (none_held other);
        up = λ fixed. absurd (false≢true (sym not_fixed ∙ fixed));
        held = λ now. (now, tt);
        past = λ now fixed. absurd (false≢true (sym not_fixed ∙ fixed));
        home = λ resting. absurd resting;
        vacant = λ empty. cc;
        unbegun = λ low. refl;
        holder = held_here place (hold place found) refl;
      }

  pub fills : (given : Terms J) (slots id : ℕ) (m : Seat) (place : ℕ) → 0 < m.0.parts → m.0.held ≡ None → m.0.terms.fixed ≡ false → place < slots
      → Allows (Ruled given) slots id m place (λ n. either (n == 0) 4 n) (filled (step slots place 0 4 none) m)
  fills given slots id m place live free open_board inside s r wide me small =
      let n : ℕ = get_or s.words place 0 in
      let there : place < length s.homes = omega (arith, wide) in
      exchanged n 0 4
      (λ (k : ℕ). (w : Holder J) × (a : Act (Option J)) × Valid s.homes m.1 a × Ruled given (stepped s place k id m.1 w a) × filled (step slots place 0 4 none) m n (w, carried_after m.1 a))
      (λ e.
      let is : word_at s.words place ≡ word 0 state.Vacant = ap word_of e in
      let h = (subst (Stands given s.homes s.views place) is (r.places place there)).vacant refl in
      (held_by m.0 place (word 0 state.Waiting), takes place None, h.0, fills_at given s r id m me live free open_board place there is, ((λ _. refl), (λ ne. absurd (ne e)))))
      (λ ne.
      let t = sees given s r id m me live place there small in
      (noted_by m.0 place (word_at s.words place), keeps, tt, t.0, ((λ e. absurd (ne e)), (λ _. t.1))))

  -- what a holder may leave in the slot of its place, beside the word that it stores
  pub record MayLay (given : Terms J) (place : ℕ) (found : Word) (left : Option J) (w : Word) : Type 0 where
    pub home : IsResting w.state → (job : J) × (left ≡ Some job) × Fits given place w job
    pub vacant : w.state ≡ state.Vacant → (left ≡ None) × (given.fixed ≡ false)
    pub unbegun : rank w.state ≡ 0 → w.turns ≡ 0
    pub up : given.fixed ≡ true → Rises found w
    pub nobody : holders_in w.state ≡ 0

  lays_at : (given : Terms J) (s : St) → Ruled given s → (id : ℕ) (v : Holder J) → get_elem? s.views id ≡ some v → 0 < v.parts → (place : ℕ) (found : Word) → v.held ≡ Some (hold place found) → place < length s.homes
      → (left : Option J) (w : Word) → MayLay given place found left w
      → Ruled given (at place_of kind_of turns_of belongs (set s.words place (code_of w)) (set s.homes place (some left)) (set s.views id (put_by v place w)))
  lays_at given s r id v me live place found holds inside left w may =
      let v' : Holder J = put_by v place w in
      let code : ℕ = code_of w in
      let k = r.seats id v me in
      let h : IsHeldIn s.words (hold place found) = subst (λ (o : Option Hold). IfSome o (IsHeldIn s.words)) holds k.held in
      let p = r.places place inside in
      let mine : holds_place place v ≡ 1 = ap (held_at place) holds ∙ held_here place (hold place found) refl in
      let one : total (holds_place place) s.views ≡ 1 = p.holders ∙ (ap (λ (x : Word). holders_in x.state) h.0 ∙ one_holder found.state h.1) in
      let up : given.fixed ≡ true → Rises (word_at s.words place) w =
      λ fixed. subst (λ (x : Word). Rises x w) (sym h.0) ((may.up fixed).0, omega (arith, rank_held found.state h.1, (may.up fixed).1)) in
      standing.changed place_of kind_of turns_of belongs given s id v v' place code w (set s.homes place (some left)) r record {
        me = me;
        inside = inside;
        is = word_of-code_of w;
        coded = code_few w;
        wide = length-set s.homes place (some left);
        others = λ other ne. set_else s.homes place other (some left) ne;
        live = live;
        parts = refl;
        terms = refl;
        alone = one ∙ sym mine;
        elsewhere = λ other ne. sym (ap (held_at other) holds ∙ held_elsewhere other (hold place found) (λ e. ne (sym e)));
        up = up;
        held = λ now. tt;
        past = λ now fixed.
            All-push (IsPast (set s.words place code)) v.notes (note place w)
            (All-weaker (IsPast s.words) (IsPast (set s.words place code)) (past_still s.words place code w now (up fixed)) v.notes (k.past fixed))
            (subst (Rises w) (sym now) (omega arith, omega arith));
        home = λ rests. let j = may.home rests in (j.0, set_here s.homes place (some left) inside ∙ ap (λ (o : Option J). some (some o)) j.1, j.2);
        vacant = λ empty. let e = may.vacant empty in (set_here s.homes place (some left) inside ∙ ap (λ (o : Option J). some (some o)) e.0, e.1);
        unbegun = may.unbegun;
        holder = sym may.nobody;
      }

  pub lays : (given : Terms J) (slots id : ℕ) (m : Seat) (v : Holder J) (place : ℕ) (found : Word) (left : Option J) (w : Word) (more : List (ℕ × Option J)) (stored : ℕ) → m ≡ (v, (place, left) ∷ more) → stored ≡ code_of w → 0 < v.parts
      → v.held ≡ Some (hold place found) → place < slots → MayLay v.terms place found left w
      → Allows (Ruled given) slots id m place (λ _. stored) (λ _. put (step slots place stored 0 none) m stored)
  lays given slots id m v place found left w more stored mine code live holds inside may s r wide me small =
      let me' : get_elem? s.views id ≡ some v = me ∙ ap (λ (x : Seat). some x.0) mine in
      let same = (r.seats id v me').same live in
      let may' : MayLay given place found left w = subst (λ (t : Terms J). MayLay t place found left w) same may in
      let ruled = lays_at given s r id v me' live place found holds (omega (arith, wide)) left w may' in
      let stores : code_of w ≡ stored = sym code in
      let noted : w ≡ word_of stored = sym (word_of-code_of w) ∙ ap word_of stores in
      let after : Holder J → Word → Seat = λ x k. (put_by x place k, rest m.1) in (
        put_by v place w,
        gives,
        tt,
        subst (λ (x : List (ℕ × Option J)). Ruled given (at place_of kind_of turns_of belongs (set s.words place stored) (put_back s.homes x) (set s.views id (put_by v place w)))) (sym (ap (λ (x : Seat). x.1) mine))
            (subst (λ (n : ℕ). Ruled given (at place_of kind_of turns_of belongs (set s.words place n) (set s.homes place (some left)) (set s.views id (put_by v place w)))) stores ruled),
        ap (λ (x : Word). after v x) noted ∙ ap (λ (x : Seat). after x.0 (word_of stored)) (sym mine),
      )

  pub cuts : (given : Terms J) (id : ℕ) (v : Holder J) → 2 ≤ v.parts → Splits (Ruled given) id v (less_one v) (one_part v)
  cuts given id v enough s r me =
      let k = r.seats id v me in
      let views : List (Holder J) = set s.views id (less_one v) in
      let left : Knows given s.words (less_one v) = record { same = λ _. k.same (omega arith); spent = λ none_left. absurd (omega arith); held = k.held; past = k.past } in
      let right : Knows given s.words (one_part v) = record { same = λ _. k.same (omega arith); spent = λ none_left. absurd (omega arith); held = tt; past = k.past } in
      standing.review place_of kind_of turns_of belongs given s r (views ++ one_part v ∷ [])
      (omega (arith, total-set parts_in s.views id v (less_one v) me, total-push parts_in views (one_part v), r.parts))
      (λ p. omega (arith, total-set (holds_place p) s.views id v (less_one v) me, total-push (holds_place p) views (one_part v)))
      (λ j u e.
      ⊎_elim (λ old. ⊎_elim (λ t. subst (Knows given s.words) t.1 left) (λ t. r.seats j u t.1) (at_set s.views id j (less_one v) u old)) (λ new. subst (Knows given s.words) new right)
      (at_snoc views (one_part v) u j e))

  pub unites : (given : Terms J) (id : ℕ) (v : Holder J) (other : ℕ) (u : Holder J) → 0 < v.parts → u.held ≡ None → Joins (Ruled given) id v other u (both_noted v u) spent_holder
  unites given id v other u live free s r me apart there =
      let both : Holder J = both_noted v u in
      let k = r.seats id v me in
      let theirs = r.seats other u (sym (set_else s.views id other both apart) ∙ there) in
      let views : List (Holder J) = set s.views id both in
      let mine : Knows given s.words both = record {
        same = λ _. k.same live;
        spent = λ none_left. absurd (omega arith);
        held = k.held;
        past = λ fixed. All-append (IsPast s.words) v.notes u.notes (k.past fixed) (theirs.past fixed);
      } in
      let gone : Knows given s.words spent_holder = record { same = λ some_part. absurd (omega arith); spent = λ _. (refl, refl); held = tt; past = λ _. All-nil (IsPast s.words) } in
      let none_held : (p : ℕ) → holds_place p u ≡ 0 = λ p. ap (held_at p) free in
      standing.review place_of kind_of turns_of belongs given s r (set views other spent_holder)
      (omega (arith, total-set parts_in s.views id v both me, total-set parts_in views other u spent_holder there, r.parts))
      (λ p. omega (arith, total-set (holds_place p) s.views id v both me, total-set (holds_place p) views other u spent_holder there, none_held p))
      (λ j x e.
      ⊎_elim (λ t. subst (Knows given s.words) t.1 gone) (λ t. ⊎_elim (λ q. subst (Knows given s.words) q.1 mine) (λ q. r.seats j x q.1) (at_set s.views id j both x t.1))
      (at_set views other j spent_holder x e))
