-- What keeps the pool rule: that one word, its slot and the view of one pass change together, or that views change alone.
use Rattle.std.proofs.Common.{◌≡◌, ℕ, zero, suc, ◌+◌, ◌<◌, ◌≤◌, ◌≢◌, eqb, cond, List, [], ◌∷◌, ◌++◌, length, get_or, set, sym, refl, ap, ◌∙◌, subst, ⊎_elim, arith, length-set, get_or-set_same, get_or-set_other, eq-eqb, ne_eqb, Option, Some, None}
use mathlib.Core.Logic.{dite}
use mathlib.Core.Option.{some}
use mathlib.Core.Option as logic
use native.Mathlib.Decide.{ℕ_discrete}
use lib.ListN.{get_elem?}
use Rattle.atomic_table.specs.Table.{State}
use Rattle.atomic_table.proofs.Lists.{at_set}
use Rattle.view_totals.specs.Totals.{total}
use Rattle.view_totals.proofs.Sums.{total-set}
use Rattle.wasm_store.specs.View.{View, empty}
use Rattle.memory_pool.specs.Pooling.{parts_in, taken_in, given_in, moves, coming, coming_in, is_full, is_busy, SlotStands, Knows, Pooled}
use Rattle.memory_pool.specs.declared.movers.Mover.{Mover}
use Rattle.memory_pool.specs.declared.movers.Moving.{Moving}
use Rattle.memory_pool.specs.declared.movers.Moving.TheVariants.{Nothing, Taking, Giving}

abbrev pub St : Type 0
St = State (Option View) Mover

abbrev pub at : List ℕ → List (logic.Option (Option View)) → List Mover → St
at words homes views = record { words = words; homes = homes; views = views }

-- the sum over the words where one of them changes
word_total : (f : ℕ → ℕ) (words : List ℕ) (slot code : ℕ) → slot < length words → total f (set words slot code) + f (get_or words slot 0) ≡ total f words + f code
word_total f [] slot code inside = absurd (omega arith)
word_total f (w ∷ ws) zero code inside = omega arith
word_total f (w ∷ ws) (suc slot) code inside = omega (arith, word_total f ws slot code (omega arith))

-- views change alone
pub review : (pages : ℕ) (s : St) → Pooled pages s → (views : List Mover) → total parts_in views ≡ 65536 → ((slot : ℕ) → total (moves slot) views ≡ total (moves slot) s.views)
    → total given_in views ≡ total given_in s.views → total taken_in views ≡ total taken_in s.views → total coming_in views ≡ total coming_in s.views
    → ((j : ℕ) (v : Mover) → get_elem? views j ≡ some v → Knows pages v) → Pooled pages (at s.words s.homes views)
review pages s r views parts same given taken on_way seats = record {
  wide = r.wide;
  slots = λ slot inside. let p = r.slots slot inside in record { known = p.known; full = p.full; empty = p.empty; movers = same slot ∙ p.movers };
  parts = parts;
  seats = seats;
  stock = omega (arith, r.stock, given, taken, on_way);
}

-- the word of a slot becomes code, by the pass that moves it or where none does; the slot and the view of that pass become what the word then tells
pub record Change (pages : ℕ) (s : St) (id : ℕ) (v v' : Mover) (slot code : ℕ) (homes : List (logic.Option (Option View))) : Type 0 where
  pub me : get_elem? s.views id ≡ some v
  pub inside : slot < length s.homes
  pub known : code ≤ 2
  pub wide : length homes ≡ length s.homes
  pub others : (other : ℕ) → other ≢ slot → get_elem? homes other ≡ get_elem? s.homes other
  pub live : 0 < v.parts
  pub parts : v'.parts ≡ v.parts
  pub same : v'.pages ≡ v.pages
  pub alone : total (moves slot) s.views ≡ moves slot v
  pub elsewhere : (other : ℕ) → other ≢ slot → moves other v' ≡ moves other v
  pub full : code ≡ 1 → get_elem? homes slot ≡ some (some (Some (empty pages)))
  pub none : code ≡ 0 → get_elem? homes slot ≡ some (some None)
  pub mover : moves slot v' ≡ is_busy code
  pub stock : v'.given + v.taken + is_full (get_or s.words slot 0) + coming v.moving ≡ v.given + v'.taken + is_full code + coming v'.moving

pub changed : (pages : ℕ) (s : St) (id : ℕ) (v v' : Mover) (slot code : ℕ) (homes : List (logic.Option (Option View))) → Pooled pages s → Change pages s id v v' slot code homes → Pooled pages (at (set s.words slot code) homes (set s.views id v'))
changed pages s id v v' slot code homes r c =
    let inside : slot < length s.words = omega (arith, r.wide, c.inside) in
    let parts = c.parts in
    let live = c.live in
    let mine : Knows pages v' = record { same = λ some_part. c.same ∙ (r.seats id v c.me).same live; spent = λ none_left. absurd (omega arith) } in
    let views : List Mover = set s.views id v' in
    let there : SlotStands pages homes views slot code = record {
      known = c.known;
      full = c.full;
      empty = c.none;
      movers = omega (arith, total-set (moves slot) s.views id v v' c.me, c.alone, c.mover);
    } in
    record {
      wide = length-set s.words slot code ∙ (r.wide ∙ sym c.wide);
      slots = λ other within.
          dite (ℕ_discrete other slot)
          (λ e. subst (λ (k : ℕ). SlotStands pages homes views k (get_or (set s.words slot code) k 0)) (sym e) (subst (SlotStands pages homes views slot) (sym (get_or-set_same s.words slot code 0 inside)) there))
          (λ ne.
          let p = r.slots other (omega (arith, c.wide, within)) in
          subst (SlotStands pages homes views other) (sym (get_or-set_other s.words slot other code 0 ne)) record {
            known = p.known;
            full = λ e. c.others other ne ∙ p.full e;
            empty = λ e. c.others other ne ∙ p.empty e;
            movers = omega (arith, total-set (moves other) s.views id v v' c.me, c.elsewhere other ne, p.movers);
          });
      parts = omega (arith, total-set parts_in s.views id v v' c.me, r.parts);
      seats = λ j u e. ⊎_elim (λ t. subst (Knows pages) t.1 mine) (λ t. r.seats j u t.1) (at_set s.views id j v' u e);
      stock = omega (
        arith,
        r.stock,
        c.stock,
        length-set s.words slot code,
        word_total is_full s.words slot code inside,
        total-set given_in s.views id v v' c.me,
        total-set taken_in s.views id v v' c.me,
        total-set coming_in s.views id v v' c.me,
      );
    }
