-- Each step on the common queue keeps its rule.
use Rattle.std.proofs.Common.{◌≡◌, ℕ, ◌+◌, ◌-◌, ◌%◌, ◌^◌, ◌<◌, ◌≤◌, ◌≢◌, List, [], ◌∷◌, ◌++◌, length, get_or, set, sym, refl, ap, ◌∙◌, ⊎_elim, arith, length-set, length-append, get_or-set_same}
use mathlib.Core.Option.{none, some}
use lib.ListN.{get_elem?}
use Rattle.atomic_table.specs.Table.{State, Me, step, keeps, Allows, Splits, Joins}
use Rattle.atomic_table.proofs.Lists.{at_set, at_snoc}
use Rattle.view_totals.specs.Totals.{total}
use Rattle.view_totals.proofs.Sums.{total-set, total-push}
use Rattle.run_queues.specs.Counting.{drawer, parts_in, draws_in, Counted, drew, less_one, one_part, both_drawn}
use Rattle.run_queues.specs.declared.drawers.Drawer.{Drawer}

-- a view without a part has drawn nothing
abbrev IsSpent : Drawer → Type 0
IsSpent v = v.parts ≡ 0 → v.drawn ≡ []

abbrev AreSpent : List Drawer → Type 0
AreSpent views = (j : ℕ) (v : Drawer) → get_elem? views j ≡ some v → IsSpent v

spent_set : (views : List Drawer) (id : ℕ) (w : Drawer) → AreSpent views → IsSpent w → AreSpent (set views id w)
spent_set views id w spent new j u e =
    ⊎_elim (λ t none-left. ap (λ (x : Drawer). x.drawn) (sym t.1) ∙ new (ap (λ (x : Drawer). x.parts) t.1 ∙ none-left)) (λ t. spent j u t.1) (at_set views id j w u e)

spent_push : (views : List Drawer) (w : Drawer) → AreSpent views → IsSpent w → AreSpent (views ++ w ∷ [])
spent_push views w spent new j u e =
    ⊎_elim (λ h. spent j u h) (λ t none-left. ap (λ (x : Drawer). x.drawn) (sym t) ∙ new (ap (λ (x : Drawer). x.parts) t ∙ none-left)) (at_snoc views w u j e)

pub draws : (slots id : ℕ) (me : Me (Unit {0}) Drawer) → 0 < me.0.parts → Allows Counted slots id me 0 (λ n. (n + 1) % 2 ^ 64) (drew (step slots 0 1 0 none) me)
draws slots id me live s c wide at small =
    let found : ℕ = get_or s.words 0 0 in
    let v : Drawer = me.0 in
    let w : Drawer = drawer v.parts (v.drawn ++ found ∷ []) in
    let parts = total-set parts_in s.views id v w at in
    let drawn = total-set draws_in s.views id v w at in
    let more = length-append v.drawn (found ∷ []) in
    let here = get_or-set_same s.words 0 ((found + 1) % 2 ^ 64) 0 (omega (arith, c.words)) in (
      w,
      keeps,
      tt,
      record {
        words = length-set s.words 0 ((found + 1) % 2 ^ 64) ∙ c.words;
        parts = omega (arith, parts, c.parts);
        draws = omega (arith, here, c.draws, drawn, more);
        spent = spent_set s.views id w c.spent (λ none-left. absurd (omega arith));
      },
      (refl, refl),
    )

pub cuts : (id : ℕ) (v : Drawer) → 2 ≤ v.parts → Splits Counted id v (less_one v) (one_part v)
cuts id v enough s c at =
    let views : List Drawer = set s.views id (less_one v) in
    let parts = total-set parts_in s.views id v (less_one v) at in
    let drawn = total-set draws_in s.views id v (less_one v) at in
    record {
      words = c.words;
      parts = omega (arith, parts, c.parts, total-push parts_in views (one_part v));
      draws = omega (arith, c.draws, drawn, total-push draws_in views (one_part v));
      spent = spent_push views (one_part v) (spent_set s.views id (less_one v) c.spent (λ none-left. absurd (omega arith))) (λ none-left. refl);
    }

pub unites : (id : ℕ) (v : Drawer) (other : ℕ) (u : Drawer) → 0 < v.parts → Joins Counted id v other u (both_drawn v u) (drawer 0 [])
unites id v other u live s c at apart there =
    let w : Drawer = both_drawn v u in
    let views : List Drawer = set s.views id w in
    let parts = total-set parts_in s.views id v w at in
    let drawn = total-set draws_in s.views id v w at in
    let parts' = total-set parts_in views other u (drawer 0 []) there in
    let drawn' = total-set draws_in views other u (drawer 0 []) there in
    record {
      words = c.words;
      parts = omega (arith, parts, parts', c.parts);
      draws = omega (arith, c.draws, drawn, drawn', length-append v.drawn u.drawn);
      spent = spent_set views other (drawer 0 []) (spent_set s.views id w c.spent (λ none-left. absurd (omega arith))) (λ none-left. refl);
    }
