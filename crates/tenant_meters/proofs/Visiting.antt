-- A second pass of each meter makes a visit too.
use Rattle.std.proofs.Common.{◌≡◌, ℕ, zero, suc, ◌<◌, List, [], ◌∷◌, map, length, slice_index_or, refl, sym, ◌∙◌, subst, arith}
use Rattle.std.proofs.lemmas.List.{length-map}
use Rattle.tenant_meters.specs.Metered.{MeterView, PassView, IsPassOf, second}
use Rattle.tenant_meters.specs.Visiting.{IsVisitOf}

at_second : (passes : List PassView) (k : ℕ) (p : PassView) → k < length passes → slice_index_or (map second passes) k p ≡ second (slice_index_or passes k p)
at_second [] k p inside = absurd (omega (arith, inside))
at_second (x ∷ xs) zero p inside = refl
at_second (x ∷ xs) (suc k) p inside = at_second xs k p (omega (arith, inside))

pub second_visit : (meters : List MeterView) (passes : List PassView) → IsVisitOf meters passes → IsVisitOf meters (map second passes)
second_visit meters passes v =
    record {
      long = length-map passes second ∙ v.long;
      each = λ tenant m p inside. subst (λ (q : PassView). IsPassOf (slice_index_or meters tenant m) q) (sym (at_second passes tenant p (omega (arith, inside, v.long)))) (v.each tenant m p inside);
    }
