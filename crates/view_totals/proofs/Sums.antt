-- Sums over a list that changes at one place or grows at its end, and how one element stands to the sum.
use Rattle.std.proofs.Common.{◌≡◌, ℕ, zero, suc, ◌+◌, ◌≤◌, ◌<◌, ◌≢◌, List, [], ◌∷◌, ◌++◌, set, ap, refl, arith}
use mathlib.Core.Option.{some, some-injective, some-ne-none}
use Rattle.std.proofs.Common.{sym}
use lib.ListN.{get_elem?}
use Rattle.view_totals.specs.Totals.{total}

module _ {A : Type 0} (f : A → ℕ) where
  pub total-append : (xs ys : List A) → total f (xs ++ ys) ≡ total f xs + total f ys
  total-append [] ys = omega arith
  total-append (x ∷ xs) ys = omega (arith, total-append xs ys)

  pub total-push : (xs : List A) (x : A) → total f (xs ++ x ∷ []) ≡ total f xs + f x
  total-push [] x = omega arith
  total-push (y ∷ ys) x = omega (arith, total-push ys x)

  -- where the element at a place goes from v to w
  pub total-set : (xs : List A) (at : ℕ) (v w : A) → get_elem? xs at ≡ some v → total f (set xs at w) + f v ≡ total f xs + f w
  total-set [] at v w e = absurd (some-ne-none v (sym e))
  total-set (x ∷ xs) zero v w e = omega (arith, ap f (some-injective x v e))
  total-set (x ∷ xs) (suc at) v w e = omega (arith, total-set xs at v w e)

  -- no element is above the sum
  pub term_le : (xs : List A) (at : ℕ) (v : A) → get_elem? xs at ≡ some v → f v ≤ total f xs
  term_le [] at v e = absurd (some-ne-none v (sym e))
  term_le (x ∷ xs) zero v e = omega (arith, ap f (some-injective x v e))
  term_le (x ∷ xs) (suc at) v e = omega (arith, term_le xs at v e)

  -- nor are two
  pub terms_le : (xs : List A) (at other : ℕ) (v u : A) → other ≢ at → get_elem? xs at ≡ some v → get_elem? xs other ≡ some u → f v + f u ≤ total f xs
  terms_le [] at other v u apart e d = absurd (some-ne-none v (sym e))
  terms_le (x ∷ xs) zero zero v u apart e d = absurd (apart refl)
  terms_le (x ∷ xs) zero (suc other) v u apart e d = omega (arith, ap f (some-injective x v e), term_le xs other u d)
  terms_le (x ∷ xs) (suc at) zero v u apart e d = omega (arith, ap f (some-injective x u d), term_le xs at v e)
  terms_le (x ∷ xs) (suc at) (suc other) v u apart e d = omega (arith, terms_le xs at other v u (λ h. apart (ap suc h)) e d)

  -- where f is 0 of each element, so is the sum
  pub total-none : (xs : List A) → ((at : ℕ) (v : A) → get_elem? xs at ≡ some v → f v ≡ 0) → total f xs ≡ 0
  total-none [] none = refl
  total-none (x ∷ xs) none = omega (arith, none 0 x refl, total-none xs (λ at v e. none (suc at) v e))

  -- where f is 0 of each other element, the sum is f of this one
  pub total-alone : (xs : List A) (at : ℕ) (v : A) → get_elem? xs at ≡ some v → ((other : ℕ) (u : A) → other ≢ at → get_elem? xs other ≡ some u → f u ≡ 0) → total f xs ≡ f v
  total-alone [] at v e others = absurd (some-ne-none v (sym e))
  total-alone (x ∷ xs) zero v e others =
      omega (arith, ap f (some-injective x v e), total-none xs (λ k u d. others (suc k) u (λ h. omega arith) d))
  total-alone (x ∷ xs) (suc at) v e others =
      omega (arith, others 0 x (λ h. omega arith) refl, total-alone xs at v e (λ k u apart d. others (suc k) u (λ h. apart (omega arith)) d))
