-- Groups joined are the list of prices, and each but the last is the shortest that reaches the quantum.
use Rattle.std.proofs.Common.{◌≡◌, ◌⊎◌, ℕ, ◌+◌, ◌≤◌, ◌<◌, Bool, true, false, cond, nat_lt, List, [], ◌∷◌, ◌++◌, sum, refl, ap, ◌∙◌, inl, inr, arith}
use Rattle.std.proofs.lemmas.Bool.Decides.{nat_tests}
use Rattle.std.proofs.lemmas.List.Sums.{sum_by-cons}
use Rattle.wasm_meaning.specs.Turns.{joins, groups_after, groups, IsShortest, AreShortest, joined}

joined-joins : (price : ℕ) (gs : List (List ℕ)) → joined (joins price gs) ≡ price ∷ joined gs
joined-joins price [] = refl
joined-joins price (g ∷ gs) = refl

cut_joined : (b : Bool) (price : ℕ) (prices : List ℕ) (more anew : List (List ℕ)) → joined more ≡ prices → joined anew ≡ prices
    → joined (cond b (joins price more) ((price ∷ []) ∷ anew)) ≡ price ∷ prices
cut_joined true price prices more anew m a = joined-joins price more ∙ ap (λ (ps : List ℕ). price ∷ ps) m
cut_joined false price prices more anew m a = ap (λ (ps : List ℕ). price ∷ ps) a

groups_joined : (quantum got : ℕ) (prices : List ℕ) → joined (groups_after quantum got prices) ≡ prices
groups_joined quantum got [] = refl
groups_joined quantum got (price ∷ prices) =
    cut_joined (nat_lt (got + price) quantum) price prices _ _ (groups_joined quantum (got + price) prices) (groups_joined quantum 0 prices)

pub groups_make : (prices : List ℕ) (quantum : ℕ) → joined (groups prices quantum) ≡ prices
groups_make prices quantum = groups_joined quantum 0 prices

-- the same of groups of which the first has already so much

record ShortestAfter (quantum got : ℕ) (group : List ℕ) : Type 0 where
  front : List ℕ
  last : ℕ
  is : group ≡ front ++ last ∷ []
  below : got + sum front < quantum
  reaches : quantum ≤ got + sum front + last

AreAfter : (quantum got : ℕ) → List (List ℕ) → Type 0
AreAfter quantum got [] = Unit {0}
AreAfter quantum got (g ∷ []) = (got + sum g < quantum) ⊎ ShortestAfter quantum got g
AreAfter quantum got (g ∷ h ∷ gs) = ShortestAfter quantum got g × AreAfter quantum 0 (h ∷ gs)

shifted : (quantum got price : ℕ) (g : List ℕ) → ShortestAfter quantum (got + price) g → ShortestAfter quantum got (price ∷ g)
shifted quantum got price g s =
    let all = sum_by-cons (λ x. x) price s.front in
    record {
      front = price ∷ s.front;
      last = s.last;
      is = ap (λ (ps : List ℕ). price ∷ ps) s.is;
      below = omega (arith, s.below, all);
      reaches = omega (arith, s.reaches, all);
    }

joins_after : (quantum got price : ℕ) (gs : List (List ℕ)) → got + price < quantum → AreAfter quantum (got + price) gs → AreAfter quantum got (joins price gs)
unfolding AreAfter
joins_after quantum got price [] below a = inl (omega (arith, below, sum_by-cons (λ x. x) price []))
joins_after quantum got price (g ∷ []) below (inl less) = inl (omega (arith, less, sum_by-cons (λ x. x) price g))
joins_after quantum got price (g ∷ []) below (inr s) = inr (shifted quantum got price g s)
joins_after quantum got price (g ∷ h ∷ gs) below a = (shifted quantum got price g a.0, a.1)

alone_after : (quantum got price : ℕ) → got < quantum → quantum ≤ got + price → ShortestAfter quantum got (price ∷ [])
alone_after quantum got price below reaches =
    record { front = []; last = price; is = refl; below = omega (arith, below); reaches = omega (arith, reaches) }

anew_after : (quantum got price : ℕ) (gs : List (List ℕ)) → got < quantum → quantum ≤ got + price → AreAfter quantum 0 gs → AreAfter quantum got ((price ∷ []) ∷ gs)
unfolding AreAfter
anew_after quantum got price [] below reaches a = inr (alone_after quantum got price below reaches)
anew_after quantum got price (g ∷ gs) below reaches a = (alone_after quantum got price below reaches, a)

cut_after : (quantum got price : ℕ) (more anew : List (List ℕ)) (b : Bool) → nat_lt (got + price) quantum ≡ b → got < quantum
    → (got + price < quantum → AreAfter quantum (got + price) more) → AreAfter quantum 0 anew
    → AreAfter quantum got (cond b (joins price more) ((price ∷ []) ∷ anew))
cut_after quantum got price more anew true e below m a =
    let less : got + price < quantum = grind (arith, nat_tests) in
    joins_after quantum got price more less (m less)
cut_after quantum got price more anew false e below m a =
    let reaches : quantum ≤ got + price = grind (arith, nat_tests) in
    anew_after quantum got price anew below reaches a

groups_are : (quantum got : ℕ) (prices : List ℕ) → got < quantum → AreAfter quantum got (groups_after quantum got prices)
unfolding AreAfter
groups_are quantum got [] below = tt
groups_are quantum got (price ∷ prices) below =
    cut_after quantum got price _ _ (nat_lt (got + price) quantum) refl below
    (λ less. groups_are quantum (got + price) prices less) (groups_are quantum 0 prices (omega (arith, below)))

is_shortest : (quantum : ℕ) (g : List ℕ) → ShortestAfter quantum 0 g → IsShortest quantum g
is_shortest quantum g s = record { front = s.front; last = s.last; is = s.is; below = omega (arith, s.below); reaches = omega (arith, s.reaches) }

from_nothing : (quantum : ℕ) (gs : List (List ℕ)) → AreAfter quantum 0 gs → AreShortest quantum gs
unfolding AreAfter
from_nothing quantum [] a = tt
from_nothing quantum (g ∷ []) (inl less) = inl (omega (arith, less))
from_nothing quantum (g ∷ []) (inr s) = inr (is_shortest quantum g s)
from_nothing quantum (g ∷ h ∷ gs) a = (is_shortest quantum g a.0, from_nothing quantum (h ∷ gs) a.1)

pub groups_shortest : (prices : List ℕ) (quantum : ℕ) → 1 ≤ quantum → AreShortest quantum (groups prices quantum)
groups_shortest prices quantum least = from_nothing quantum (groups prices quantum) (groups_are quantum 0 prices (omega (arith, least)))
