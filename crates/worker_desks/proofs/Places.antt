-- Sums over the first places.
use Rattle.std.proofs.Common.{◌≡◌, ℕ, zero, suc, ◌+◌, ◌*◌, ◌<◌, ◌≤◌, refl, sym, ap, subst, arith}
use mathlib.Core.Logic.{dite}
use native.Mathlib.Decide.{ℕ_discrete}
use Rattle.worker_desks.specs.Noted.{sum_over}

-- no term is greater
pub sum-le : (f g : ℕ → ℕ) (places : ℕ) → ((p : ℕ) → p < places → f p ≤ g p) → sum_over f places ≤ sum_over g places
sum-le f g zero each = omega arith
sum-le f g (suc n) each = omega (arith, sum-le f g n (λ p below. each p (omega arith)), each n (omega arith))

-- and one is less
pub sum-lt : (f g : ℕ → ℕ) (places k : ℕ) → k < places → f k < g k → ((p : ℕ) → p < places → f p ≤ g p) → sum_over f places < sum_over g places
sum-lt f g zero k inside less each = absurd (omega arith)
sum-lt f g (suc n) k inside less each =
    let all = sum-le f g n (λ p low. each p (omega arith)) in
    let here = each n (omega arith) in
    dite (ℕ_discrete k n)
    (λ e. let last : f n < g n = subst (λ (i : ℕ). f i < g i) e less in omega (arith, last, all))
    (λ ne. let before = sum-lt f g n k (omega arith) less (λ p low. each p (omega arith)) in omega (arith, before, here))

-- no term is above a limit
pub sum-most : (f : ℕ → ℕ) (limit places : ℕ) → ((p : ℕ) → f p ≤ limit) → sum_over f places ≤ places * limit
sum-most f limit zero each = omega arith
sum-most f limit (suc n) each = omega (arith, sum-most f limit n each, each n)

-- and one is below it
pub sum-below : (f : ℕ → ℕ) (limit places k : ℕ) → k < places → f k < limit → ((p : ℕ) → f p ≤ limit) → sum_over f places < places * limit
sum-below f limit zero k inside less each = absurd (omega arith)
sum-below f limit (suc n) k inside less each =
    let all = sum-most f limit n each in
    let here = each n in
    dite (ℕ_discrete k n)
    (λ e. let last : f n < limit = subst (λ (i : ℕ). f i < limit) e less in omega (arith, last, all))
    (λ ne. let before = sum-below f limit n k (omega arith) less each in omega (arith, before, here))
