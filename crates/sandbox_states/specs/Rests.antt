-- What is left of a list of prices once a part of it was paid.
use Rattle.std.specs.Prelude.{ℕ, zero, suc, ◌-◌, ◌≤◌, List, [], ◌∷◌}

-- the prices behind those that make so many units
abbrev pub prices_after : (units : ℕ) → (prices : List ℕ) → List ℕ
prices_after zero prices = prices
prices_after (suc n) [] = []
prices_after (suc n) (price ∷ prices) = prices_after (suc n - price) prices

-- each of them costs something
abbrev pub ArePaid : List ℕ → Type 0
ArePaid [] = Unit {0}
ArePaid (price ∷ prices) = (1 ≤ price) × ArePaid prices
