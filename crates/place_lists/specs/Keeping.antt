-- The rule of the vacant places: what holds of the queue and of what all passes have out, between any two atomic steps.
use Rattle.std.specs.Prelude.{◌≡◌, ℕ, zero, suc, ◌+◌, ◌<◌, nat_lt, List, [], ◌∷◌, length, if◌then◌else◌}
use Rattle.view_totals.specs.Totals.{total}
use Rattle.place_lists.specs.Places.{IsPlace, times}
use Rattle.place_lists.specs.declared.keepers.Keeper.{Keeper}

abbrev pub keeper : (out : List ℕ) → Keeper
keeper out = record { out = out }

-- once for a place, and not at all for another number
abbrev pub once : ℕ → ℕ
once n = if nat_lt n 256 then 1 else 0

-- so many numbers in their order, from the first one on
abbrev pub counted_from : (first many : ℕ) → List ℕ
counted_from first zero = []
counted_from first (suc many) = first ∷ counted_from (suc first) many

-- before there is a queue, its maker has all places
abbrev pub maker : Keeper
maker = keeper (counted_from 0 256)

-- each place is in the queue or out with one pass, once, and no other number is; so there are 256 in all
pub record EachOnce (items : List ℕ) (views : List Keeper) : Type 0 where
  pub each : (n : ℕ) → times n items + total (λ (v : Keeper). times n v.out) views ≡ once n
  pub all : length items + total (λ (v : Keeper). length v.out) views ≡ 256

abbrev pub took : Keeper → ℕ → Keeper → Type 0
took v place w = IsPlace place × (w ≡ keeper (place ∷ v.out))

abbrev pub gave : Keeper → ℕ → Keeper → Type 0
gave v place w = v.out ≡ place ∷ w.out

-- where the pass has a place out, the queue has room
abbrev pub HasRoom : Keeper → List ℕ → Type 0
HasRoom v items = 0 < length v.out → length items < 256
