-- The rule of the inbox: what holds of it and of what all passes have pushed and stolen, between any two atomic steps.
use Rattle.std.specs.Prelude.{◌≡◌, ℕ, ◌+◌, List, [], ◌++◌, All}
use Rattle.view_totals.specs.Totals.{total}
use Rattle.place_lists.specs.Places.{IsPlace, times}
use Rattle.place_lists.specs.declared.keepers.Hand.{Hand}

abbrev pub hand : (pushed stolen : List ℕ) → Hand
hand pushed stolen = record { pushed = pushed; stolen = stolen }

-- what a new pass knows
abbrev pub empty_handed : Hand
empty_handed = hand [] []

-- each number in the inbox is a place, and as often as each was pushed by all passes it was stolen or is still there
pub record Handed (items : List ℕ) (views : List Hand) : Type 0 where
  pub places : All IsPlace items
  pub each : (n : ℕ) → total (λ (v : Hand). times n v.pushed) views ≡ total (λ (v : Hand). times n v.stolen) views + times n items

abbrev pub pushed : Hand → List ℕ → Hand → Type 0
pushed v numbers w = w ≡ hand (v.pushed ++ numbers) v.stolen

abbrev pub stole : Hand → List ℕ → Hand → Type 0
stole v numbers w = All IsPlace numbers × (w ≡ hand v.pushed (v.stolen ++ numbers))
