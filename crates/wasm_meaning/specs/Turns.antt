-- Turns: a list of prices cut into groups, each of which a worker runs at one time. They are this project's own.
use Rattle.std.specs.Prelude.{ℕ, ◌≡◌, ◌<◌, ◌≤◌, ◌+◌, ◌⊎◌, nat_lt, if◌then◌else◌, List, [], ◌∷◌, ◌++◌, length, sum, flat_map, max}

-- a price in front of the first group
abbrev pub joins : ℕ → List (List ℕ) → List (List ℕ)
joins price [] = (price ∷ []) ∷ []
joins price (group ∷ groups) = (price ∷ group) ∷ groups

-- the groups, where the one at hand has already so much
abbrev pub groups_after : (quantum got : ℕ) → (prices : List ℕ) → List (List ℕ)
groups_after quantum got [] = []
groups_after quantum got (price ∷ prices) =
    if nat_lt (got + price) quantum then joins price (groups_after quantum (got + price) prices)
    else (price ∷ []) ∷ groups_after quantum 0 prices

-- cut from the left, each group is the shortest whose sum reaches the quantum, and the last is what remains
abbrev pub groups : (prices : List ℕ) (quantum : ℕ) → List (List ℕ)
groups prices quantum = groups_after quantum 0 prices

-- how many groups there are, and at least one
abbrev pub turns : (prices : List ℕ) (quantum : ℕ) → ℕ
turns prices quantum = max 1 (length (groups prices quantum))

-- the group's sum reaches the quantum, and no shorter front of it does
pub record IsShortest (quantum : ℕ) (group : List ℕ) : Type 0 where
  pub front : List ℕ
  pub last : ℕ
  pub is : group ≡ front ++ last ∷ []
  pub below : sum front < quantum
  pub reaches : quantum ≤ sum front + last

-- the last group, which need not reach it
abbrev pub IsLast : (quantum : ℕ) → (group : List ℕ) → Type 0
IsLast quantum group = (sum group < quantum) ⊎ IsShortest quantum group

abbrev pub AreShortest : (quantum : ℕ) → List (List ℕ) → Type 0
AreShortest quantum [] = Unit {0}
AreShortest quantum (group ∷ []) = IsLast quantum group
AreShortest quantum (group ∷ next ∷ groups) = IsShortest quantum group × AreShortest quantum (next ∷ groups)

-- the prices of all groups, in order
abbrev pub joined : List (List ℕ) → List ℕ
joined groups = flat_map (λ (group : List ℕ). group) groups
