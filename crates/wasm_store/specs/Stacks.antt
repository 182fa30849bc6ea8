-- Stacks as lists, the top item first.
use Rattle.std.specs.Prelude.{ℕ, ◌-◌, Bool, true, false, List, ◌++◌, length, take, drop}

-- how many items a result is
abbrev pub kept : Bool → ℕ
kept true = 1
kept false = 0

-- the lowest items, as many as the height, and the top ones on them
abbrev pub cut : {X : Type 0} → (keep height : ℕ) → List X → List X
cut keep height items = take keep items ++ drop (length items - height) items
