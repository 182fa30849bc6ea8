-- What contracts see of the common queue and of its passes.
use Rattle.std.specs.Prelude.{ℕ, ◌+◌, ◌-◌, List, [], ◌++◌}
use Rattle.atomic_table.specs.Seated.{TableId}

-- which queue it is, and its places
pub record CommonView : Type 0 where
  pub id : TableId
  pub places : List ℕ

-- which queue a pass is for, its parts of 65,536, and the numbers that its draws gave, in order
pub record Drawing : Type 0 where
  pub id : TableId
  pub parts : ℕ
  pub drawn : List ℕ

-- the first pass of a queue has all parts
abbrev pub first_drawing : TableId → Drawing
first_drawing id = record { id = id; parts = 65536; drawn = [] }

-- what is left where a second pass was made
abbrev pub apart : Drawing → Drawing
apart pass = record { id = pass.id; parts = pass.parts - 1; drawn = pass.drawn }

-- a pass that took another one back
abbrev pub together : Drawing → Drawing → Drawing
together pass other = record { id = pass.id; parts = pass.parts + other.parts; drawn = pass.drawn ++ other.drawn }
