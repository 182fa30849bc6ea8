-- A leaky bucket: what a meter holds.
use Rattle.std.specs.Prelude.{ℕ}

-- capacity and level in units, the rate in units per millisecond, the last moment in milliseconds
pub record Bucket : Type 0 where
  pub capacity : ℕ
  pub rate : ℕ
  pub level : ℕ
  pub last : ℕ
