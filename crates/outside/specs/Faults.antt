-- A count of faults: when it rose, and that a call failed only where it did.
use Rattle.std.specs.Prelude.{ℕ, ◌+◌, ◌-◌, ◌^◌, ◌≤◌, min, Result, OnErr}

-- one more, up to the greatest value of a counter of 64 bits
abbrev pub one_more : ℕ → ℕ
one_more count = min (count + 1) (2 ^ 64 - 1)

-- the count is one more at least, or stands at the counter's greatest value
abbrev pub Rose : ℕ → ℕ → Type 0
Rose before now = one_more before ≤ now

-- a call failed only where the count rose
abbrev pub FailsOnlyWhereRose : {T E : Type 0} → Result T E → ℕ → ℕ → Type 0
FailsOnlyWhereRose result before now = OnErr result (Rose before now)
