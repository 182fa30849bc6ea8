-- A spawner that fails at the calls that it was told.
use Rattle.std.specs.Prelude.{ℕ, ◌+◌, ◌-◌, ◌^◌, ◌==◌, min, Bool, cond, List}
use Rattle.std.specs.List.{list_any}
use Rattle.outside_links.specs.Faults.{one_more}

-- as contracts see it: the spawner behind it, the calls that fail, how many were made, and how
-- many of its own have failed
pub record Failing (P : Type 0) : Type 0 where
  pub inner : P
  pub failing : List ℕ
  pub calls : ℕ
  pub faults : ℕ

-- the faults of both
abbrev pub both_faults : {P : Type 0} → (P → ℕ) → Failing P → ℕ
both_faults count s = min (s.faults + count s.inner) (2 ^ 64 - 1)

-- the next call is one of those that fail
abbrev pub start_fails : {P : Type 0} → Failing P → Bool
start_fails s = list_any (λ number. number == s.calls) s.failing

-- what is left of a call, but for the spawner behind: one that was told to fail was counted
abbrev pub after_start : {P : Type 0} → Failing P → P → Failing P
after_start s inner = record {
  inner = inner;
  failing = s.failing;
  calls = one_more s.calls;
  faults = cond (start_fails s) (one_more s.faults) s.faults;
}
