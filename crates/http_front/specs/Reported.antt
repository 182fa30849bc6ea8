-- What became of a request, as a value of its own: the outcome with the bytes that it refers to.
use Rattle.std.specs.Prelude.{◌≢◌, ℕ, ◌≤◌, List}
use Rattle.http_items.specs.Refusals.{refusal_numbered}
use Rattle.http_items.specs.declared.refusals.Refusal.{Refusal}
use Rattle.http_front.specs.declared.reply.Outcome.{Outcome}
use Rattle.http_front.specs.declared.reply.Outcome.TheVariants.{Bytes, Exit, Trap, Spent, Refused}

-- what a reply can report
pub data Reported : Type 0 where
  Replied : (bytes : List ℕ) → Reported
  Exited : (code : ℕ) → Reported
  Trapped : (cause : List ℕ) → Reported
  OutOfBudget : Reported
  RefusedAs : (refusal : Refusal) → Reported

-- what an outcome reports
abbrev pub reported : Outcome → Reported
reported (Bytes bytes) = Replied bytes.now
reported (Exit code) = Exited code
reported (Trap cause) = Trapped cause.now
reported Spent = OutOfBudget
reported (Refused number) = RefusedAs (refusal_numbered number)

-- an exit code is told where it is not 0, which stands for a reply; a number of a refusal is from 1 to 10
abbrev pub IsOutcome : Outcome → Type 0
IsOutcome (Bytes _) = Unit {0}
IsOutcome (Exit code) = code ≢ 0
IsOutcome (Trap _) = Unit {0}
IsOutcome Spent = Unit {0}
IsOutcome (Refused number) = (1 ≤ number) × (number ≤ 10)
