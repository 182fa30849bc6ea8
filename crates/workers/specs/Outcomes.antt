-- What a reply reports of a verdict, and how long that is at most.
use Rattle.std.specs.Prelude.{ℕ, ◌≤◌, ◌<◌, ◌^◌, ◌==◌, Bool, true, false, List, length, Option, None, Some}
use Rattle.http_front.specs.Reported.{Reported, Replied, Exited, Trapped, OutOfBudget, RefusedAs}
use Rattle.wasm_meaning.specs.Requests as requests
use Rattle.wasm_meaning.specs.Requests.{Verdict}
use Rattle.wasm_ops.specs.Traps.{trap_text}

-- a function that ends itself with code 0 has replied
abbrev pub reported_exit : (is_zero : Bool) → (code : ℕ) → (reply : List ℕ) → Reported
reported_exit true code reply = Replied reply
reported_exit false code reply = Exited code

abbrev pub reported_verdict : Verdict → Reported
reported_verdict (requests.Replied reply) = Replied reply
reported_verdict (requests.Exit code reply) = reported_exit (code == 0) code reply
reported_verdict (requests.Trap why) = Trapped (trap_text why)
reported_verdict requests.BudgetSpent = OutOfBudget

-- each request to a program has a verdict; one that had none would be told as if its budget were spent
abbrev pub reported_of : Option Verdict → Reported
reported_of (Some found) = reported_verdict found
reported_of None = OutOfBudget

-- a function writes at most 65,536 bytes, and all else that a reply reports is short
abbrev pub IsShort : Reported → Type 0
IsShort (Replied bytes) = length bytes ≤ 65536
IsShort (Exited code) = code < 2 ^ 32
IsShort (Trapped cause) = length cause ≤ 64
IsShort OutOfBudget = Unit {0}
IsShort (RefusedAs refusal) = Unit {0}
