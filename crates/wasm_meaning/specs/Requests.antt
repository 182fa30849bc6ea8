-- What a request to a program gives: its verdict, the prices that it pays, and its units. They are this project's own.
use Rattle.std.specs.Prelude.{ℕ, List, sum, Option, Some, None}
use Rattle.wasm_ops.specs.declared.traps.Trap.{Trap as Cause}
use Rattle.wasm_meaning.specs.Pending.{onward}
use Rattle.wasm_meaning.specs.Programs.{Program, instance_of, first}
use Rattle.wasm_meaning.specs.State.{Outcome, Fell, Branched, Returned, Trapped, Exited, Spent, Stuck, Run}

-- a program, the bytes that it may read, and how many units it may cost
pub record Request : Type 0 where
  pub program : Program
  pub body : List ℕ
  pub budget : ℕ

-- what became of it: the bytes that it has written; the same with the code that it ended with; its trap; or its budget was spent
pub data Verdict : Type 0 where
  Replied : (reply : List ℕ) → Verdict
  Exit : (code : ℕ) (reply : List ℕ) → Verdict
  Trap : (why : Cause) → Verdict
  BudgetSpent : Verdict

-- the whole run, which begins with the entries
abbrev pub run_of : Request → Run
run_of request = onward (instance_of request.program) request.budget (first request.program request.body) request.budget

-- none for a run that is stuck, or that branches or returns out of all functions
abbrev pub concluded : Outcome → (reply : List ℕ) → Option Verdict
concluded Fell reply = Some (Replied reply)
concluded (Branched label) reply = None
concluded Returned reply = None
concluded (Trapped why) reply = Some (Trap why)
concluded (Exited code) reply = Some (Exit code reply)
concluded Spent reply = Some BudgetSpent
concluded Stuck reply = None

abbrev pub verdict_of : Run → Option Verdict
verdict_of run = concluded run.outcome run.state.store.streams.reply

abbrev pub verdict : Request → Option Verdict
verdict request = verdict_of (run_of request)

-- what was paid, in order
abbrev pub prices : Request → List ℕ
prices request = (run_of request).prices

abbrev pub units : Request → ℕ
units request = sum (prices request)
