-- What contracts see of a request on its way from its admission to its answer.
use Rattle.std.specs.Prelude.{ℕ, ◌+◌, List}
use Rattle.wasm_meaning.specs.HostCalls.{Streams}
use Rattle.wasm_meaning.specs.Programs.{Program, unused}
use Rattle.wasm_meaning.specs.Requests.{Request, Verdict, Replied, Exit, Trap, BudgetSpent, prices}
use Rattle.wasm_store.specs.View.{View}
use Rattle.wasm_states.specs.Holding.{fresh_view}
use Rattle.sandbox_states.specs.Rests.{prices_after}
use Rattle.sandbox_states.specs.declared.verdicts.Verdict.{Verdict as Given}
use Rattle.sandbox_states.specs.declared.verdicts.Verdict.TheVariants as given

-- a verdict as the meaning has it
abbrev pub told : Given → Verdict
told (given.Replied reply) = Replied reply
told (given.Exit code reply) = Exit code reply
told (given.Trap trap) = Trap trap
told given.Spent = BudgetSpent

-- a request that was admitted and waits, with its place in its batch and its deadline
pub record AdmittedView : Type 0 where
  pub place : ℕ
  pub deadline : ℕ
  pub request : Request

-- a request that has begun: the pages of its vessel, the units that it has paid so far, and its turns so far;
-- then what it goes on with: the units that it may still pay, its vessel and its streams
pub record SandboxView : Type 0 where
  pub place : ℕ
  pub deadline : ℕ
  pub pages : ℕ
  pub request : Request
  pub units : ℕ
  pub turns : ℕ
  pub left : ℕ
  pub vessel : View
  pub streams : Streams

-- a request that is over, whose vessel is not yet rinsed
pub record FinishedView : Type 0 where
  pub place : ℕ
  pub pages : ℕ
  pub verdict : Verdict
  pub units : ℕ
  pub turns : ℕ

pub record AnswerView : Type 0 where
  pub place : ℕ
  pub verdict : Verdict
  pub units : ℕ
  pub turns : ℕ

-- the prices that are still to be paid
abbrev pub remaining : SandboxView → List ℕ
remaining s = prices_after s.units (prices s.request)

abbrev pub request_of : Program → Streams → (budget : ℕ) → Request
request_of p streams budget = record { program = p; body = streams.body; budget = budget }

-- a sandbox by its parts: its request is its program, its body, and what it has paid and has left
abbrev pub stopped : (place deadline : ℕ) → Program → View → Streams → (units left turns : ℕ) → SandboxView
stopped place deadline p v streams units left turns = record {
  place = place;
  deadline = deadline;
  pages = v.pages;
  request = request_of p streams (units + left);
  units = units;
  turns = turns;
  left = left;
  vessel = v;
  streams = streams;
}

-- where a job begins on a berth: at the beginning of its program, with nothing paid, read or written
abbrev pub started : AdmittedView → (berth : View) → SandboxView
started job berth = record {
  place = job.place;
  deadline = job.deadline;
  pages = berth.pages;
  request = job.request;
  units = 0;
  turns = 0;
  left = job.request.budget;
  vessel = fresh_view job.request.program berth.pages;
  streams = unused job.request.body;
}

abbrev pub answer_of : FinishedView → AnswerView
answer_of f = record { place = f.place; verdict = f.verdict; units = f.units; turns = f.turns }
