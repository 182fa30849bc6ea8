-- Standing for a request in full: what is pending in a sandbox, and how it runs onward.
use Rattle.std.specs.Prelude.{◌≡◌, ℕ, ◌+◌, List, ◌++◌, sum}
use Rattle.wasm_meaning.specs.Pending.{Pending, onward}
use Rattle.wasm_meaning.specs.Programs.{instance_of}
use Rattle.wasm_meaning.specs.Requests.{Request, verdict_of, verdict, prices}
use Rattle.wasm_meaning.specs.State.{Run}
use Rattle.wasm_states.specs.Holding.{Holds}
use Rattle.sandbox_states.specs.Views.{SandboxView, remaining}

-- this is pending in its vessel, and goes on with its streams
pub record HasPending (s : SandboxView) (w : Pending) : Type 0 where
  pub holds : Holds s.request.program s.vessel w
  pub streams_are : w.state.store.streams ≡ s.streams

-- the onward run of what is pending, out of the units that are left
abbrev pub onward_run : SandboxView → Pending → Run
onward_run s w = onward (instance_of s.request.program) (s.units + s.left) w s.left

-- its program, its body and its budget are the request's; and the onward run of what is pending in it gives the request's verdict,
-- and just those prices of the request that are still to be paid
pub record RunsFor (request : Request) (s : SandboxView) : Type 0 where
  pub same_program : s.request.program ≡ request.program
  pub same_body : s.streams.body ≡ request.body
  pub same_budget : s.units + s.left ≡ request.budget
  pub pending : Pending
  pub has : HasPending s pending
  pub same_verdict : verdict_of (onward_run s pending) ≡ verdict request
  pub remaining_are : remaining s ≡ (onward_run s pending).prices
  pub before : List ℕ
  pub paid : sum before ≡ s.units
  pub same_prices : prices request ≡ before ++ (onward_run s pending).prices
