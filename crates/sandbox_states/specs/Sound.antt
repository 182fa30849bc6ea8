-- That a stopped vessel stands for the rest of its request's run.
use Rattle.std.specs.Prelude.{◌≡◌, ℕ, ◌+◌, ◌≤◌, ◌^◌, List, sum}
use Rattle.wasm_meaning.specs.HostCalls.{Streams}
use Rattle.wasm_meaning.specs.Pending.{Pending, onward}
use Rattle.wasm_meaning.specs.Programs.{Program, instance_of}
use Rattle.wasm_meaning.specs.Requests.{run_of}
use Rattle.wasm_meaning.specs.State.{paid}
use Rattle.wasm_store.specs.View.{View}
use Rattle.wasm_states.specs.Holding.{Holds}
use Rattle.sandbox_states.specs.Rests.{ArePaid}
use Rattle.sandbox_states.specs.Views.{request_of}

-- the vessel and the streams have something before them, and the request's run is to pay what was paid and then to run on from there
pub record IsSound (p : Program) (v : View) (streams : Streams) (units left count : ℕ) : Type 0 where
  pub budget : units + left ≤ 2 ^ 40
  pub counted : count ≤ units
  pub pending : Pending
  pub holds : Holds p v pending
  pub streams_are : pending.state.store.streams ≡ streams
  pub before : List ℕ
  pub least : ArePaid before
  pub units_are : sum before ≡ units
  pub run : run_of (request_of p streams (units + left)) ≡ paid before (onward (instance_of p) (units + left) pending left)
