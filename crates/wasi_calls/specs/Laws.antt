-- What a call of the host is to the program that makes it: one operator.
use Rattle.std.specs.Prelude.{◌≡◌, ℕ, ◌+◌, ◌<◌, ◌≤◌, ◌^◌, [], ◌∷◌}
use Rattle.wasm_meaning.specs.HostCalls.{Streams}
use Rattle.wasm_meaning.specs.Pending.{Pending, onward}
use Rattle.wasm_meaning.specs.Programs.{Program, instance_of}
use Rattle.wasm_meaning.specs.State.{Spent, Exited, paid}
use Rattle.wasm_store.specs.View.{View}
use Rattle.wasm_states.specs.Holding.{Holds, IsState, free_moves}
use Rattle.wasm_states.specs.Steps.{IsOver, item}
use Rattle.wasi_calls.specs.declared.calls.HostStep.{HostStep}
use Rattle.wasi_calls.specs.declared.calls.HostStep.TheVariants.{Went, Exited, Short}

-- the vessel and the streams after it have the rest of what was pending before them
pub record GoesOn (p : Program) (w : Pending) (left : ℕ) (v' : View) (s' : Streams) (price : ℕ) : Type 0 where
  pub pending : Pending
  pub holds : Holds p v' pending
  pub streams_are : pending.state.store.streams ≡ s'
  pub same
      : (bound rest : ℕ) → price + rest ≤ bound
      → onward (instance_of p) bound w (price + rest) ≡ paid (item price) (onward (instance_of p) bound pending rest)
  pub state : IsState p v'
  pub few : free_moves v' < 2 ^ 32
  pub least : 1 ≤ price
  pub within : price ≤ left

-- the run is over, with the code
pub record IsExit (p : Program) (w : Pending) (left : ℕ) (s' : Streams) (code price : ℕ) : Type 0 where
  pub over : (bound rest : ℕ) → price + rest ≤ bound → IsOver (onward (instance_of p) bound w (price + rest)) (Exited code) (item price) rest s'
  pub least : 1 ≤ price
  pub within : price ≤ left

-- what is left is not enough, so that the run is spent and the vessel has the same before it
pub record IsShort (p : Program) (w : Pending) (left : ℕ) (v' : View) (s' : Streams) : Type 0 where
  pub over : (bound : ℕ) → IsOver (onward (instance_of p) bound w left) Spent (0 ∷ []) left s'
  pub holds : Holds p v' w
  pub streams_are : w.state.store.streams ≡ s'

-- by the answer
abbrev pub RunsAs : (p : Program) (w : Pending) (left : ℕ) (v' : View) (s' : Streams) → HostStep → Type 0
RunsAs p w left v' s' (Went price) = GoesOn p w left v' s' price
RunsAs p w left v' s' (Exited code price) = IsExit p w left s' code price
RunsAs p w left v' s' Short = IsShort p w left v' s'
