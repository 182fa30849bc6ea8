-- How running on from one pending goes over into running on from another.
use Rattle.std.specs.Prelude.{◌≡◌, ◌≢◌, ℕ, zero, suc, ◌+◌, ◌≤◌, List, [], ◌∷◌}
use Rattle.wasm_meaning.specs.HostCalls.{Streams}
use Rattle.wasm_meaning.specs.Pending.{Pending, onward}
use Rattle.wasm_meaning.specs.Programs.{Program, instance_of}
use Rattle.wasm_meaning.specs.State.{Outcome, Spent, Run, paid}
use Rattle.wasm_store.specs.View.{View}
use Rattle.wasm_states.specs.Holding.{Holds}

-- a price as an item of what was paid; nothing is no item
abbrev pub item : ℕ → List ℕ
item zero = []
item (suc n) = suc n ∷ []

-- whatever is left, running on pays the price and runs on from the other, with the same streams
pub record RunsOn (p : Program) (w : Pending) (price : ℕ) (w' : Pending) : Type 0 where
  pub streams : w'.state.store.streams ≡ w.state.store.streams
  pub same
      : (bound left : ℕ) → price + left ≤ bound
      → onward (instance_of p) bound w (price + left) ≡ paid (item price) (onward (instance_of p) bound w' left)

-- the run is over, with these prices and so much left
pub record IsOver (run : Run) (outcome : Outcome) (prices : List ℕ) (left : ℕ) (streams : Streams) : Type 0 where
  pub outcome_is : run.outcome ≡ outcome
  pub prices_are : run.prices ≡ prices
  pub left_is : run.left ≡ left
  pub streams_are : run.state.store.streams ≡ streams

-- whatever is left, running on pays the price and is over
pub record RunsOut (p : Program) (w : Pending) (price : ℕ) (outcome : Outcome) : Type 0 where
  pub over
      : (bound left : ℕ) → price + left ≤ bound
      → IsOver (onward (instance_of p) bound w (price + left)) outcome (item price) left w.state.store.streams

-- what a vessel that has this before it becomes
pub record Reaches (p : Program) (w : Pending) (price : ℕ) (v' : View) : Type 0 where
  pub pending : Pending
  pub holds : Holds p v' pending
  pub runs : RunsOn p w price pending

-- the one vessel goes over into the other: whatever the first one has before it, after the price the other has the rest of it
pub record Moves (p : Program) (v v' : View) (price : ℕ) : Type 0 where
  pub moves : (w : Pending) → Holds p v w → Reaches p w price v'

-- whatever the vessel has before it is over after the price
pub record Stops (p : Program) (v : View) (price : ℕ) (outcome : Outcome) : Type 0 where
  pub stops : (w : Pending) → Holds p v w → RunsOut p w price outcome

-- whatever is left, the next operator is paid, or there is not enough for it
pub record Pays (p : Program) (w : Pending) : Type 0 where
  pub pays : (bound left : ℕ) → (onward (instance_of p) bound w left).prices ≢ []

-- with so much left, the next operator is not paid
pub record Lacks (p : Program) (w : Pending) (left : ℕ) : Type 0 where
  pub lacks : (bound : ℕ) → IsOver (onward (instance_of p) bound w left) Spent (0 ∷ []) left w.state.store.streams
