-- What each operator does to a vessel.
use Rattle.std.specs.Prelude.{◌≡◌, ◌-◌, ◌≤◌, Some}
use Rattle.wasm_ops.specs.declared.operators.Op.{Op}
use Rattle.wasm_meaning.specs.Programs.{Program}
use Rattle.wasm_meaning.specs.State.{Trapped}
use Rattle.wasm_store.specs.View.{View}
use Rattle.wasm_states.specs.Codes.{op_at}
use Rattle.wasm_states.specs.Holding.{IsState}
use Rattle.wasm_states.specs.Steps.{Moves, Stops}
use Rattle.wasm_step.specs.declared.answers.Step.{Step}
use Rattle.wasm_step.specs.declared.answers.Step.TheVariants as step

-- An operator runs once the code stands behind it.

-- the vessel before its code went past the operator
abbrev pub before : View → View
before v = record v { place = v.place - 1 }

-- the vessel is a state of the program, but for the place of its code, which has gone past this operator
pub record IsAt (p : Program) (v : View) (o : Op) : Type 0 where
  pub passed : 1 ≤ v.place
  pub here : op_at p (before v) ≡ Some o
  pub state : IsState p (before v)

-- what an operator that costs one unit does, by its answer
abbrev pub Acts : Program → (v v' : View) → Step → Type 0
Acts p v v' (step.Went price) = (price ≡ 1) × Moves p v v' price
Acts p v v' (step.Trapped trap price) = (price ≡ 1) × Stops p v price (Trapped trap)
Acts p v v' answer = ⊥
