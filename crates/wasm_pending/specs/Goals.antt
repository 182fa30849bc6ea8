-- What the laws promise of each step.
use Rattle.std.specs.Prelude.{◌≡◌, ◌⊎◌, ℕ, List, Option, Some}
use Rattle.wasm_ops.specs.Sequence.{Sequence}
use Rattle.wasm_ops.specs.Values.{IsOfType}
use Rattle.wasm_ops.specs.declared.types.ValType.TheVariants.{I32}
use Rattle.wasm_meaning.specs.Control.{Arguments, take_arguments}
use Rattle.wasm_meaning.specs.Effects.{Taken, take_i32}
use Rattle.wasm_meaning.specs.Pending.{Around, Pending}
use Rattle.wasm_meaning.specs.Programs.{Program}
use Rattle.wasm_meaning.specs.State.{Function, State}
use Rattle.wasm_pending.specs.Frames.{caller_in}
use Rattle.wasm_pending.specs.Steps.{in_call}
use Rattle.wasm_pending.specs.Typed.{Typed, Idle}

-- something is pending, in the same function
pub record Lands (program : Program) (function : ℕ) (next : Option Pending) : Type 0 where
  pub pending : Pending
  pub is : next ≡ Some pending
  pub typed : Typed program function pending

-- a call ends, and its caller goes on, or nothing but entries is left
pub record ComesBack (program : Program) (around : List Around) (next : Option Pending) : Type 0 where
  pub pending : Pending
  pub is : next ≡ Some pending
  pub goes : Typed program (caller_in around) pending ⊎ Idle program pending

-- a function of this number is called: its arguments are there, and it is typed where it begins
pub record Enters (program : Program) (caller callee : ℕ) (f : Function) (rest : Sequence) (around : List Around) (st : State) : Type 0 where
  pub taken : Arguments
  pub takes : take_arguments f.params st.operands ≡ Some taken
  pub typed : Typed program callee (in_call f caller taken rest around st)

-- an i32 is there, and both ways are typed that an `if` may go with what is under it
pub record Chooses (program : Program) (function : ℕ) (then_way else_way : (under : State) → Pending) (without : Taken → State) (st : State) : Type 0 where
  pub taken : Taken
  pub takes : take_i32 st.operands ≡ Some taken
  pub small : IsOfType I32 taken.number
  pub then_typed : Typed program function (then_way (without taken))
  pub else_typed : Typed program function (else_way (without taken))
