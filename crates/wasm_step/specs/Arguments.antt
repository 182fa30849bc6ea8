-- What a call finds on top of the cells, and what it makes of a vessel.
use Rattle.std.specs.Prelude.{◌≡◌, ℕ, ◌+◌, ◌-◌, ◌<◌, ◌≤◌, ◌^◌, Bool, true, false, List, length, take, drop, reverse, Some, slice_get}
use Rattle.wasm_ops.specs.declared.host_calls.HostName.{HostName}
use Rattle.wasm_ops.specs.declared.traps.Trap.TheVariants.{StackExhausted}
use Rattle.wasm_meaning.specs.Bytes.{zeros}
use Rattle.wasm_meaning.specs.HostCalls.{host_type}
use Rattle.wasm_store.specs.View.{View}
use Rattle.wasm_instance.specs.declared.callees.Shape.{Shape}
use Rattle.wasm_states.specs.Calling.{has_room_for, call_view}
use Rattle.wasm_states.specs.HostCalls.{places_of}
use Rattle.wasm_step.specs.declared.answers.Step.{Step}
use Rattle.wasm_step.specs.declared.answers.Step.TheVariants as step
use Rattle.wasm_step.specs.Arms.{before}

-- how many arguments a function of the host takes
abbrev pub count_of : HostName → ℕ
count_of name = length (host_type name).params

-- the arguments lie under so many cells, and each is an i32
pub record ArgumentsThere (name : HostName) (under : ℕ) (cells : List ℕ) : Type 0 where
  pub enough : under + count_of name ≤ length cells
  pub small : (k number : ℕ) → k < count_of name → slice_get cells (under + k) ≡ Some number → number < 2 ^ 32

-- these are the arguments, the first one first, and 0 for those that it has not
pub record AreArguments (name : HostName) (under : ℕ) (cells args : List ℕ) : Type 0 where
  pub four : length args ≡ 4
  pub are : take (count_of name) (drop under cells) ≡ reverse (take (count_of name) args)
  pub others : drop (count_of name) args ≡ zeros (4 - count_of name)

-- a body is entered where there is room for it, and else the call traps
abbrev pub Enters : (v : View) → (body : ℕ) → Shape → (v' : View) → Step → Type 0
Enters v body shape v' (step.Went price) =
    (price ≡ 1) × (has_room_for shape.cells v ≡ true) × (v' ≡ call_view body shape.params shape.locals shape.cells v)
Enters v body shape v' (step.Trapped trap price) = (price ≡ 1) × (trap ≡ StackExhausted) × (has_room_for shape.cells v ≡ false)
Enters v body shape v' answer = ⊥

-- the host is asked, from before the operator
abbrev pub Asks : (v : View) → HostName → (indirect : Bool) → (v' : View) → Step → Type 0
Asks v name indirect v' (step.Host call) =
    (v' ≡ before v) × (call.name ≡ name) × (call.indirect ≡ indirect) × AreArguments name (places_of indirect) v.cells call.args
Asks v name indirect v' answer = ⊥
