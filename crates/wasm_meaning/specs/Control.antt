-- Control operators that hold no sequence (WebAssembly Core 1.0, section 4.4.5); which function a call means, and its arguments (sections 4.4.7 and 4.2.5).
use Rattle.std.specs.Prelude.{ℕ, ◌+◌, ◌-◌, ◌==◌, nat_lt, Bool, true, false, ◌&&◌, if◌then◌else◌, List, [], ◌∷◌, length, reverse, Option, Some, None, slice_get}
use Rattle.wasm_ops.specs.declared.host_calls.HostName.{HostName}
use Rattle.wasm_ops.specs.declared.traps.Trap.TheVariants.{UndefinedElement, UninitializedElement, TypeMismatch}
use Rattle.wasm_ops.specs.declared.types.FuncType.{FuncType}
use Rattle.wasm_ops.specs.declared.types.ValType.{ValType}
use Rattle.wasm_meaning.specs.Effects.{Effect, Goes, Branches, Calls, Asks, Traps, Breaks, Taken, take_i32}
use Rattle.wasm_meaning.specs.HostCalls.{host_type, host_effect}
use Rattle.wasm_meaning.specs.State.{Function, Instance, State, with_operands}
use Rattle.wasm_meaning.specs.TypingOperands.{same_type, same_result}
use Rattle.wasm_meaning.specs.Values.{Value, has_type, numbers}

-- Branches.

-- br_if: to the label where the number is not 0
abbrev pub branch_if_of : (is_zero : Bool) → (label : ℕ) → State → Effect
branch_if_of true label st = Goes st
branch_if_of false label st = Branches label st

abbrev pub branch_if_on : (label : ℕ) → Option Taken → State → Effect
branch_if_on label None st = Breaks
branch_if_on label (Some taken) st = branch_if_of (taken.number == 0) label (with_operands st taken.under)

abbrev pub branch_if : (label : ℕ) → State → Effect
branch_if label st = branch_if_on label (take_i32 st.operands) st

-- br_table: to the label with this number, or to the default, which stands behind all others
abbrev pub branch_to : Option ℕ → State → Effect
branch_to None st = Breaks
branch_to (Some label) st = Branches label st

abbrev pub entry : (count number : ℕ) → ℕ
entry count number = if nat_lt number count then number else count

abbrev pub branch_table_on : (from count : ℕ) → Option Taken → State → Effect
branch_table_on from count None st = Breaks
branch_table_on from count (Some taken) st =
    branch_to (slice_get st.frame.targets (from + entry count taken.number)) (with_operands st taken.under)

abbrev pub branch_table : (from count : ℕ) → State → Effect
branch_table from count st = branch_table_on from count (take_i32 st.operands) st

-- Functions.

-- a function: one of the host's, or one that the module defines
pub data Callee : Type 0 where
  Host : (name : HostName) → Callee
  Defined : (function : Function) → Callee

abbrev pub defined_callee : Option Function → Option Callee
defined_callee None = None
defined_callee (Some function) = Some (Defined function)

abbrev pub imported_or : Option HostName → Instance → (index : ℕ) → Option Callee
imported_or (Some name) inst index = Some (Host name)
imported_or None inst index = defined_callee (slice_get inst.defined (index - length inst.hosts))

-- the function with this index: the imported ones come first
abbrev pub callee_at : Instance → (index : ℕ) → Option Callee
callee_at inst index = imported_or (slice_get inst.hosts index) inst index

abbrev pub type_of_callee : Callee → FuncType
type_of_callee (Host name) = host_type name
type_of_callee (Defined function) = record { params = function.params; result = function.result }

-- Arguments.

-- the arguments, the first one first, and the operands under them
pub record Arguments : Type 0 where
  pub arguments : List Value
  pub under : List Value

abbrev pub with_argument : Option Arguments → Value → Option Arguments
with_argument None value = None
with_argument (Some taken) value = Some (record taken { arguments = value ∷ taken.arguments })

-- values of these types, the last parameter's first, in front of those that are taken already
abbrev pub take_values : (params : List ValType) → (operands arguments : List Value) → Option Arguments
take_values [] operands arguments = Some (record { arguments = arguments; under = operands })
take_values (t ∷ params) [] arguments = None
take_values (t ∷ params) (value ∷ operands) arguments =
    if has_type t value then take_values params operands (value ∷ arguments) else None

abbrev pub take_arguments : (params : List ValType) → (operands : List Value) → Option Arguments
take_arguments params operands = take_values (reverse params) operands []

-- Calls.

-- a call of the host's acts at once
abbrev pub asks : HostName → Option Arguments → State → Effect
asks name None st = Breaks
asks name (Some taken) st =
    Asks (host_effect name (numbers taken.arguments) st.store.memory st.store.streams) (with_operands st taken.under)

abbrev pub calls : Option Callee → State → Effect
calls None st = Breaks
calls (Some (Host name)) st = asks name (take_arguments (host_type name).params st.operands) st
calls (Some (Defined function)) st = Calls function st

-- call
abbrev pub call_effect : Instance → (index : ℕ) → State → Effect
call_effect inst index st = calls (callee_at inst index) st

abbrev pub same_types : List ValType → List ValType → Bool
same_types [] [] = true
same_types (t ∷ ts) (u ∷ us) = same_type t u && same_types ts us
same_types [] (u ∷ us) = false
same_types (t ∷ ts) [] = false

-- the types are equal in parameters and result
abbrev pub same_function_type : FuncType → FuncType → Bool
same_function_type t u = same_types t.params u.params && same_result t.result u.result

abbrev pub calls_if : (same : Bool) → Callee → State → Effect
calls_if false callee st = Traps TypeMismatch
calls_if true callee st = calls (Some callee) st

abbrev pub calls_as : Option FuncType → Callee → State → Effect
calls_as None callee st = Breaks
calls_as (Some wanted) callee st = calls_if (same_function_type wanted (type_of_callee callee)) callee st

abbrev pub calls_found : Option FuncType → Option Callee → State → Effect
calls_found wanted None st = Breaks
calls_found wanted (Some callee) st = calls_as wanted callee st

-- what stands in the table: nothing past its end, no function, or the index of one
abbrev pub calls_element : Instance → (type : ℕ) → Option (Option ℕ) → State → Effect
calls_element inst type None st = Traps UndefinedElement
calls_element inst type (Some None) st = Traps UninitializedElement
calls_element inst type (Some (Some index)) st = calls_found (slice_get inst.types type) (callee_at inst index) st

-- call_indirect
abbrev pub call_indirect_on : Instance → (type : ℕ) → Option Taken → State → Effect
call_indirect_on inst type None st = Breaks
call_indirect_on inst type (Some taken) st =
    calls_element inst type (slice_get st.store.table taken.number) (with_operands st taken.under)

abbrev pub call_indirect_effect : Instance → (type : ℕ) → State → Effect
call_indirect_effect inst type st = call_indirect_on inst type (take_i32 st.operands) st
