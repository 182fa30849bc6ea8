-- What a program keeps of its functions for their calls.
use Rattle.std.specs.Prelude.{ℕ, ◌-◌, Bool, false, length, Option, Some, None, option_map, is_some, slice_get}
use Rattle.wasm_ops.specs.declared.types.FuncType.{FuncType}
use Rattle.wasm_meaning.specs.Control as meaning
use Rattle.wasm_meaning.specs.Execution.{cells_of}
use Rattle.wasm_meaning.specs.Programs.{Program, hosts, instance_of}
use Rattle.wasm_meaning.specs.State.{Function}
use Rattle.wasm_instance.specs.declared.callees.Shape.{Shape}
use Rattle.wasm_instance.specs.declared.callees.Callee.{Callee}
use Rattle.wasm_instance.specs.declared.callees.Callee.TheVariants as kept

-- the room that a call of a function takes
abbrev pub shape_of : Function → Shape
shape_of f = record { cells = cells_of f; params = length f.params; locals = length f.locals; result = is_some f.result }

-- a function of the host, or one that the module defines, with the number of its body
abbrev pub callee_of : (body : ℕ) → meaning.Callee → Callee
callee_of body (meaning.Host name) = kept.Host name
callee_of body (meaning.Defined function) = kept.Defined body (shape_of function)

-- the function with this index, where the imported ones come first
abbrev pub called : Program → (index : ℕ) → Option Callee
called program index = option_map (callee_of (index - length (hosts program.linked))) (meaning.callee_at (instance_of program) index)

abbrev pub same_as : Option FuncType → Option meaning.Callee → Bool
same_as None callee = false
same_as (Some wanted) None = false
same_as (Some wanted) (Some callee) = meaning.same_function_type wanted (meaning.type_of_callee callee)

-- the function with this index has the type with this index
abbrev pub is_of_type : Program → (index type : ℕ) → Bool
is_of_type program index type = same_as (slice_get program.linked.types type) (meaning.callee_at (instance_of program) index)
