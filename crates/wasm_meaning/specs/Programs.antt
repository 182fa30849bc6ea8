-- What a module becomes when it is instantiated: a program, its instance, and the fresh state (WebAssembly Core 1.0, sections 4.5.3 and 4.5.4).
use Rattle.std.specs.Prelude.{◌≡◌, ℕ, ◌+◌, ◌-◌, ◌*◌, nat_lt, min, List, [], ◌∷◌, ◌++◌, length, map, take, drop, replicate, filter_map, slice_get, if◌then◌else◌, Option, Some, None, option_map, option_and_then, option_to_list, Result, Ok, Err}
use Rattle.wasm_ops.specs.declared.host_calls.HostName.{HostName}
use Rattle.wasm_ops.specs.declared.modules.Body.{Body}
use Rattle.wasm_ops.specs.declared.modules.ByteSegment.{ByteSegment}
use Rattle.wasm_ops.specs.declared.modules.ElementSegment.{ElementSegment}
use Rattle.wasm_ops.specs.declared.modules.Export.{Export}
use Rattle.wasm_ops.specs.declared.modules.GlobalDef.{GlobalDef}
use Rattle.wasm_ops.specs.declared.modules.Import.{Import}
use Rattle.wasm_ops.specs.declared.modules.Module.{Module}
use Rattle.wasm_ops.specs.declared.types.FuncType.{FuncType}
use Rattle.wasm_ops.specs.declared.types.Limits.{Limits}
use Rattle.wasm_ops.specs.Limits.{imported_functions}
use Rattle.wasm_ops.specs.Sequence.{Done}
use Rattle.wasm_ops.specs.WellFormed.{IsWellFormed}
use Rattle.wasm_meaning.specs.declared.links.Unlinked.{Unlinked}
use Rattle.wasm_meaning.specs.Bytes.{page, zeros, with_bytes}
use Rattle.wasm_meaning.specs.HostCalls.{Streams}
use Rattle.wasm_meaning.specs.Linking.{host_in, export_named, entry_name, first_pages, first_elements, link_refusal}
use Rattle.wasm_meaning.specs.Pending.{Pending, entering}
use Rattle.wasm_meaning.specs.State.{Function, Instance, Store, State}
use Rattle.wasm_meaning.specs.Typing.{nested_body, height_of, nest_of}
use Rattle.wasm_meaning.specs.Validity.{module_walk}
use Rattle.wasm_meaning.specs.Values.{Value, value_of}

-- a program: the module that was linked, and the pages that it was given
pub record Program : Type 0 where
  pub linked : Module
  pub pages : ℕ

abbrev pub linked_or : Program → Option Unlinked → Result Program Unlinked
linked_or program None = Ok program
linked_or program (Some why) = Err why

-- the program of a valid module, or the first refusal
abbrev pub link : Module → (pages : ℕ) → Result Program Unlinked
link m pages = linked_or (record { linked = m; pages = pages }) (link_refusal m pages)

-- a program that was made so: its module was read, is valid, and is linked
pub record IsProgram (program : Program) : Type 0 where
  pub formed : IsWellFormed program.linked
  pub valid : module_walk program.linked ≡ Ok tt
  pub links : link_refusal program.linked program.pages ≡ None

-- The instance.

-- the function that a body and its type make
abbrev pub function_of : Module → FuncType → Body → Function
function_of m type body = record {
  params = type.params;
  locals = body.locals;
  result = type.result;
  height = height_of m type body;
  nest = nest_of body;
  targets = body.targets;
  body = nested_body body.ops;
}

-- a type that a valid module does not miss
abbrev pub or_bare : Option FuncType → FuncType
or_bare None = record { params = []; result = None }
or_bare (Some type) = type

abbrev pub defined_from : Module → (types : List ℕ) → List Body → List Function
defined_from m [] bodies = []
defined_from m (type ∷ types) [] = []
defined_from m (type ∷ types) (body ∷ bodies) = function_of m (or_bare (slice_get m.types type)) body ∷ defined_from m types bodies

-- the functions that the module defines, by the numbers of their bodies
unfoldable pub defined : Module → List Function
defined m = defined_from m m.functions m.bodies

-- the imported functions
abbrev pub hosts : Module → List HostName
hosts m = filter_map (λ (import : Import). host_in import.«module» import.name) m.imports

-- the greatest size of the first memory, if it is limited
abbrev pub limited_to : (pages : ℕ) → Option ℕ → ℕ
limited_to pages None = pages
limited_to pages (Some most) = min pages most

abbrev pub greatest : (pages : ℕ) → List Limits → ℕ
greatest pages [] = 0
greatest pages (limits ∷ others) = limited_to pages limits.most

-- how many pages the program's memory may have: the lesser of what it was given and its own greatest, and 0 without a memory
abbrev pub most : Program → ℕ
most program = greatest program.pages program.linked.memories

abbrev pub instance_of : Program → Instance
instance_of program = record {
  types = program.linked.types;
  hosts = hosts program.linked;
  defined = defined program.linked;
  most = most program;
}

-- The fresh state.

abbrev pub first_global : GlobalDef → Value
first_global global = value_of global.first.value global.first.bits

-- data segments are laid in order
abbrev pub with_segments : (memory : List ℕ) → List ByteSegment → List ℕ
with_segments memory [] = memory
with_segments memory (segment ∷ segments) = with_segments (with_bytes memory segment.offset.bits segment.bytes) segments

abbrev pub first_memory : Module → List ℕ
first_memory m = with_segments (zeros (first_pages m * page)) m.segments

-- a list with these in place of as many of its items from a place on
abbrev pub laid : {A : Type 0} → List A → (at : ℕ) → List A → List A
laid items at others = take at items ++ (others ++ drop (at + length others) items)

-- likewise element segments
abbrev pub with_elements : (table : List (Option ℕ)) → List ElementSegment → List (Option ℕ)
with_elements table [] = table
with_elements table (segment ∷ segments) =
    with_elements (laid table segment.offset.bits (map (λ (index : ℕ). Some index) segment.functions)) segments

abbrev pub first_table : Module → List (Option ℕ)
first_table m = with_elements (replicate (first_elements m) None) m.elements

-- nothing is read or written yet
abbrev pub unused : (body : List ℕ) → Streams
unused body = record { body = body; position = 0; reply = [] }

abbrev pub fresh_store : Module → (body : List ℕ) → Store
fresh_store m body = record {
  memory = first_memory m;
  globals = map first_global m.globals;
  table = first_table m;
  streams = unused body;
}

-- no function is live yet
abbrev pub fresh_state : Module → (body : List ℕ) → State
fresh_state m body = record {
  operands = [];
  frame = record { locals = []; targets = [] };
  frames = 0;
  cells = 0;
  store = fresh_store m body;
}

-- the number of the body of a function that is not imported
abbrev pub body_number : Module → (index : ℕ) → Option ℕ
body_number m index = if nat_lt index (imported_functions m.imports) then None else Some (index - imported_functions m.imports)

abbrev pub start_body : Module → Option ℕ
start_body m = option_and_then (body_number m) m.start

abbrev pub entry_body : Module → Option ℕ
entry_body m = option_and_then (body_number m) (option_map (λ (export : Export). export.index) (export_named entry_name m.exports))

-- the start function, if there is one, and then `_start`
abbrev pub entries : Module → List ℕ
entries m = option_to_list (start_body m) ++ option_to_list (entry_body m)

-- what a program has before it when it begins with a request's body
abbrev pub first : Program → (body : List ℕ) → Pending
first program body = record {
  sequence = Done;
  around = entering (entries program.linked);
  state = fresh_state program.linked body;
}
