-- The index spaces of a module, in which imported items come first (WebAssembly Core 1.0, section 2.5.1).
use Rattle.std.specs.Prelude.{ℕ, ◌+◌, List, ◌++◌, map, filter_map, slice_get, Option, Some, None, option_and_then}
use Rattle.wasm_ops.specs.Limits.{imported_functions}
use Rattle.wasm_ops.specs.declared.types.FuncType.{FuncType}
use Rattle.wasm_ops.specs.declared.types.Limits.{Limits}
use Rattle.wasm_ops.specs.declared.modules.Module.{Module}
use Rattle.wasm_ops.specs.declared.modules.Import.{Import}
use Rattle.wasm_ops.specs.declared.modules.GlobalDef.{GlobalDef}
use Rattle.wasm_ops.specs.declared.modules.ImportItem.{ImportItem}
use Rattle.wasm_ops.specs.declared.modules.ImportItem.TheVariants as item
use Rattle.wasm_meaning.specs.declared.blocks.GlobalType.{GlobalType}

-- what an import asks for, if it is of the kind
abbrev pub as_function : ImportItem → Option ℕ
as_function (item.Function type) = Some type
as_function _ = None

abbrev pub as_table : ImportItem → Option Limits
as_table (item.Table limits) = Some limits
as_table _ = None

abbrev pub as_memory : ImportItem → Option Limits
as_memory (item.Memory limits) = Some limits
as_memory _ = None

abbrev pub as_global : ImportItem → Option GlobalType
as_global (item.Global value mutable) = Some (record { value = value; mutable = mutable })
as_global _ = None

-- the imports of one kind, in order
abbrev pub imported : {A : Type 0} → (ImportItem → Option A) → List Import → List A
imported kind imports = filter_map (λ i. kind i.item) imports

abbrev pub defined_global : GlobalDef → GlobalType
defined_global g = record { value = g.value; mutable = g.mutable }

-- each function by the index of its type
abbrev pub functions : Module → List ℕ
functions m = imported as_function m.imports ++ m.functions

abbrev pub tables : Module → List Limits
tables m = imported as_table m.imports ++ m.tables

abbrev pub memories : Module → List Limits
memories m = imported as_memory m.imports ++ m.memories

abbrev pub globals : Module → List GlobalType
globals m = imported as_global m.imports ++ map defined_global m.globals

-- the type of the function with this index
abbrev pub function_type : Module → (index : ℕ) → Option FuncType
function_type m index = option_and_then (slice_get m.types) (slice_get (functions m) index)

-- the type of the function that has this body: it comes behind the imported ones
abbrev pub body_type : Module → (body : ℕ) → Option FuncType
body_type m body = function_type m (imported_functions m.imports + body)
