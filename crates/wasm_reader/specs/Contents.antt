-- What the sections of a module hold, item by item (WebAssembly Core 1.0, sections 5.5.4 to 5.5.14; Core 2.0, section 5.5.16, for the count of data segments).
use Rattle.std.specs.Prelude.{ℕ, ◌==◌, nat_lt, Bool, true, if◌then◌else◌, List, Option, Some, None}
use Rattle.wasm_ops.specs.declared.faults.Refusal.TheVariants.{TooLarge, BadKind, CountsDiffer}
use Rattle.wasm_ops.specs.declared.modules.Import.{Import}
use Rattle.wasm_ops.specs.declared.modules.ImportItem.{ImportItem}
use Rattle.wasm_ops.specs.declared.modules.ImportItem.TheVariants as item
use Rattle.wasm_ops.specs.declared.modules.Constant.{Constant}
use Rattle.wasm_ops.specs.declared.modules.GlobalDef.{GlobalDef}
use Rattle.wasm_ops.specs.declared.modules.Export.{Export}
use Rattle.wasm_ops.specs.declared.modules.ElementSegment.{ElementSegment}
use Rattle.wasm_ops.specs.declared.modules.ByteSegment.{ByteSegment}
use Rattle.wasm_ops.specs.declared.types.FuncType.{FuncType}
use Rattle.wasm_ops.specs.declared.types.Limits.{Limits}
use Rattle.wasm_ops.specs.declared.types.ValType.{ValType}
use Rattle.wasm_ops.specs.Limits.{most_types, most_functions, most_globals, most_kind, imported_functions, imported_globals}
use Rattle.wasm_reader.specs.declared.imports.ImportKind.{ImportKind}
use Rattle.wasm_reader.specs.declared.imports.ImportKind.TheVariants as kind
use Rattle.wasm_reader.specs.Syntax.{Syntax, byte, bytes, number, map, checked, or_fault, items, vector, vector_of, vector_within, ◌⨾◌}
use Rattle.wasm_reader.specs.Parts.{name, value_type, mutability, table, memory, constant, function_type}

abbrev pub types : Syntax (List FuncType)
types = vector_within 0 most_types function_type

-- what is imported, as its kind byte says
abbrev pub kind_of : ℕ → Option ImportKind
kind_of b =
    if b == 0 then Some kind.Function
    else (if b == 1 then Some kind.Table else (if b == 2 then Some kind.Memory else (if b == 3 then Some kind.Global else None)))

-- behind so many imported functions and globals there is room for another one
abbrev pub has_room : (functions globals : ℕ) → ImportKind → Bool
has_room functions globals kind.Function = nat_lt functions most_functions
has_room functions globals kind.Table = true
has_room functions globals kind.Memory = true
has_room functions globals kind.Global = nat_lt globals most_globals

abbrev pub with_room : (functions globals : ℕ) → ImportKind → Option ImportKind
with_room functions globals k = if has_room functions globals k then Some k else None

abbrev pub import_kind : (functions globals : ℕ) → Syntax ImportKind
import_kind functions globals = checked (with_room functions globals) (or_fault TooLarge) (checked kind_of (or_fault BadKind) byte)

abbrev pub import_item : ImportKind → Syntax ImportItem
import_item kind.Function = map item.Function number
import_item kind.Table = map item.Table table
import_item kind.Memory = map item.Memory memory
import_item kind.Global = value_type ⨾ λ value. map (item.Global value) mutability

abbrev pub as_import : (origin name : List ℕ) → ImportItem → Import
as_import origin name item = record { «module» = origin; name = name; item = item }

abbrev pub import_behind : (functions globals : ℕ) → Syntax Import
import_behind functions globals =
    name ⨾ λ origin. name ⨾ λ own. import_kind functions globals ⨾ λ k. map (as_import origin own) (import_item k)

abbrev pub next_import : (so_far : List Import) → Syntax Import
next_import so_far = import_behind (imported_functions so_far) (imported_globals so_far)

abbrev pub imports : Syntax (List Import)
imports = number ⨾ λ count. items count next_import

-- the type index of each function
abbrev pub functions : List Import → Syntax (List ℕ)
functions imported = vector_within (imported_functions imported) most_functions number

abbrev pub tables : Syntax (List Limits)
tables = vector table

abbrev pub memories : Syntax (List Limits)
memories = vector memory

abbrev pub as_global : ValType → Bool → Constant → GlobalDef
as_global value mutable first = record { value = value; mutable = mutable; first = first }

abbrev pub global : Syntax GlobalDef
global = value_type ⨾ λ value. mutability ⨾ λ mutable. map (as_global value mutable) constant

abbrev pub globals : List Import → Syntax (List GlobalDef)
globals imported = vector_within (imported_globals imported) most_globals global

-- an export's kind: a function, a table, a memory or a global
abbrev pub as_kind : ℕ → Option ℕ
as_kind b = if nat_lt most_kind b then None else Some b

abbrev pub as_export : (name : List ℕ) → (kind index : ℕ) → Export
as_export name kind index = record { name = name; kind = kind; index = index }

abbrev pub export : Syntax Export
export = name ⨾ λ own. checked as_kind (or_fault BadKind) byte ⨾ λ k. map (as_export own k) number

abbrev pub exports : Syntax (List Export)
exports = vector export

abbrev pub as_element : ℕ → Constant → List ℕ → ElementSegment
as_element table offset functions = record { table = table; offset = offset; functions = functions }

abbrev pub element : Syntax ElementSegment
element = number ⨾ λ table. constant ⨾ λ offset. map (as_element table offset) (vector number)

abbrev pub elements : Syntax (List ElementSegment)
elements = vector element

abbrev pub as_segment : ℕ → Constant → List ℕ → ByteSegment
as_segment memory offset bytes = record { memory = memory; offset = offset; bytes = bytes }

abbrev pub segment : Syntax ByteSegment
segment = number ⨾ λ memory. constant ⨾ λ offset. number ⨾ λ count. map (as_segment memory offset) (bytes count)

-- as many as was said, if it was
abbrev pub is_counted : (due : Option ℕ) → (count : ℕ) → Bool
is_counted None count = true
is_counted (Some due) count = count == due

abbrev pub as_counted : (due : Option ℕ) → (count : ℕ) → Option ℕ
as_counted due count = if is_counted due count then Some count else None

abbrev pub segments : (due : Option ℕ) → Syntax (List ByteSegment)
segments due = vector_of (checked (as_counted due) (or_fault CountsDiffer) number) (λ so_far. segment)
