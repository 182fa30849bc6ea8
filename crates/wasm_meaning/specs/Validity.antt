-- Which modules are valid, and which rule any other one breaks first (WebAssembly Core 1.0, section 3.4).
use Rattle.std.specs.Prelude.{◌≡◌, ℕ, ◌==◌, Bool, false, not, ◌&&◌, ◌||◌, nat_lt, nat_le, List, [], ◌∷◌, length, bytes_eq, slice_get, if◌then◌else◌, Option, Some, None, is_some, Result, Ok, Err}
use Rattle.std.specs.List.{list_any, list_all}
use Rattle.wasm_ops.specs.declared.types.ValType.TheVariants.{I32}
use Rattle.wasm_ops.specs.declared.types.FuncType.{FuncType}
use Rattle.wasm_ops.specs.declared.types.Limits.{Limits}
use Rattle.wasm_ops.specs.declared.modules.Module.{Module}
use Rattle.wasm_ops.specs.declared.modules.Import.{Import}
use Rattle.wasm_ops.specs.declared.modules.ImportItem.{ImportItem}
use Rattle.wasm_ops.specs.declared.modules.ImportItem.TheVariants as item
use Rattle.wasm_ops.specs.declared.modules.GlobalDef.{GlobalDef}
use Rattle.wasm_ops.specs.declared.modules.Export.{Export}
use Rattle.wasm_ops.specs.declared.modules.ElementSegment.{ElementSegment}
use Rattle.wasm_ops.specs.declared.modules.ByteSegment.{ByteSegment}
use Rattle.wasm_ops.specs.declared.modules.Body.{Body}
use Rattle.wasm_ops.specs.WellFormed.{IsWellFormed}
use Rattle.wasm_meaning.specs.declared.violations.Rule.{Rule}
use Rattle.wasm_meaning.specs.declared.violations.Rule.TheVariants.{UnknownIndex, DoubleExport, TwoMemories, TwoTables, MemoryLimits, StartType, ConstantType}
use Rattle.wasm_meaning.specs.declared.violations.Violation.{Violation}
use Rattle.wasm_meaning.specs.ValidityRules.{rule_number}
use Rattle.wasm_meaning.specs.ValidityChecks.{Check, in_order, each, each_item, first_rule, broken_at}
use Rattle.wasm_meaning.specs.ValiditySpaces.{as_table, as_memory, functions, tables, memories, globals, function_type, body_type}
use Rattle.wasm_meaning.specs.TypingOperands.{Walk, same_type}
use Rattle.wasm_meaning.specs.Typing.{body_typed, height_of, nest_of}

-- A small check for each kind of item.

-- there is no item with this index
abbrev pub is_unknown : (count index : ℕ) → Bool
is_unknown count index = nat_le count index

abbrev pub are_known : (count : ℕ) → List ℕ → Bool
are_known count indices = list_all (λ index. nat_lt index count) indices

-- a size is above this one, if it is limited
abbrev pub is_above : ℕ → Option ℕ → Bool
is_above size None = false
is_above size (Some most) = nat_lt most size

-- the greatest size is above this one
abbrev pub exceeds : Option ℕ → ℕ → Bool
exceeds None limit = false
exceeds (Some most) limit = nat_lt limit most

-- 4 GiB in pages of 64 KiB
abbrev pub most_pages : ℕ
most_pages = 65536

abbrev pub function_rule : (types type : ℕ) → Option Rule
function_rule types type = first_rule ((is_unknown types type, UnknownIndex) ∷ [])

abbrev pub table_rule : (another : Bool) → Limits → Option Rule
table_rule another limits = first_rule ((another, TwoTables) ∷ (is_above limits.least limits.most, MemoryLimits) ∷ [])

abbrev pub memory_rule : (another : Bool) → Limits → Option Rule
memory_rule another limits =
    first_rule (
    (another, TwoMemories)
    ∷ (nat_lt most_pages limits.least, MemoryLimits)
    ∷ (exceeds limits.most most_pages, MemoryLimits)
    ∷ (is_above limits.least limits.most, MemoryLimits)
    ∷ [])

abbrev pub import_rule : (types : ℕ) → (table memory : Bool) → ImportItem → Option Rule
import_rule types table memory (item.Function type) = function_rule types type
import_rule types table memory (item.Table limits) = table_rule table limits
import_rule types table memory (item.Memory limits) = memory_rule memory limits
import_rule types table memory (item.Global value mutable) = None

abbrev pub global_rule : GlobalDef → Option Rule
global_rule global = first_rule ((not (same_type global.value global.first.value), ConstantType) ∷ [])

-- how many items an export of this kind may name
abbrev pub count_of : Module → (kind : ℕ) → ℕ
count_of m kind =
    if kind == 0 then length (functions m) else (
    if kind == 1 then length (tables m) else (
    if kind == 2 then length (memories m) else (
    if kind == 3 then length (globals m) else 0)))

abbrev pub export_rule : Module → (used : Bool) → Export → Option Rule
export_rule m used export = first_rule ((is_unknown (count_of m export.kind) export.index, UnknownIndex) ∷ (used, DoubleExport) ∷ [])

-- the function takes and gives nothing
abbrev pub is_bare : FuncType → Bool
is_bare type = length type.params == 0 && not (is_some type.result)

abbrev pub entered_rule : Option FuncType → Option Rule
entered_rule None = Some UnknownIndex
entered_rule (Some type) = first_rule ((not (is_bare type), StartType) ∷ [])

abbrev pub start_rule : Module → Option ℕ → Option Rule
start_rule m None = None
start_rule m (Some index) = entered_rule (function_type m index)

abbrev pub element_rule : (tables functions : ℕ) → ElementSegment → Option Rule
element_rule tables functions element =
    first_rule (
    (is_unknown tables element.table, UnknownIndex)
    ∷ (not (same_type I32 element.offset.value), ConstantType)
    ∷ (not (are_known functions element.functions), UnknownIndex)
    ∷ [])

abbrev pub segment_rule : (memories : ℕ) → ByteSegment → Option Rule
segment_rule memories segment =
    first_rule ((is_unknown memories segment.memory, UnknownIndex) ∷ (not (same_type I32 segment.offset.value), ConstantType) ∷ [])

-- Each list of a module.

abbrev pub has_table : List Import → Bool
has_table imports = list_any (λ i. is_some (as_table i.item)) imports

abbrev pub has_memory : List Import → Bool
has_memory imports = list_any (λ i. is_some (as_memory i.item)) imports

unfoldable pub imports_walk : Module → Check
imports_walk m = each_item (λ before i. import_rule (length m.types) (has_table before) (has_memory before) i.item) m.imports

unfoldable pub functions_walk : Module → Check
functions_walk m = each_item (λ before type. function_rule (length m.types) type) m.functions

unfoldable pub tables_walk : Module → Check
tables_walk m = each_item (λ before limits. table_rule (has_table m.imports || nat_lt 0 (length before)) limits) m.tables

unfoldable pub memories_walk : Module → Check
memories_walk m = each_item (λ before limits. memory_rule (has_memory m.imports || nat_lt 0 (length before)) limits) m.memories

unfoldable pub globals_walk : Module → Check
globals_walk m = each_item (λ before global. global_rule global) m.globals

-- an export before has the name
abbrev pub is_used : List Export → (name : List ℕ) → Bool
is_used exports name = list_any (λ e. bytes_eq e.name name) exports

abbrev pub next_export_rule : Module → List Export → Export → Option Rule
next_export_rule m before export = export_rule m (is_used before export.name) export

unfoldable pub exports_walk : Module → Check
exports_walk m = each_item (next_export_rule m) m.exports

unfoldable pub start_walk : Module → Check
start_walk m = broken_at 0 (start_rule m m.start)

unfoldable pub elements_walk : Module → Check
elements_walk m = each_item (λ before element. element_rule (length (tables m)) (length (functions m)) element) m.elements

unfoldable pub segments_walk : Module → Check
segments_walk m = each_item (λ before segment. segment_rule (length (memories m)) segment) m.segments

-- a body is typed, or its violation is that of the module
abbrev pub in_body : (body : ℕ) → Result Walk Violation → Check
in_body body (Ok walk) = Ok tt
in_body body (Err violation) =
    Err (record { number = rule_number violation.rule; function = Some body; item = violation.place })

abbrev pub typed_in : Module → (number : ℕ) → Body → Option FuncType → Check
typed_in m number body None = Err (record { number = rule_number UnknownIndex; function = Some number; item = 0 })
typed_in m number body (Some type) = in_body number (body_typed m type body)

abbrev pub body_walk : Module → (number : ℕ) → Body → Check
body_walk m number body = typed_in m number body (body_type m number)

abbrev pub next_body : Module → List Body → Body → Check
next_body m before body = body_walk m (length before) body

unfoldable pub bodies_walk : Module → Check
bodies_walk m = each (next_body m) m.bodies

-- all but the bodies
unfoldable pub outside_walk : Module → Check
outside_walk m =
    in_order (
    imports_walk m
    ∷ functions_walk m
    ∷ tables_walk m
    ∷ memories_walk m
    ∷ globals_walk m
    ∷ exports_walk m
    ∷ start_walk m
    ∷ elements_walk m
    ∷ segments_walk m
    ∷ [])

-- Whole modules.

unfoldable pub module_walk : Module → Check
module_walk m = in_order (outside_walk m ∷ bodies_walk m ∷ [])

-- a module that was read, of which no rule is broken
pub record IsValid (m : Module) : Type 0 where
  pub formed : IsWellFormed m
  pub unbroken : module_walk m ≡ Ok tt

-- What is known of each body of a valid module.

abbrev pub height_in : Module → Option FuncType → Option Body → ℕ
height_in m (Some type) (Some body) = height_of m type body
height_in m type body = 0

-- the greatest number of operands before or behind any operator of the body with this number
abbrev pub body_height : Module → (number : ℕ) → ℕ
body_height m number = height_in m (body_type m number) (slice_get m.bodies number)

abbrev pub nest_in : Option Body → ℕ
nest_in (Some body) = nest_of body
nest_in None = 0

-- the greatest number of blocks that are open at once in it
abbrev pub body_nest : Module → (number : ℕ) → ℕ
body_nest m number = nest_in (slice_get m.bodies number)
