-- What the sections of a module hold is read as the syntaxes have it.
use Rattle.std.proofs.Common.{ℕ, List, Option}
use Rattle.wasm_ops.specs.declared.faults.Refusal.TheVariants.{TooLarge, BadKind, CountsDiffer}
use Rattle.wasm_ops.specs.declared.modules.Import.{Import}
use Rattle.wasm_ops.specs.declared.modules.ImportItem.TheVariants as item
use Rattle.wasm_ops.specs.Limits.{most_functions, most_globals, most_types, imported_functions, imported_globals}
use Rattle.wasm_reader.specs.declared.imports.ImportKind.{ImportKind}
use Rattle.wasm_reader.specs.declared.imports.ImportKind.TheVariants as kind
use Rattle.wasm_reader.specs.Syntax.{or_fault}
use Rattle.wasm_reader.specs.Contents.{types, kind_of, with_room, import_kind, import_item, as_import, import_behind, imports, functions, tables, memories, as_global, global, globals, as_kind, as_export, export, exports, as_element, element, elements, as_segment, segment, as_counted, segments}
use Rattle.wasm_reader.proofs.SyntaxLaws.{IsDecidedBy, byte_decided, number_decided, bytes_decided, map_decided, checked_decided, ◌⨾⨾◌}
use Rattle.wasm_reader.proofs.ItemLaws.{items_decided, vector_decided, vector_within_decided}
use Rattle.wasm_reader.proofs.PartLaws.{name_decided, value_type_decided, mutability_decided, table_decided, memory_decided, constant_decided, function_type_decided}

pub types_decided : IsDecidedBy types
types_decided = vector_within_decided 0 most_types function_type_decided

-- Imports.

import_kind_decided : (functions globals : ℕ) → IsDecidedBy (import_kind functions globals)
import_kind_decided functions globals =
    checked_decided (with_room functions globals) (or_fault TooLarge) (checked_decided kind_of (or_fault BadKind) byte_decided)

import_item_decided : (k : ImportKind) → IsDecidedBy (import_item k)
import_item_decided kind.Function = map_decided item.Function number_decided
import_item_decided kind.Table = map_decided item.Table table_decided
import_item_decided kind.Memory = map_decided item.Memory memory_decided
import_item_decided kind.Global = value_type_decided ⨾⨾ λ value. map_decided (item.Global value) mutability_decided

import_decided : (functions globals : ℕ) → IsDecidedBy (import_behind functions globals)
import_decided functions globals =
    name_decided ⨾⨾ λ origin. name_decided ⨾⨾ λ own. import_kind_decided functions globals ⨾⨾ λ k. map_decided (as_import origin own) (import_item_decided k)

pub imports_decided : IsDecidedBy imports
imports_decided = number_decided ⨾⨾ λ count. items_decided count (λ so_far. import_decided (imported_functions so_far) (imported_globals so_far))

-- What is defined.

pub functions_decided : (imported : List Import) → IsDecidedBy (functions imported)
functions_decided imported = vector_within_decided (imported_functions imported) most_functions number_decided

pub tables_decided : IsDecidedBy tables
tables_decided = vector_decided table_decided

pub memories_decided : IsDecidedBy memories
memories_decided = vector_decided memory_decided

global_decided : IsDecidedBy global
global_decided = value_type_decided ⨾⨾ λ value. mutability_decided ⨾⨾ λ mutable. map_decided (as_global value mutable) constant_decided

pub globals_decided : (imported : List Import) → IsDecidedBy (globals imported)
globals_decided imported = vector_within_decided (imported_globals imported) most_globals global_decided

-- Exports and segments.

export_decided : IsDecidedBy export
export_decided = name_decided ⨾⨾ λ own. checked_decided as_kind (or_fault BadKind) byte_decided ⨾⨾ λ k. map_decided (as_export own k) number_decided

pub exports_decided : IsDecidedBy exports
exports_decided = vector_decided export_decided

element_decided : IsDecidedBy element
element_decided =
    number_decided ⨾⨾ λ table. constant_decided ⨾⨾ λ offset. map_decided (as_element table offset) (vector_decided number_decided)

pub elements_decided : IsDecidedBy elements
elements_decided = vector_decided element_decided

segment_decided : IsDecidedBy segment
segment_decided =
    number_decided ⨾⨾ λ memory. constant_decided ⨾⨾ λ offset. number_decided ⨾⨾ λ count. map_decided (as_segment memory offset) (bytes_decided count)

pub segments_decided : (due : Option ℕ) → IsDecidedBy (segments due)
segments_decided due =
    checked_decided (as_counted due) (or_fault CountsDiffer) number_decided ⨾⨾ λ count. items_decided count (λ so_far. segment_decided)
