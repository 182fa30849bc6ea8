-- A module that bytes spell is well formed.
use Rattle.std.proofs.Common.{◌≡◌, ℕ, suc, zero, ◌+◌, ◌≤◌, nat_lt, Bool, true, false, if◌then◌else◌, List, [], ◌∷◌, ◌++◌, length, Option, Some, None, Result, Ok, Err, IfOk, refl, ap, sym, ◌∙◌, subst, arith}
use Rattle.std.proofs.lemmas.Bool.{ltb-false}
use Rattle.std.specs.List.{AllByRecursion}
use Rattle.wasm_ops.specs.declared.faults.Fault.{Fault}
use Rattle.wasm_ops.specs.declared.faults.Refusal.TheVariants.{CutShort, BadType, BadKind, BadLimits, BadConstant, CountsDiffer, TooLarge, BadMagic, BadVersion, SectionSize}
use Rattle.wasm_ops.specs.declared.numbers.Sign.TheVariants.{Signed}
use Rattle.wasm_ops.specs.declared.modules.Import.{Import}
use Rattle.wasm_ops.specs.declared.modules.ImportItem.{ImportItem}
use Rattle.wasm_ops.specs.declared.modules.ImportItem.TheVariants as item
use Rattle.wasm_ops.specs.declared.modules.Module.{Module}
use Rattle.wasm_ops.specs.declared.types.ValType.{ValType}
use Rattle.wasm_ops.specs.declared.types.ValType.TheVariants.{I32, I64}
use Rattle.wasm_ops.specs.Bytes.{AreBytes}
use Rattle.wasm_ops.specs.Input.{Input, window_at}
use Rattle.wasm_ops.specs.Limits.{most_types, most_parameters, most_results, most_functions, most_globals, most_elements, most_kind, imported_functions, imported_globals}
use Rattle.wasm_ops.specs.Refusals.{fault_at}
use Rattle.wasm_ops.specs.Values.{IsOfType}
use Rattle.wasm_ops.specs.WellFormed.{IsWellFormedBody, IsConstant, IsTableSize, IsImportItem, IsImport, IsFunctionType, IsGlobal, IsExport, IsElementSegment, IsByteSegment, IsWellFormed}
use Rattle.wasm_code.specs.Bodies.{beginning}
use Rattle.wasm_code.proofs.FormedBodies.{body_formed}
use Rattle.wasm_code.specs.declared.faults.CodeFault.{CodeFault}
use Rattle.wasm_reader.specs.declared.imports.ImportKind.{ImportKind}
use Rattle.wasm_reader.specs.declared.imports.ImportKind.TheVariants as kind
use Rattle.wasm_reader.specs.declared.sections.Part.{Part}
use Rattle.wasm_reader.specs.declared.sections.Part.TheVariants as part
use Rattle.wasm_reader.specs.Syntax.{Syntax, bytes, checked, or_fault, ReadsItems}
use Rattle.wasm_reader.specs.Parts.{this, tag, name, value_type, flag_of, mutability, greatest, bounds, table, memory, constant_of, no_constant, constant_bits, as_constant, constant, result_type, as_function_type, function_type}
use Rattle.wasm_reader.specs.Contents.{kind_of, with_room, import_item, as_import, import_behind, next_import, has_room, imports, functions, as_global, global, globals, as_kind, as_export, export, as_element, element, as_segment, segment, is_counted, as_counted, segments}
use Rattle.wasm_reader.specs.Bodies.{body, sized_body, same_count, bodies}
use Rattle.wasm_reader.specs.Modules.{opens_with, always, magic, version, header, SpellsModule}
use Rattle.wasm_reader.specs.Structure.{Held, ReadsSection, AreSections, is_part, window_of, IsPart}
use Rattle.wasm_reader.specs.Imports.{kind_of_import}
use Rattle.wasm_reader.proofs.ImportCounts.{functions_more, globals_more, function_counts, global_counts, functions_room, globals_room}
use Rattle.wasm_reader.proofs.StructureLaws.{module_structure}
use Rattle.wasm_reader.proofs.Yields.{HasBytes, Yields, Anything, byte_taken, byte_yields, integer_yields, number_yields, front_taken, bytes_yields, pure_yields, then_yields, map_yields, checked_yields, IsCounted, limited_yields, vector_of_yields, vector_yields, vector_within_yields}

-- a thing that passes a test, of which nothing more is known
tested : {A B : Type 0} (test : A → Option B) (fault : (at : ℕ) → A → Fault) {s : Syntax A} {P : A → Type 0} → Yields s P → Yields (checked test fault s) Anything
tested test fault one = checked_yields test fault Anything one (λ x y holds is. tt)

from_zero : (n most : ℕ) → 0 + n ≤ most → n ≤ most
from_zero n most few = omega arith

any_of : {A : Type 0} {s : Syntax A} {P : A → Type 0} → Yields s P → Yields s Anything
any_of one = record { yields = λ before x after has reads. (tt, (one.yields before x after has reads).1) }

tag_yields : (wanted : ℕ) → Yields (tag wanted) Anything
tag_yields wanted = tested (this wanted) (or_fault BadType) byte_yields

name_yields : Yields name Anything
name_yields =
    record {
      yields = λ before text after has reads.
          let counted = number_yields.yields before (length text) reads.start has reads.counted in
          (tt, (front_taken reads.start text after counted.1 reads.spelt).2);
    }

value_type_yields : Yields value_type Anything
value_type_yields =
    record {
      yields = λ before x after has reads. (tt, subst HasBytes (sym reads.3.1) (byte_taken before reads.0 reads.1 has reads.2));
    }

mutability_yields : Yields mutability Anything
mutability_yields = tested flag_of (or_fault BadKind) byte_yields

-- Limits.

greatest_yields : (has_most : Bool) → Yields (greatest has_most) Anything
greatest_yields false = pure_yields Anything None tt
greatest_yields true = map_yields (λ most. Some most) Anything number_yields (λ most fits. tt)

table_yields : Yields table IsTableSize
table_yields =
    then_yields (tag_yields 0x70) (λ kind any.
    then_yields (tested flag_of (or_fault BadLimits) byte_yields) (λ has_most any.
    then_yields (limited_yields 0 most_elements) (λ least few.
    map_yields (bounds least) IsTableSize (greatest_yields has_most) (λ most any. from_zero least most_elements few))))

memory_yields : Yields memory Anything
memory_yields =
    then_yields (tested flag_of (or_fault BadLimits) byte_yields) (λ has_most any.
    then_yields number_yields (λ least fits.
    map_yields (bounds least) Anything (greatest_yields has_most) (λ most any. tt)))

-- Constants.

bits_yields : (value : ValType) → Yields (constant_bits value) (IsOfType value)
bits_yields I32 = integer_yields Signed 32
bits_yields I64 = integer_yields Signed 64

constant_yields : Yields constant IsConstant
constant_yields =
    then_yields (tested constant_of (λ at b. or_fault (no_constant b) at b) byte_yields) (λ value any.
    then_yields (bits_yields value) (λ bits fits.
    then_yields (tested (this 0x0B) (or_fault BadConstant) byte_yields) (λ end any.
    pure_yields IsConstant (as_constant value bits) fits)))

-- Function types.

result_yields : (count : ℕ) → Yields (result_type count) Anything
result_yields zero = pure_yields Anything None tt
result_yields (suc count) = map_yields (λ value. Some value) Anything value_type_yields (λ value any. tt)

function_type_yields : Yields function_type IsFunctionType
function_type_yields =
    then_yields (tag_yields 0x60) (λ form any.
    then_yields (vector_within_yields 0 most_parameters Anything value_type_yields) (λ params few.
    then_yields (limited_yields 0 most_results) (λ count any.
    map_yields (as_function_type params) IsFunctionType (result_yields count) (λ result any. from_zero (length params) most_parameters few.1))))

-- Imports.

import_item_yields : (k : ImportKind) → Yields (import_item k) IsImportItem
import_item_yields kind.Function = map_yields item.Function IsImportItem number_yields (λ index fits. tt)
import_item_yields kind.Table = map_yields item.Table IsImportItem table_yields (λ size few. few)
import_item_yields kind.Memory = map_yields item.Memory IsImportItem memory_yields (λ size any. tt)
import_item_yields kind.Global =
    then_yields value_type_yields (λ value any. map_yields (item.Global value) IsImportItem mutability_yields (λ mutable any. tt))

import_yields : (functions globals : ℕ) → Yields (import_behind functions globals) IsImport
import_yields functions globals =
    then_yields name_yields (λ origin any.
    then_yields name_yields (λ own any.
    then_yields (tested (with_room functions globals) (or_fault TooLarge) (tested kind_of (or_fault BadKind) byte_yields)) (λ k any.
    map_yields (as_import origin own) IsImport (import_item_yields k) (λ i is. is))))

imports_yields : Yields imports (λ xs. AllByRecursion IsImport xs × IsCounted (length xs))
imports_yields = vector_of_yields IsCounted IsImport number_yields (λ so_far. import_yields (imported_functions so_far) (imported_globals so_far))

-- how many functions and globals are imported

chosen_kind : (room : Bool) (k other : ImportKind) → (if room then Some k else None) ≡ Some other → (room ≡ true) × (k ≡ other)
chosen_kind true k other e = let same : k ≡ other = cc in (refl, same)
chosen_kind false k other e = let bad : ⊥ = cc in absurd bad

kind_read : (k : ImportKind) (before : Input) (i : ImportItem) (after : Input) → (import_item k).Reads before i after → kind_of_import i ≡ k
kind_read kind.Function before i after reads = ap (λ (j : ImportItem). kind_of_import j) reads.2
kind_read kind.Table before i after reads = ap (λ (j : ImportItem). kind_of_import j) reads.2
kind_read kind.Memory before i after reads = ap (λ (j : ImportItem). kind_of_import j) reads.2
kind_read kind.Global before i after reads = ap (λ (j : ImportItem). kind_of_import j) reads.3.2

import_room
    : (functions globals : ℕ) (before : Input) (i : Import) (after : Input) → (import_behind functions globals).Reads before i after
    → has_room functions globals (kind_of_import i.item) ≡ true
import_room functions globals before i after reads =
    let described = reads.3.3 in
    let k = described.0 in
    let test = described.2 in
    let chosen = chosen_kind (has_room functions globals test.0) test.0 k test.2 in
    let behind = described.3 in
    let items = ap (λ (j : Import). j.item) behind.2 in
    let kinds = kind_read k described.1 behind.0 after behind.1 in
    let same : kind_of_import i.item ≡ test.0 = ap (λ (j : ImportItem). kind_of_import j) items ∙ kinds ∙ sym chosen.1 in
    let P : ImportKind → Type 0 = λ other. has_room functions globals other ≡ true in
    subst P (sym same) chosen.0

imports_read
    : (so_far more : List Import) (before after : Input) → ReadsItems next_import so_far more before after
    → imported_functions so_far ≤ most_functions → imported_globals so_far ≤ most_globals
    → (imported_functions so_far + imported_functions more ≤ most_functions) × (imported_globals so_far + imported_globals more ≤ most_globals)
imports_read so_far [] before after reads functions globals = (omega arith, omega arith)
imports_read so_far (i ∷ more) before after reads functions globals =
    let room = import_room (imported_functions so_far) (imported_globals so_far) before i reads.0 reads.1 in
    let function_room = functions_room (imported_functions so_far) (imported_globals so_far) (kind_of_import i.item) room functions in
    let global_room = globals_room (imported_functions so_far) (imported_globals so_far) (kind_of_import i.item) room globals in
    let function_one = function_counts i.item in
    let global_one = global_counts i.item in
    let functions_next = functions_more so_far i in
    let globals_next = globals_more so_far i in
    let others = imports_read (so_far ++ i ∷ []) more reads.0 after reads.2 (omega arith) (omega arith) in
    let functions_behind = others.0 in
    let globals_behind = others.1 in (omega arith, omega arith)

abbrev AreFew : List Import → Type 0
AreFew xs = (imported_functions xs ≤ most_functions) × (imported_globals xs ≤ most_globals)

imports_few : (w : Option Input) (xs : List Import) → IsPart w imports [] xs → AreFew xs
imports_few None xs is = subst AreFew (sym is) (omega arith, omega arith)
imports_few (Some window) xs is =
    let reads = is.1 in
    let few = imports_read [] xs reads.1 is.0 reads.3.1 (omega arith) (omega arith) in
    let functions = few.0 in
    let globals = few.1 in (omega arith, omega arith)

-- What is defined.

global_yields : Yields global IsGlobal
global_yields =
    then_yields value_type_yields (λ value any.
    then_yields mutability_yields (λ mutable any.
    map_yields (as_global value mutable) IsGlobal constant_yields (λ first is. is)))

kind_chosen : (b k : ℕ) (above : Bool) → nat_lt most_kind b ≡ above → (if above then None else Some b) ≡ Some k → k ≤ most_kind
kind_chosen b k true e is = let bad : ⊥ = cc in absurd bad
kind_chosen b k false e is = let few = ltb-false most_kind b e in let same : b ≡ k = cc in omega arith

export_yields : Yields export IsExport
export_yields =
    then_yields name_yields (λ own any.
    then_yields (checked_yields as_kind (or_fault BadKind) (λ k. k ≤ most_kind) byte_yields (λ b k any is. kind_chosen b k (nat_lt most_kind b) refl is)) (λ k few.
    map_yields (as_export own k) IsExport number_yields (λ index any. few)))

element_yields : Yields element IsElementSegment
element_yields =
    then_yields number_yields (λ table any.
    then_yields constant_yields (λ offset is.
    map_yields (as_element table offset) IsElementSegment (vector_yields Anything (any_of number_yields)) (λ xs few. record { offset = is; few = few.1 })))

segment_yields : Yields segment IsByteSegment
segment_yields =
    then_yields number_yields (λ memory any.
    then_yields constant_yields (λ offset is.
    then_yields number_yields (λ count any.
    map_yields (as_segment memory offset) IsByteSegment (bytes_yields count) (λ xs few. record { offset = is; few = few }))))

counted_chosen : (count found : ℕ) (is : Bool) → IsCounted count → (if is then Some count else None) ≡ Some found → IsCounted found
counted_chosen count found true few e = let same : count ≡ found = cc in subst IsCounted same few
counted_chosen count found false few e = let bad : ⊥ = cc in absurd bad

segments_yields : (due : Option ℕ) → Yields (segments due) (λ xs. AllByRecursion IsByteSegment xs × IsCounted (length xs))
segments_yields due =
    vector_of_yields IsCounted IsByteSegment
    (checked_yields (as_counted due) (or_fault CountsDiffer) IsCounted number_yields (λ count found few is. counted_chosen count found (is_counted due count) few is))
    (λ so_far. segment_yields)

-- Bodies.

body_yields : Yields body IsWellFormedBody
body_yields =
    record {
      yields = λ before x after has reads. (
        body_formed before.left x has.are has.few reads.0,
        let empty : HasBytes after = subst HasBytes (sym reads.1) (record { are = tt; few = omega arith }) in empty,
      );
    }

sized_body_yields : Yields sized_body IsWellFormedBody
sized_body_yields =
    then_yields number_yields (λ size any.
    record {
      yields = λ before x after has reads.
          let parts = front_taken before reads.0 after has reads.2.cut in
          let window : HasBytes (window_at CutShort before reads.0) = record { are = parts.0; few = parts.1 } in
          ((body_yields.yields (window_at CutShort before reads.0) x reads.1 window reads.3).0, parts.2);
    })

bodies_yields : (functions : ℕ) → Yields (bodies functions) (λ xs. AllByRecursion IsWellFormedBody xs × Anything (length xs))
bodies_yields functions = vector_of_yields Anything IsWellFormedBody (tested (same_count functions) (or_fault CountsDiffer) number_yields) (λ so_far. sized_body_yields)

-- The windows of the sections hold bytes.

abbrev HaveBytes : List Held → Type 0
HaveBytes [] = Unit {0}
HaveBytes (held ∷ more) = HasBytes held.window × HaveBytes more

abbrev IfWindow : Option Input → Type 0
IfWindow None = Unit {0}
IfWindow (Some window) = HasBytes window

opened_yields : (fault : Fault) (wanted : List ℕ) → Yields (opens_with fault wanted) Anything
opened_yields fault [] = pure_yields Anything tt tt
opened_yields fault (next ∷ more) = then_yields (tested (this next) (always fault) byte_yields) (λ found any. opened_yields fault more)

header_yields : Yields header Anything
header_yields = then_yields (opened_yields (fault_at BadMagic 0) magic) (λ begun any. opened_yields (fault_at BadVersion 4) version)

section_held : (before : Input) (held : Held) (after : Input) → HasBytes before → ReadsSection before held after → HasBytes held.window × HasBytes after
section_held before held after has reads =
    let behind = byte_taken before reads.id reads.behind_id has reads.identified in
    let sized = (number_yields.yields reads.behind_id reads.size reads.behind_size behind reads.sized).1 in
    let parts = front_taken reads.behind_size reads.bytes after sized reads.cut.cut in
    let window : HasBytes (window_at SectionSize reads.behind_size reads.bytes) = record { are = parts.0; few = parts.1 } in
    (subst HasBytes (sym reads.within) window, parts.2)

all_held : (sections : List Held) (before : Input) → HasBytes before → AreSections sections before → HaveBytes sections
all_held [] before has cut = tt
all_held (held ∷ more) before has cut =
    let one = section_held before held cut.0 has cut.1 in (one.0, all_held more cut.0 one.1 cut.2)

chosen_window : (is : Bool) (window : Input) (behind : Option Input) → HasBytes window → IfWindow behind → IfWindow (if is then Some window else behind)
chosen_window true window behind has others = has
chosen_window false window behind has others = others

window_held : (p : Part) (sections : List Held) → HaveBytes sections → IfWindow (window_of p sections)
window_held p [] have = tt
window_held p (held ∷ more) have = chosen_window (is_part p held.what) held.window (window_of p more) have.0 (window_held p more have.1)

-- A part is what it may be, with or without a section.

part_is
    : {A : Type 0} (w : Option Input) {s : Syntax A} {P : A → Type 0} (none x : A) → IfWindow w → IsPart w s none x → Yields s P → P none → P x
part_is None {s} {P} none x has is one holds = subst P (sym is) holds
part_is (Some window) none x has is one holds = (one.yields window x is.0 has is.1).0

pub module_formed : (bytes : List ℕ) (m : Module) → AreBytes bytes → SpellsModule bytes m → IsWellFormed m
module_formed bytes m are spells =
    let is = module_structure bytes m spells in
    let small = is.small in
    let all : HasBytes (beginning bytes) = record { are = are; few = omega arith } in
    let behind = (header_yields.yields (beginning bytes) tt is.behind_header all is.opens).1 in
    let held = all_held is.sections is.behind_header behind is.cut in
    let window : (p : Part) → IfWindow (window_of p is.sections) = λ p. window_held p is.sections held in
    let p = is.parts in
    let in_types = part_is (window_of part.Types is.sections) [] m.types (window part.Types) p.types (vector_within_yields 0 most_types IsFunctionType function_type_yields) (tt, omega arith) in
    let in_imports = part_is (window_of part.Imports is.sections) [] m.imports (window part.Imports) p.imports imports_yields (tt, omega arith) in
    let in_tables = part_is (window_of part.Tables is.sections) [] m.tables (window part.Tables) p.tables (vector_yields IsTableSize table_yields) (tt, omega arith) in
    let in_memories = part_is (window_of part.Memories is.sections) [] m.memories (window part.Memories) p.memories (vector_yields Anything memory_yields) (tt, omega arith) in
    let in_exports = part_is (window_of part.Exports is.sections) [] m.exports (window part.Exports) p.exports (vector_yields IsExport export_yields) (tt, omega arith) in
    let in_elements = part_is (window_of part.Elements is.sections) [] m.elements (window part.Elements) p.elements (vector_yields IsElementSegment element_yields) (tt, omega arith) in
    let in_bodies = part_is (window_of part.Bodies is.sections) [] m.bodies (window part.Bodies) p.bodies (bodies_yields (length m.functions)) (tt, tt) in
    let in_segments = part_is (window_of part.Segments is.sections) [] m.segments (window part.Segments) p.segments (segments_yields is.data_count) (tt, omega arith) in
    let few = imports_few (window_of part.Imports is.sections) m.imports p.imports in
    let few_functions = few.0 in
    let few_globals = few.1 in
    let in_functions = part_is (window_of part.Functions is.sections) [] m.functions (window part.Functions) p.functions (vector_within_yields (imported_functions m.imports) most_functions Anything (any_of number_yields)) (tt, omega arith) in
    let in_globals = part_is (window_of part.Globals is.sections) [] m.globals (window part.Globals) p.globals (vector_within_yields (imported_globals m.imports) most_globals IsGlobal global_yields) (tt, omega arith) in
    record {
      items = record {
        types = in_types.0;
        imports = in_imports.0;
        tables = in_tables.0;
        globals = in_globals.0;
        exports = in_exports.0;
        elements = in_elements.0;
        bodies = in_bodies.0;
        segments = in_segments.0;
      };
      limits = record {
        types = from_zero (length m.types) most_types in_types.1;
        imports = in_imports.1;
        functions = in_functions.1;
        tables = in_tables.1;
        memories = in_memories.1;
        globals = in_globals.1;
        exports = in_exports.1;
        elements = in_elements.1;
        segments = in_segments.1;
      };
      as_many_bodies = is.as_many;
    }

pub module_given
    : (bytes : List ℕ) (result : Result Module CodeFault) → AreBytes bytes → IfOk result (λ parts. SpellsModule bytes parts)
    → IfOk result (λ parts. IsWellFormed parts)
module_given bytes (Ok parts) are found = module_formed bytes parts are found
module_given bytes (Err fault) are found = tt
