-- What a program has before it when it begins fits what typing knows.
use Rattle.std.proofs.Common.{◌≡◌, ℕ, zero, suc, ◌+◌, ◌-◌, ◌*◌, ◌<◌, ◌≤◌, Bool, true, false, not, ◌||◌, nat_lt, List, [], ◌∷◌, ◌++◌, length, map, take, drop, replicate, Option, Some, None, Ok, slice_get, refl, sym, ap, subst, ◌∙◌, option_and_then, arith}
use Rattle.std.proofs.lemmas.Bool.Decides.{nat_tests}
use Rattle.std.proofs.lemmas.List.{length-replicate}
use Rattle.std.specs.List.{AllByRecursion, list_all, cons_option}
use Rattle.wasm_ops.specs.Limits.{imported_functions}
use Rattle.wasm_ops.specs.WellFormed.{IsGlobal}
use Rattle.wasm_ops.specs.Values.{IsOfType}
use Rattle.wasm_ops.specs.declared.modules.ByteSegment.{ByteSegment}
use Rattle.wasm_ops.specs.declared.modules.ElementSegment.{ElementSegment}
use Rattle.wasm_ops.specs.declared.modules.GlobalDef.{GlobalDef}
use Rattle.wasm_ops.specs.declared.modules.Import.{Import}
use Rattle.wasm_ops.specs.declared.modules.ImportItem.{ImportItem}
use Rattle.wasm_ops.specs.declared.modules.ImportItem.TheVariants as item
use Rattle.wasm_ops.specs.declared.modules.Module.{Module}
use Rattle.wasm_ops.specs.declared.types.FuncType.{FuncType}
use Rattle.wasm_ops.specs.declared.types.Limits.{Limits}
use Rattle.wasm_ops.specs.declared.types.ValType.{ValType}
use Rattle.wasm_ops.specs.declared.types.ValType.TheVariants.{I32, I64}
use Rattle.wasm_meaning.specs.declared.blocks.GlobalType.{GlobalType}
use Rattle.wasm_meaning.specs.declared.links.LinkRule.TheVariants.{SegmentRange, TooManyPages}
use Rattle.wasm_meaning.specs.declared.violations.Rule.TheVariants.{UnknownIndex, ConstantType, TwoMemories, MemoryLimits}
use Rattle.wasm_meaning.specs.Bytes.{page, zeros, with_bytes, size_of}
use Rattle.wasm_meaning.specs.Fitting.{AreOf, types_of, HasType}
use Rattle.wasm_meaning.specs.Linking.{first_refused, import_refusal, item_refusal, host_in, told_at, broken_unless, entry_refusal, export_named, entry_name, element_refusal, bytes_refusal, link_refusal, least_of, first_pages, first_elements}
use Rattle.wasm_meaning.specs.Programs.{Program, IsProgram, limited_to, greatest, most, first_global, with_segments, first_memory, laid, with_elements, first_table, fresh_store, first}
use Rattle.wasm_meaning.specs.Validity.{is_unknown, are_known, is_above, exceeds, most_pages, function_rule, memory_rule, global_rule, element_rule, has_memory, functions_walk, memories_walk, globals_walk, elements_walk, module_walk}
use Rattle.wasm_meaning.specs.TypingOperands.{same_type}
use Rattle.wasm_meaning.specs.ValiditySpaces.{as_global, imported, functions, tables, globals, defined_global}
use Rattle.wasm_meaning.specs.Values.{value_of, has_type}
use Rattle.wasm_meaning.proofs.Fits.{same_types_equal, has_value_of}
use Rattle.wasm_meaning.proofs.MemoryLaws.{length-with_bytes}
use Rattle.wasm_meaning.proofs.ModuleFacts.{At, get_at, get_defined, all_at, all_joined, all_taken, all_dropped, and_both, not_false, below_of, is_less, each_keeps, keeps_rule, none_of_all, not_told, first_is_fine, holds_unless}
use Rattle.wasm_meaning.proofs.SafeInstances.{imports_link, imported_has_type}
use Rattle.wasm_pending.proofs.Entries.{walks, entries_enter}
use Rattle.wasm_pending.specs.Typed.{IsRanged, AreRanged, MemoryWithin, StoreTyped, Idle}

-- Globals.

-- a module that links imports functions alone
no_globals : (types : List FuncType) (imports : List Import) (at : ℕ) → first_refused (import_refusal types) at imports ≡ None → imported as_global imports ≡ []
no_globals types [] at e = refl
no_globals types (import ∷ imports) at e =
    let both = first_is_fine (import_refusal types) at import imports e in
    ap (λ (o : Option GlobalType). cons_option o (imported as_global imports)) (none_here (host_in import.«module» import.name) import.item both.0)
    ∙ no_globals types imports (at + 1) both.1
  where
    none_here : (o : Option _) (i : ImportItem) → item_refusal types o i ≡ None → as_global i ≡ None
    none_here o (item.Function index) e = refl
    none_here o (item.Table limits) e = refl
    none_here o (item.Memory limits) e = refl
    none_here o (item.Global value mutable) e = let bad : ⊥ = cc in absurd bad

globals_are : (gs : List GlobalDef) → ((j : ℕ) (g : GlobalDef) → slice_get gs j ≡ Some g → same_type g.value g.first.value ≡ true) → AreOf (types_of (map defined_global gs)) (map first_global gs)
globals_are [] same = tt
globals_are (g ∷ gs) same =
    let equal = same_types_equal g.value g.first.value (same 0 g refl) in
    (subst (λ (t : ValType). has_type t (first_global g) ≡ true) (sym equal) (has_value_of g.first.value g.first.bits), globals_are gs (λ j h e. same (suc j) h e))

global_is_typed : (m : Module) → globals_walk m ≡ Ok tt → (j : ℕ) (g : GlobalDef) → slice_get m.globals j ≡ Some g → same_type g.value g.first.value ≡ true
unfolding globals_walk
global_is_typed m passes j g is =
    let k = each_keeps (λ before global. global_rule global) m.globals j g passes is in
    not_false (same_type g.value g.first.value) (keeps_rule (not (same_type g.value g.first.value)) ConstantType [] k.none).0

variables_fit : (m : Module) (pages : ℕ) → module_walk m ≡ Ok tt → link_refusal m pages ≡ None → AreOf (types_of (globals m)) (map first_global m.globals)
variables_fit m pages valid links =
    let none = no_globals m.types m.imports 0 (imports_link m pages links) in
    subst (λ (gs : List GlobalType). AreOf (types_of (gs ++ map defined_global m.globals)) (map first_global m.globals)) (sym none)
    (globals_are m.globals (global_is_typed m (walks m valid).globals_pass))

constant_ranged : (t : ValType) (n : ℕ) → IsOfType t n → IsRanged (value_of t n)
constant_ranged I32 n is = is
constant_ranged I64 n is = is

globals_ranged : (gs : List GlobalDef) → AllByRecursion IsGlobal gs → AreRanged (map first_global gs)
globals_ranged [] all = tt
globals_ranged (g ∷ gs) all = (constant_ranged g.first.value g.first.bits all.0, globals_ranged gs all.1)

-- The table.

-- a place of the table is empty, or has a function of the module
abbrev IsElement : Module → Option ℕ → Type 0
IsElement m None = Unit {0}
IsElement m (Some index) = HasType m index

none_elements : (m : Module) (count : ℕ) → AllByRecursion (IsElement m) (replicate count None)
none_elements m zero = tt
none_elements m (suc count) = (tt, none_elements m count)

all_elements
    : (m : Module) (indices : List ℕ) → ((index : ℕ) → index < length (functions m) → HasType m index) → are_known (length (functions m)) indices ≡ true
    → AllByRecursion (IsElement m) (map (λ (index : ℕ). Some index) indices)
all_elements m [] has known = tt
all_elements m (index ∷ indices) has known =
    let both = and_both (nat_lt index (length (functions m))) (list_all (λ (i : ℕ). nat_lt i (length (functions m))) indices) known in
    (has index (is_less index (length (functions m)) both.0), all_elements m indices has both.1)

elements_laid
    : (m : Module) (table : List (Option ℕ)) (segments : List ElementSegment)
    → ((j : ℕ) (s : ElementSegment) → slice_get segments j ≡ Some s → AllByRecursion (IsElement m) (map (λ (index : ℕ). Some index) s.functions))
    → AllByRecursion (IsElement m) table → AllByRecursion (IsElement m) (with_elements table segments)
elements_laid m table [] each all = all
elements_laid m table (s ∷ segments) each all =
    let others = map (λ (index : ℕ). Some index) s.functions in
    elements_laid m (laid table s.offset.bits others) segments (λ j t e. each (suc j) t e)
    (all_joined (IsElement m) (take s.offset.bits table) (others ++ drop (s.offset.bits + length others) table)
    (all_taken (IsElement m) s.offset.bits table all)
    (all_joined (IsElement m) others (drop (s.offset.bits + length others) table) (each 0 s refl)
    (all_dropped (IsElement m) (s.offset.bits + length others) table all)))

element_is_known
    : (m : Module) → elements_walk m ≡ Ok tt → (j : ℕ) (s : ElementSegment) → slice_get m.elements j ≡ Some s → are_known (length (functions m)) s.functions ≡ true
unfolding elements_walk
element_is_known m passes j s is =
    let k = each_keeps (λ before element. element_rule (length (tables m)) (length (functions m)) element) m.elements j s passes is in
    let a = keeps_rule (is_unknown (length (tables m)) s.table) UnknownIndex ((not (same_type I32 s.offset.value), ConstantType) ∷ (not (are_known (length (functions m)) s.functions), UnknownIndex) ∷ []) k.none in
    let b = keeps_rule (not (same_type I32 s.offset.value)) ConstantType ((not (are_known (length (functions m)) s.functions), UnknownIndex) ∷ []) a.1 in
    not_false (are_known (length (functions m)) s.functions) (keeps_rule (not (are_known (length (functions m)) s.functions)) UnknownIndex [] b.1).0

-- each function has a type
type_is_known : (m : Module) → functions_walk m ≡ Ok tt → (j type : ℕ) → slice_get m.functions j ≡ Some type → type < length m.types
unfolding functions_walk
type_is_known m passes j type is =
    let k = each_keeps (λ before t. function_rule (length m.types) t) m.functions j type passes is in
    below_of (length m.types) type (keeps_rule (is_unknown (length m.types) type) UnknownIndex [] k.none).0

typed_at : (m : Module) (index type : ℕ) → slice_get (functions m) index ≡ Some type → type < length m.types → HasType m index
typed_at m index type is below =
    let t = get_at m.types type below in
    record { type = t.item; is = ap (λ (o : Option ℕ). option_and_then (slice_get m.types) o) is ∙ t.is }

function_has_type : (m : Module) (pages : ℕ) → module_walk m ≡ Ok tt → link_refusal m pages ≡ None → (index : ℕ) → index < length (functions m) → HasType m index
function_has_type m pages valid links index below = of_index (get_at (functions m) index below)
  where
    of_index : At (functions m) index → HasType m index
    of_index a = by (nat_lt index (imported_functions m.imports)) refl
      where
        by : (b : Bool) → nat_lt index (imported_functions m.imports) ≡ b → HasType m index
        by true e = imported_has_type m pages links index (is_less index (imported_functions m.imports) e)
        by false e =
            let le : imported_functions m.imports ≤ index = grind (arith, nat_tests) in
            let place : imported_functions m.imports + (index - imported_functions m.imports) ≡ index = omega (arith, le) in
            let own : slice_get m.functions (index - imported_functions m.imports) ≡ Some a.item
            = sym (get_defined m (index - imported_functions m.imports))
            ∙ ap (λ (k : ℕ). slice_get (functions m) k) place ∙ a.is in
            typed_at m index a.item a.is (type_is_known m (walks m valid).functions_pass (index - imported_functions m.imports) a.item own)

-- Memory.

-- the checks of a module that links, by the lists that they are of
record Links (m : Module) (pages : ℕ) : Type 0 where
  few : broken_unless TooManyPages (not (nat_lt pages (first_pages m))) ≡ None
  segments : first_refused (bytes_refusal (first_pages m * page)) 0 m.segments ≡ None

links_all : (m : Module) (pages : ℕ) → link_refusal m pages ≡ None → Links m pages
unfolding link_refusal
links_all m pages links =
    let a = none_of_all (first_refused (import_refusal m.types) 0 m.imports) _ links in
    let b = none_of_all (told_at 0 (entry_refusal m (export_named entry_name m.exports))) _ a.1 in
    let c = none_of_all (told_at 0 (broken_unless TooManyPages (not (nat_lt pages (first_pages m))))) _ b.1 in
    let d = none_of_all (first_refused (element_refusal (first_elements m)) 0 m.elements) _ c.1 in
    let e = none_of_all (first_refused (bytes_refusal (first_pages m * page)) 0 m.segments) _ d.1 in
    record { few = not_told 0 (broken_unless TooManyPages (not (nat_lt pages (first_pages m)))) c.0; segments = e.0 }

not_less : (a b : ℕ) → not (nat_lt a b) ≡ true → b ≤ a
not_less a b e = by (nat_lt a b) refl e
  where
    by : (x : Bool) → nat_lt a b ≡ x → not x ≡ true → b ≤ a
    by true is e = let bad : ⊥ = cc in absurd bad
    by false is e = grind (arith, nat_tests)

segments_length
    : (bytes : ℕ) (segments : List ByteSegment) (at : ℕ) (memory : List ℕ) → first_refused (bytes_refusal bytes) at segments ≡ None → length memory ≡ bytes
    → length (with_segments memory segments) ≡ bytes
segments_length bytes [] at memory e same = same
segments_length bytes (s ∷ segments) at memory e same =
    let both = first_is_fine (bytes_refusal bytes) at s segments e in
    let fits = not_less bytes (s.offset.bits + length s.bytes) (holds_unless SegmentRange (not (nat_lt bytes (s.offset.bits + length s.bytes))) both.0) in
    let here = length-with_bytes memory s.offset.bits s.bytes (omega (arith, fits, same)) in
    segments_length bytes segments (at + 1) (with_bytes memory s.offset.bits s.bytes) both.1 (here ∙ same)

not_above : (size most : ℕ) → nat_lt most size ≡ false → size ≤ most
not_above size most e = grind (arith, nat_tests)

memory_rule_keeps : (another : Bool) (limits : Limits) → memory_rule another limits ≡ None → is_above limits.least limits.most ≡ false
memory_rule_keeps another limits e =
    let a = keeps_rule another TwoMemories ((nat_lt most_pages limits.least, MemoryLimits) ∷ (exceeds limits.most most_pages, MemoryLimits) ∷ (is_above limits.least limits.most, MemoryLimits) ∷ []) e in
    let b = keeps_rule (nat_lt most_pages limits.least) MemoryLimits ((exceeds limits.most most_pages, MemoryLimits) ∷ (is_above limits.least limits.most, MemoryLimits) ∷ []) a.1 in
    let c = keeps_rule (exceeds limits.most most_pages) MemoryLimits ((is_above limits.least limits.most, MemoryLimits) ∷ []) b.1 in
    (keeps_rule (is_above limits.least limits.most) MemoryLimits [] c.1).0

memory_limits : (m : Module) → memories_walk m ≡ Ok tt → (j : ℕ) (limits : Limits) → slice_get m.memories j ≡ Some limits → is_above limits.least limits.most ≡ false
unfolding memories_walk
memory_limits m passes j limits is =
    let k = each_keeps (λ before l. memory_rule (has_memory m.imports || nat_lt 0 (length before)) l) m.memories j limits passes is in
    memory_rule_keeps (has_memory m.imports || nat_lt 0 (length k.before)) limits k.none

least_within : (pages : ℕ) (memories : List Limits) → ((limits : Limits) → slice_get memories 0 ≡ Some limits → is_above limits.least limits.most ≡ false) → least_of memories ≤ pages → least_of memories ≤ greatest pages memories
least_within pages [] keeps few = omega arith
least_within pages (limits ∷ memories) keeps few = by limits.most (keeps limits refl)
  where
    by : (o : Option ℕ) → is_above limits.least o ≡ false → limits.least ≤ limited_to pages o
    by None e = few
    by (Some most) e = let below = not_above limits.least most e in omega (arith, below, few)

pub first_within : (program : Program) → IsProgram program → MemoryWithin (most program) (first_memory program.linked)
first_within program is =
    let m = program.linked in
    let l = links_all m program.pages is.links in
    let few = not_less program.pages (first_pages m) (holds_unless TooManyPages (not (nat_lt program.pages (first_pages m))) l.few) in
    let long = segments_length (first_pages m * page) m.segments 0 (zeros (first_pages m * page)) l.segments (length-replicate {A = ℕ} (first_pages m * page) 0) in
    let size : size_of (first_memory m) ≡ first_pages m = omega (arith, long) in
    let least = least_within program.pages m.memories (λ limits e. memory_limits m (walks m is.valid).memories_pass 0 limits e) few in
    record { whole = omega (arith, long, size); within = omega (arith, size, least) }

-- The state.

pub first_store : (program : Program) → IsProgram program → (body : List ℕ) → StoreTyped program (fresh_store program.linked body)
first_store program is body =
    let m = program.linked in
    let all = elements_laid m (replicate (first_elements m) None) m.elements
    (λ j s e. all_elements m s.functions (function_has_type m program.pages is.valid is.links) (element_is_known m (walks m is.valid).elements_pass j s e))
    (none_elements m (first_elements m)) in
    record {
      fits = record {
        variables = variables_fit m program.pages is.valid is.links;
        table = λ place index e. all_at (IsElement m) (first_table m) place (Some index) all e;
      };
      memory = first_within program is;
      globals = globals_ranged m.globals is.formed.items.globals;
    }

-- no call is live where a program begins
pub first_idle : (program : Program) → IsProgram program → (body : List ℕ) → Idle program (first program body)
first_idle program is body = record {
  no_sequence = refl;
  no_operands = refl;
  no_locals = refl;
  no_cells = refl;
  entries = entries_enter program is;
  store = first_store program is body;
}
