-- What the validity and the linking of a program say of its first memory and table.
use Rattle.std.proofs.Common.{◌≡◌, ℕ, ◌+◌, ◌*◌, ◌≤◌, Bool, true, false, cond, not, ◌||◌, nat_lt, nat_le, List, [], ◌∷◌, ◌++◌, length, replicate, Option, Some, None, Ok, slice_get, refl, ap, ◌∙◌, arith}
use Rattle.std.proofs.lemmas.Bool.Decides.{nat_tests}
use Rattle.std.proofs.lemmas.List.{length-replicate}
use Rattle.std.specs.Prelude.{unwrap_or}
use Rattle.wasm_ops.specs.declared.modules.ByteSegment.{ByteSegment}
use Rattle.wasm_ops.specs.declared.modules.ElementSegment.{ElementSegment}
use Rattle.wasm_ops.specs.declared.modules.Module.{Module}
use Rattle.wasm_ops.specs.declared.types.Limits.{Limits}
use Rattle.wasm_meaning.specs.declared.links.LinkRule.TheVariants.{TooManyPages}
use Rattle.wasm_meaning.specs.declared.violations.Rule.TheVariants.{TwoMemories, MemoryLimits}
use Rattle.wasm_meaning.specs.Bytes.{page, zeros, grown}
use Rattle.wasm_meaning.specs.Linking.{told_at, first_refused, broken_unless, import_refusal, entry_refusal, export_named, entry_name, least_of, first_pages, first_elements, element_refusal, bytes_refusal, link_refusal}
use Rattle.wasm_meaning.specs.Programs.{Program, IsProgram, limited_to, greatest, most, with_segments, first_memory}
use Rattle.wasm_meaning.specs.Validity.{is_above, exceeds, most_pages, memory_rule, has_memory, imports_walk, functions_walk, tables_walk, memories_walk, globals_walk, exports_walk, start_walk, elements_walk, segments_walk, bodies_walk, outside_walk, module_walk}
use Rattle.wasm_meaning.proofs.ModuleFacts.{passes_both, each_keeps, keeps_rule, none_of_all, not_told, holds_unless}
use Rattle.wasm_store.specs.View.{View}

-- The checks of linking that passed.

pub record Passed (m : Module) (pages : ℕ) : Type 0 where
  pub few_pages : first_pages m ≤ pages
  pub elements : first_refused (element_refusal (first_elements m)) 0 m.elements ≡ None
  pub segments : first_refused (bytes_refusal (first_pages m * page)) 0 m.segments ≡ None

pub passed : (m : Module) (pages : ℕ) → link_refusal m pages ≡ None → Passed m pages
unfolding link_refusal
passed m pages links =
    let imports = first_refused (import_refusal m.types) 0 m.imports in
    let entry = told_at 0 (entry_refusal m (export_named entry_name m.exports)) in
    let few = told_at 0 (broken_unless TooManyPages (not (nat_lt pages (first_pages m)))) in
    let elements = first_refused (element_refusal (first_elements m)) 0 m.elements in
    let segments = first_refused (bytes_refusal (first_pages m * page)) 0 m.segments in
    let a = none_of_all imports (entry ∷ few ∷ elements ∷ segments ∷ []) links in
    let b = none_of_all entry (few ∷ elements ∷ segments ∷ []) a.1 in
    let c = none_of_all few (elements ∷ segments ∷ []) b.1 in
    let d = none_of_all elements (segments ∷ []) c.1 in
    let e = none_of_all segments [] d.1 in
    let enough = holds_unless TooManyPages (not (nat_lt pages (first_pages m))) (not_told 0 (broken_unless TooManyPages (not (nat_lt pages (first_pages m)))) c.0) in
    record { few_pages = not_more pages (first_pages m) enough; elements = d.0; segments = e.0 }
  where
    not_more : (given first : ℕ) → not (nat_lt given first) ≡ true → first ≤ given
    not_more given first e = grind (arith, nat_tests)

-- The memory.

memories_pass : (m : Module) → module_walk m ≡ Ok tt → memories_walk m ≡ Ok tt
unfolding module_walk outside_walk
memories_pass m valid =
    let outside = (passes_both (outside_walk m) (bodies_walk m ∷ []) valid).0 in
    let a = passes_both (imports_walk m) (functions_walk m ∷ tables_walk m ∷ memories_walk m ∷ globals_walk m ∷ exports_walk m ∷ start_walk m ∷ elements_walk m ∷ segments_walk m ∷ []) outside in
    let b = passes_both (functions_walk m) (tables_walk m ∷ memories_walk m ∷ globals_walk m ∷ exports_walk m ∷ start_walk m ∷ elements_walk m ∷ segments_walk m ∷ []) a.1 in
    let c = passes_both (tables_walk m) (memories_walk m ∷ globals_walk m ∷ exports_walk m ∷ start_walk m ∷ elements_walk m ∷ segments_walk m ∷ []) b.1 in
    (passes_both (memories_walk m) (globals_walk m ∷ exports_walk m ∷ start_walk m ∷ elements_walk m ∷ segments_walk m ∷ []) c.1).0

-- no memory is larger at first than its own greatest size
not_above : (m : Module) → module_walk m ≡ Ok tt → (limits : Limits) → slice_get m.memories 0 ≡ Some limits → is_above limits.least limits.most ≡ false
unfolding memories_walk
not_above m valid limits is =
    let k = each_keeps (λ before l. memory_rule (has_memory m.imports || nat_lt 0 (length before)) l) m.memories 0 limits (memories_pass m valid) is in
    let another = has_memory m.imports || nat_lt 0 (length k.before) in
    let a = keeps_rule another TwoMemories ((nat_lt most_pages limits.least, MemoryLimits) ∷ (exceeds limits.most most_pages, MemoryLimits) ∷ (is_above limits.least limits.most, MemoryLimits) ∷ []) k.none in
    let b = keeps_rule (nat_lt most_pages limits.least) MemoryLimits ((exceeds limits.most most_pages, MemoryLimits) ∷ (is_above limits.least limits.most, MemoryLimits) ∷ []) a.1 in
    let c = keeps_rule (exceeds limits.most most_pages) MemoryLimits ((is_above limits.least limits.most, MemoryLimits) ∷ []) b.1 in
    (keeps_rule (is_above limits.least limits.most) MemoryLimits [] c.1).0

limited : (least : ℕ) (o : Option ℕ) (pages : ℕ) → least ≤ pages → is_above least o ≡ false → least ≤ limited_to pages o
limited least None pages few below = few
limited least (Some greatest_size) pages few below =
    let own : least ≤ greatest_size = grind (arith, nat_tests) in omega (arith, few, own)

-- a memory has no more pages at first than it may have
pub first_fits : (program : Program) → IsProgram program → first_pages program.linked ≤ most program
first_fits program is = by program.linked.memories refl (passed program.linked program.pages is.links).few_pages
  where
    by : (memories : List Limits) → program.linked.memories ≡ memories → least_of memories ≤ program.pages → least_of memories ≤ greatest program.pages memories
    by [] e few = omega arith
    by (limits ∷ others) e few =
        limited limits.least limits.most program.pages few
        (not_above program.linked is.valid limits (ap (λ (all : List Limits). slice_get all 0) e))

-- so many pages of a memory that had none
first_bytes : (by limit : ℕ) → by ≤ limit → unwrap_or (grown [] by limit) [] ≡ zeros (by * page)
first_bytes by limit few =
    let fits : nat_le (0 + by) limit ≡ true = grind (arith, nat_tests) in
    ap (λ (b : Bool). unwrap_or (cond b (Some (zeros (by * page))) None) []) fits

grown_from_none
    : (old : View) (first limit : ℕ) → old.memory ≡ [] → first ≤ limit
    → unwrap_or (grown old.memory first limit) old.memory ≡ zeros (first * page)
grown_from_none old first limit none few = ap (λ (memory : List ℕ). unwrap_or (grown memory first limit) memory) none ∙ first_bytes first limit few

-- the memory that a program has at first, grown from none
pub grown_first
    : (program : Program) (old after : View) (m : Module) (first limit : ℕ) → IsProgram program → m ≡ program.linked → first ≡ first_pages m → limit ≡ most program
    → old.memory ≡ [] → after ≡ record old { memory = unwrap_or (grown old.memory first limit) old.memory }
    → after ≡ record old { memory = zeros (first_pages program.linked * page) }
grown_first program old after m first limit is same count greatest_is none grew =
    let first_is : first ≡ first_pages program.linked = count ∙ ap (λ (x : Module). first_pages x) same in
    let fits : first ≤ limit = omega (arith, first_fits program is, first_is, greatest_is) in
    grew ∙ ap (λ (memory : List ℕ). record old { memory = memory }) (grown_from_none old first limit none fits)
    ∙ ap (λ (n : ℕ). record old { memory = zeros (n * page) }) first_is

-- the data segments lie within it
pub segments_fit
    : (program : Program) (old after : View) (m : Module) (segments : List ByteSegment) → IsProgram program → m ≡ program.linked → segments ≡ m.segments
    → after ≡ record old { memory = zeros (first_pages program.linked * page) }
    → first_refused (bytes_refusal (length after.memory)) 0 segments ≡ None
segments_fit program old after m segments is same all grew =
    let long : length after.memory ≡ first_pages program.linked * page =
    ap (λ (v : View). length v.memory) grew ∙ length-replicate (first_pages program.linked * page) 0 in
    ap (λ (n : ℕ). first_refused (bytes_refusal n) 0 segments) long
    ∙ ap (λ (ss : List ByteSegment). first_refused (bytes_refusal (first_pages program.linked * page)) 0 ss) (all ∙ ap (λ (x : Module). x.segments) same)
    ∙ (passed program.linked program.pages is.links).segments

-- and are laid on it
pub laid_first
    : (program : Program) (old after last : View) (m : Module) (segments : List ByteSegment) → m ≡ program.linked → segments ≡ m.segments
    → after ≡ record old { memory = zeros (first_pages program.linked * page) } → last ≡ record after { memory = with_segments after.memory segments }
    → last ≡ record old { memory = first_memory program.linked }
laid_first program old after last m segments same all grew laid =
    laid ∙ ap (λ (v : View). record v { memory = with_segments v.memory segments }) grew
    ∙ ap (λ (ss : List ByteSegment). record old { memory = with_segments (zeros (first_pages program.linked * page)) ss }) (all ∙ ap (λ (x : Module). x.segments) same)

-- The table.

-- the element segments lie within the table that a program has at first
pub elements_fit
    : (program : Program) (old after : View) (m : Module) (count : ℕ) (segments : List ElementSegment) → IsProgram program → m ≡ program.linked
    → count ≡ first_elements m → segments ≡ m.elements → old.table ≡ [] → after ≡ record old { table = old.table ++ replicate count None }
    → first_refused (element_refusal (length after.table)) 0 segments ≡ None
elements_fit program old after m count segments is same many all none added =
    let long : length after.table ≡ first_elements program.linked =
    ap (λ (v : View). length v.table) added ∙ ap (λ (table : List (Option ℕ)). length (table ++ replicate count None)) none
    ∙ length-replicate count None ∙ many ∙ ap (λ (x : Module). first_elements x) same in
    ap (λ (n : ℕ). first_refused (element_refusal n) 0 segments) long
    ∙ ap (λ (ss : List ElementSegment). first_refused (element_refusal (first_elements program.linked)) 0 ss) (all ∙ ap (λ (x : Module). x.elements) same)
    ∙ (passed program.linked program.pages is.links).elements
