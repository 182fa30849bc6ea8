-- A module that bytes spell is the header and sections in order, and its parts are what these spell.
use Rattle.std.proofs.Common.{◌≡◌, ℕ, suc, zero, ◌<◌, ◌≤◌, ◌==◌, ◌&&◌, nat_lt, Bool, true, false, if◌then◌else◌, List, [], ◌∷◌, length, Option, Some, None, IfSome, refl, ap, sym, ◌∙◌, subst, arith}
use Rattle.std.proofs.lemmas.Bool.{eqb-true, ltb-true, ne_eqb}
use Rattle.std.specs.List.{AllByRecursion}
use Rattle.wasm_ops.specs.declared.faults.Refusal.TheVariants.{SectionSize}
use Rattle.wasm_ops.specs.declared.modules.Import.{Import}
use Rattle.wasm_ops.specs.declared.modules.Module.{Module}
use Rattle.wasm_ops.specs.Input.{Input, window_at}
use Rattle.wasm_reader.specs.declared.sections.Part.{Part}
use Rattle.wasm_reader.specs.declared.sections.Part.TheVariants as part
use Rattle.wasm_reader.specs.declared.sections.Section.{Section}
use Rattle.wasm_reader.specs.declared.sections.Section.TheVariants as section
use Rattle.wasm_reader.specs.declared.sections.Progress.{Progress}
use Rattle.wasm_reader.specs.Syntax.{Syntax, ReadsSteps, number, map}
use Rattle.wasm_reader.specs.Contents.{types, imports, functions, tables, memories, globals, exports, elements, segments, is_counted}
use Rattle.wasm_reader.specs.Bodies.{bodies}
use Rattle.wasm_reader.specs.Sections.{section_of, rank_of, rank_of_part, in_order, rising, part_of, section_content, one_section}
use Rattle.wasm_reader.specs.Modules.{at_start, no_parts, SpellsModule}
use Rattle.wasm_reader.specs.Structure.{Held, ReadsSection, AreSections, with_rank, ranks_of, Rise, AreNamed, is_part, window_of, is_count, count_window, IsPart, AreParts, IsModule}

-- The ranks are above that of the last section.

abbrev AreAbove : (last : ℕ) → List ℕ → Type 0
AreAbove last ranks = AllByRecursion (λ rank. last < rank) ranks

above_all : (last next : ℕ) (ranks : List ℕ) → last < next → AreAbove next ranks → AreAbove last ranks
above_all last next [] first above = tt
above_all last next (rank ∷ ranks) first above = let behind = above.0 in (omega arith, above_all last next ranks first above.1)

-- a part whose rank is not above those of the sections has none of them
none_at
    : (p : Part) (last : ℕ) (what : Section) (window : Input) (more : List Held) → rank_of_part p ≤ last
    → (AreAbove last (ranks_of more) → window_of p more ≡ None) → AreAbove last (with_rank what (ranks_of more))
    → (if is_part p what then Some window else window_of p more) ≡ None
none_at p last section.Custom window more small behind above = behind above
none_at p last section.DataCount window more small behind above = behind above.1
none_at p last (section.Part other) window more small behind above =
    let first = above.0 in
    let differs : (rank_of_part p == rank_of_part other) ≡ false = ne_eqb (rank_of_part p) (rank_of_part other) (λ same. let bad : ⊥ = omega arith in bad) in
    rw differs (behind above.1)

none_of : (p : Part) (last : ℕ) (sections : List Held) → rank_of_part p ≤ last → AreAbove last (ranks_of sections) → window_of p sections ≡ None
none_of p last [] small above = refl
none_of p last (held ∷ more) small above = none_at p last held.what held.window more small (λ behind. none_of p last more small behind) above

-- nor is there a count of data segments behind the section that may say it, or behind a later one
no_count_at
    : (last : ℕ) (what : Section) (window : Input) (more : List Held) → rank_of section.DataCount ≤ last
    → (AreAbove last (ranks_of more) → count_window more ≡ None) → AreAbove last (with_rank what (ranks_of more))
    → (if is_count what then Some window else count_window more) ≡ None
no_count_at last section.Custom window more small behind above = behind above
no_count_at last section.DataCount window more small behind above = let first = above.0 in let bad : ⊥ = omega arith in absurd bad
no_count_at last (section.Part other) window more small behind above = behind above.1

no_count : (last : ℕ) (sections : List Held) → rank_of section.DataCount ≤ last → AreAbove last (ranks_of sections) → count_window sections ≡ None
no_count last [] small above = refl
no_count last (held ∷ more) small above = no_count_at last held.what held.window more small (λ behind. no_count last more small behind) above

-- What one section gives, where no later one is of its part.

kept_part : {A : Type 0} (w : Option Input) (s : Syntax A) (none x : A) → w ≡ None → IsPart w s none x → x ≡ none
kept_part None s none x e is = is
kept_part (Some window) s none x e is = let bad : ⊥ = cc in absurd bad

spelt_part
    : {A : Type 0} (w : Option Input) (s : Syntax A) (window end : Input) (none v x : A) → w ≡ None → IsPart w s v x
    → s.Reads window v end → end.left ≡ [] → IsPart (Some window) s none x
spelt_part {A} w s window end none v x e is reads ended =
    let P : A → Type 0 = λ z. s.Reads window z end in
    (end, subst P (sym (kept_part w s v x e is)) reads, ended)

abbrev section_with : Part → Input → Held
section_with p window = record { what = section.Part p; window = window }

with_types
    : (window end : Input) (c d : Option ℕ) (m z y : Module) (more : List Held) → (part_of part.Types c m).Reads window z end → end.left ≡ []
    → AreAbove (rank_of_part part.Types) (ranks_of more) → AreParts more c z d y → AreParts (section_with part.Types window ∷ more) c m d y
with_types window end c d m z y more reads ended above is =
    let P : Module → Type 0 = λ n. AreParts more c n d y in
    let held = subst P reads.2 is in
    let none = none_of part.Types (rank_of_part part.Types) more (omega arith) above in
    record {
      data_count = held.data_count;
      types = spelt_part (window_of part.Types more) types window end m.types reads.0 y.types none held.types reads.1 ended;
      imports = held.imports;
      functions = held.functions;
      tables = held.tables;
      memories = held.memories;
      globals = held.globals;
      exports = held.exports;
      start = held.start;
      elements = held.elements;
      bodies = held.bodies;
      segments = held.segments;
    }

with_imports
    : (window end : Input) (c d : Option ℕ) (m z y : Module) (more : List Held) → (part_of part.Imports c m).Reads window z end → end.left ≡ []
    → AreAbove (rank_of_part part.Imports) (ranks_of more) → AreParts more c z d y → AreParts (section_with part.Imports window ∷ more) c m d y
with_imports window end c d m z y more reads ended above is =
    let P : Module → Type 0 = λ n. AreParts more c n d y in
    let held = subst P reads.2 is in
    let none = none_of part.Imports (rank_of_part part.Imports) more (omega arith) above in
    record {
      data_count = held.data_count;
      types = held.types;
      imports = spelt_part (window_of part.Imports more) imports window end m.imports reads.0 y.imports none held.imports reads.1 ended;
      functions = held.functions;
      tables = held.tables;
      memories = held.memories;
      globals = held.globals;
      exports = held.exports;
      start = held.start;
      elements = held.elements;
      bodies = held.bodies;
      segments = held.segments;
    }

with_functions
    : (window end : Input) (c d : Option ℕ) (m z y : Module) (more : List Held) → (part_of part.Functions c m).Reads window z end → end.left ≡ []
    → AreAbove (rank_of_part part.Functions) (ranks_of more) → AreParts more c z d y → AreParts (section_with part.Functions window ∷ more) c m d y
with_functions window end c d m z y more reads ended above is =
    let P : Module → Type 0 = λ n. AreParts more c n d y in
    let held = subst P reads.2 is in
    let none = none_of part.Functions (rank_of_part part.Functions) more (omega arith) above in
    let same : y.imports ≡ m.imports = kept_part (window_of part.Imports more) imports m.imports y.imports (none_of part.Imports (rank_of_part part.Functions) more (omega arith) above) held.imports in
    let Q : List Import → Type 0 = λ xs. (functions xs).Reads window reads.0 end in
    let spelt = subst Q (sym same) reads.1 in
    record {
      data_count = held.data_count;
      types = held.types;
      imports = held.imports;
      functions = spelt_part (window_of part.Functions more) (functions y.imports) window end m.functions reads.0 y.functions none held.functions spelt ended;
      tables = held.tables;
      memories = held.memories;
      globals = held.globals;
      exports = held.exports;
      start = held.start;
      elements = held.elements;
      bodies = held.bodies;
      segments = held.segments;
    }

with_tables
    : (window end : Input) (c d : Option ℕ) (m z y : Module) (more : List Held) → (part_of part.Tables c m).Reads window z end → end.left ≡ []
    → AreAbove (rank_of_part part.Tables) (ranks_of more) → AreParts more c z d y → AreParts (section_with part.Tables window ∷ more) c m d y
with_tables window end c d m z y more reads ended above is =
    let P : Module → Type 0 = λ n. AreParts more c n d y in
    let held = subst P reads.2 is in
    let none = none_of part.Tables (rank_of_part part.Tables) more (omega arith) above in
    record {
      data_count = held.data_count;
      types = held.types;
      imports = held.imports;
      functions = held.functions;
      tables = spelt_part (window_of part.Tables more) tables window end m.tables reads.0 y.tables none held.tables reads.1 ended;
      memories = held.memories;
      globals = held.globals;
      exports = held.exports;
      start = held.start;
      elements = held.elements;
      bodies = held.bodies;
      segments = held.segments;
    }

with_memories
    : (window end : Input) (c d : Option ℕ) (m z y : Module) (more : List Held) → (part_of part.Memories c m).Reads window z end → end.left ≡ []
    → AreAbove (rank_of_part part.Memories) (ranks_of more) → AreParts more c z d y → AreParts (section_with part.Memories window ∷ more) c m d y
with_memories window end c d m z y more reads ended above is =
    let P : Module → Type 0 = λ n. AreParts more c n d y in
    let held = subst P reads.2 is in
    let none = none_of part.Memories (rank_of_part part.Memories) more (omega arith) above in
    record {
      data_count = held.data_count;
      types = held.types;
      imports = held.imports;
      functions = held.functions;
      tables = held.tables;
      memories = spelt_part (window_of part.Memories more) memories window end m.memories reads.0 y.memories none held.memories reads.1 ended;
      globals = held.globals;
      exports = held.exports;
      start = held.start;
      elements = held.elements;
      bodies = held.bodies;
      segments = held.segments;
    }

with_globals
    : (window end : Input) (c d : Option ℕ) (m z y : Module) (more : List Held) → (part_of part.Globals c m).Reads window z end → end.left ≡ []
    → AreAbove (rank_of_part part.Globals) (ranks_of more) → AreParts more c z d y → AreParts (section_with part.Globals window ∷ more) c m d y
with_globals window end c d m z y more reads ended above is =
    let P : Module → Type 0 = λ n. AreParts more c n d y in
    let held = subst P reads.2 is in
    let none = none_of part.Globals (rank_of_part part.Globals) more (omega arith) above in
    let same : y.imports ≡ m.imports = kept_part (window_of part.Imports more) imports m.imports y.imports (none_of part.Imports (rank_of_part part.Globals) more (omega arith) above) held.imports in
    let Q : List Import → Type 0 = λ xs. (globals xs).Reads window reads.0 end in
    let spelt = subst Q (sym same) reads.1 in
    record {
      data_count = held.data_count;
      types = held.types;
      imports = held.imports;
      functions = held.functions;
      tables = held.tables;
      memories = held.memories;
      globals = spelt_part (window_of part.Globals more) (globals y.imports) window end m.globals reads.0 y.globals none held.globals spelt ended;
      exports = held.exports;
      start = held.start;
      elements = held.elements;
      bodies = held.bodies;
      segments = held.segments;
    }

with_exports
    : (window end : Input) (c d : Option ℕ) (m z y : Module) (more : List Held) → (part_of part.Exports c m).Reads window z end → end.left ≡ []
    → AreAbove (rank_of_part part.Exports) (ranks_of more) → AreParts more c z d y → AreParts (section_with part.Exports window ∷ more) c m d y
with_exports window end c d m z y more reads ended above is =
    let P : Module → Type 0 = λ n. AreParts more c n d y in
    let held = subst P reads.2 is in
    let none = none_of part.Exports (rank_of_part part.Exports) more (omega arith) above in
    record {
      data_count = held.data_count;
      types = held.types;
      imports = held.imports;
      functions = held.functions;
      tables = held.tables;
      memories = held.memories;
      globals = held.globals;
      exports = spelt_part (window_of part.Exports more) exports window end m.exports reads.0 y.exports none held.exports reads.1 ended;
      start = held.start;
      elements = held.elements;
      bodies = held.bodies;
      segments = held.segments;
    }

with_start
    : (window end : Input) (c d : Option ℕ) (m z y : Module) (more : List Held) → (part_of part.Start c m).Reads window z end → end.left ≡ []
    → AreAbove (rank_of_part part.Start) (ranks_of more) → AreParts more c z d y → AreParts (section_with part.Start window ∷ more) c m d y
with_start window end c d m z y more reads ended above is =
    let P : Module → Type 0 = λ n. AreParts more c n d y in
    let held = subst P reads.2 is in
    let none = none_of part.Start (rank_of_part part.Start) more (omega arith) above in
    record {
      data_count = held.data_count;
      types = held.types;
      imports = held.imports;
      functions = held.functions;
      tables = held.tables;
      memories = held.memories;
      globals = held.globals;
      exports = held.exports;
      start = spelt_part (window_of part.Start more) (map (λ index. Some index) number) window end m.start (Some reads.0) y.start none held.start (reads.0, reads.1, refl) ended;
      elements = held.elements;
      bodies = held.bodies;
      segments = held.segments;
    }

with_elements
    : (window end : Input) (c d : Option ℕ) (m z y : Module) (more : List Held) → (part_of part.Elements c m).Reads window z end → end.left ≡ []
    → AreAbove (rank_of_part part.Elements) (ranks_of more) → AreParts more c z d y → AreParts (section_with part.Elements window ∷ more) c m d y
with_elements window end c d m z y more reads ended above is =
    let P : Module → Type 0 = λ n. AreParts more c n d y in
    let held = subst P reads.2 is in
    let none = none_of part.Elements (rank_of_part part.Elements) more (omega arith) above in
    record {
      data_count = held.data_count;
      types = held.types;
      imports = held.imports;
      functions = held.functions;
      tables = held.tables;
      memories = held.memories;
      globals = held.globals;
      exports = held.exports;
      start = held.start;
      elements = spelt_part (window_of part.Elements more) elements window end m.elements reads.0 y.elements none held.elements reads.1 ended;
      bodies = held.bodies;
      segments = held.segments;
    }

with_bodies
    : (window end : Input) (c d : Option ℕ) (m z y : Module) (more : List Held) → (part_of part.Bodies c m).Reads window z end → end.left ≡ []
    → AreAbove (rank_of_part part.Bodies) (ranks_of more) → AreParts more c z d y → AreParts (section_with part.Bodies window ∷ more) c m d y
with_bodies window end c d m z y more reads ended above is =
    let P : Module → Type 0 = λ n. AreParts more c n d y in
    let held = subst P reads.2 is in
    let none = none_of part.Bodies (rank_of_part part.Bodies) more (omega arith) above in
    let same : y.functions ≡ m.functions = kept_part (window_of part.Functions more) (functions y.imports) m.functions y.functions (none_of part.Functions (rank_of_part part.Bodies) more (omega arith) above) held.functions in
    let Q : List ℕ → Type 0 = λ xs. (bodies (length xs)).Reads window reads.0 end in
    let spelt = subst Q (sym same) reads.1 in
    record {
      data_count = held.data_count;
      types = held.types;
      imports = held.imports;
      functions = held.functions;
      tables = held.tables;
      memories = held.memories;
      globals = held.globals;
      exports = held.exports;
      start = held.start;
      elements = held.elements;
      bodies = spelt_part (window_of part.Bodies more) (bodies (length y.functions)) window end m.bodies reads.0 y.bodies none held.bodies spelt ended;
      segments = held.segments;
    }

with_segments
    : (window end : Input) (c d : Option ℕ) (m z y : Module) (more : List Held) → (part_of part.Segments c m).Reads window z end → end.left ≡ []
    → AreAbove (rank_of_part part.Segments) (ranks_of more) → AreParts more c z d y → AreParts (section_with part.Segments window ∷ more) c m d y
with_segments window end c d m z y more reads ended above is =
    let P : Module → Type 0 = λ n. AreParts more c n d y in
    let held = subst P reads.2 is in
    let none = none_of part.Segments (rank_of_part part.Segments) more (omega arith) above in
    let same : d ≡ c = kept_part (count_window more) (map (λ count. Some count) number) c d (no_count (rank_of_part part.Segments) more (omega arith) above) held.data_count in
    let Q : Option ℕ → Type 0 = λ due. (segments due).Reads window reads.0 end in
    let spelt = subst Q (sym same) reads.1 in
    record {
      data_count = held.data_count;
      types = held.types;
      imports = held.imports;
      functions = held.functions;
      tables = held.tables;
      memories = held.memories;
      globals = held.globals;
      exports = held.exports;
      start = held.start;
      elements = held.elements;
      bodies = held.bodies;
      segments = spelt_part (window_of part.Segments more) (segments d) window end m.segments reads.0 y.segments none held.segments spelt ended;
    }

with_part
    : (p : Part) (window end : Input) (c d : Option ℕ) (m z y : Module) (more : List Held) → (part_of p c m).Reads window z end → end.left ≡ []
    → AreAbove (rank_of_part p) (ranks_of more) → AreParts more c z d y → AreParts (section_with p window ∷ more) c m d y
with_part part.Types = with_types
with_part part.Imports = with_imports
with_part part.Functions = with_functions
with_part part.Tables = with_tables
with_part part.Memories = with_memories
with_part part.Globals = with_globals
with_part part.Exports = with_exports
with_part part.Start = with_start
with_part part.Elements = with_elements
with_part part.Bodies = with_bodies
with_part part.Segments = with_segments

with_count
    : (window end : Input) (c d : Option ℕ) (count : ℕ) (m y : Module) (more : List Held) → number.Reads window count end → end.left ≡ []
    → AreAbove (rank_of section.DataCount) (ranks_of more) → AreParts more (Some count) m d y
    → AreParts (record { what = section.DataCount; window = window } ∷ more) c m d y
with_count window end c d count m y more reads ended above is =
    let none = no_count (rank_of section.DataCount) more (omega arith) above in
    record {
      data_count = spelt_part (count_window more) (map (λ n. Some n) number) window end c (Some count) d none is.data_count (count, reads, refl) ended;
      types = is.types;
      imports = is.imports;
      functions = is.functions;
      tables = is.tables;
      memories = is.memories;
      globals = is.globals;
      exports = is.exports;
      start = is.start;
      elements = is.elements;
      bodies = is.bodies;
      segments = is.segments;
    }

with_custom
    : (window : Input) (c d : Option ℕ) (m y : Module) (more : List Held) → AreParts more c m d y
    → AreParts (record { what = section.Custom; window = window } ∷ more) c m d y
with_custom window c d m y more is =
    record {
      data_count = is.data_count;
      types = is.types;
      imports = is.imports;
      functions = is.functions;
      tables = is.tables;
      memories = is.memories;
      globals = is.globals;
      exports = is.exports;
      start = is.start;
      elements = is.elements;
      bodies = is.bodies;
      segments = is.segments;
    }

with_none : (c d : Option ℕ) (m y : Module) → d ≡ c → y ≡ m → AreParts [] c m d y
with_none c d m y same_count same =
    record {
      data_count = same_count;
      types = ap (λ (n : Module). n.types) same;
      imports = ap (λ (n : Module). n.imports) same;
      functions = ap (λ (n : Module). n.functions) same;
      tables = ap (λ (n : Module). n.tables) same;
      memories = ap (λ (n : Module). n.memories) same;
      globals = ap (λ (n : Module). n.globals) same;
      exports = ap (λ (n : Module). n.exports) same;
      start = ap (λ (n : Module). n.start) same;
      elements = ap (λ (n : Module). n.elements) same;
      bodies = ap (λ (n : Module). n.bodies) same;
      segments = ap (λ (n : Module). n.segments) same;
    }

-- All sections from a place on.

record Walked (x y : Progress) (before : Input) : Type 0 where
  pub sections : List Held
  pub cut : AreSections sections before
  pub above : AreAbove x.last (ranks_of sections)
  pub rising : Rise (ranks_of sections)
  pub named : AreNamed sections
  pub parts : AreParts sections x.data_count x.parts y.data_count y.parts

chosen_behind : (behind : Bool) (s other : Section) → (if behind then Some s else None) ≡ Some other → (behind ≡ true) × (s ≡ other)
chosen_behind true s other e = let same : s ≡ other = cc in (refl, same)
chosen_behind false s other e = let bad : ⊥ = cc in absurd bad

is_above : (last : ℕ) (s other : Section) → in_order last s ≡ Some other → last < rank_of s
is_above last s other e = ltb-true last (rank_of s) (chosen_behind (nat_lt last (rank_of s)) s other e).0

same_section : (last : ℕ) (s other : Section) → rising last s ≡ Some other → s ≡ other
same_section last section.Custom other e = let same : section.Custom ≡ other = cc in same
same_section last section.DataCount other e = (chosen_behind (nat_lt last (rank_of section.DataCount)) section.DataCount other e).1
same_section last (section.Part p) other e = (chosen_behind (nat_lt last (rank_of_part p)) (section.Part p) other e).1

walk_more
    : (s : Section) (x z : Progress) (window end before there : Input) (y : Progress)
    → ReadsSection before (record { what = s; window = window }) there → rising x.last s ≡ Some s → (section_content s x).Reads window z end
    → Walked z y there → Walked x y before
walk_more section.Custom x z window end before there y spelt rises reads walked =
    let P : Progress → Type 0 = λ p. Walked p y there in
    let more = subst P reads.3.0 walked in
    record {
      sections = record { what = section.Custom; window = window } ∷ more.sections;
      cut = (there, spelt, more.cut);
      above = more.above;
      rising = more.rising;
      named = ((reads.0, reads.1, reads.2), more.named);
      parts = with_custom window x.data_count y.data_count x.parts y.parts more.sections more.parts;
    }
walk_more section.DataCount x z window end before there y spelt rises reads walked =
    let P : Progress → Type 0 = λ p. Walked p y there in
    let more = subst P reads.2 walked in
    let behind = is_above x.last section.DataCount section.DataCount rises in
    record {
      sections = record { what = section.DataCount; window = window } ∷ more.sections;
      cut = (there, spelt, more.cut);
      above = (behind, above_all x.last (rank_of section.DataCount) (ranks_of more.sections) behind more.above);
      rising = (more.above, more.rising);
      named = (tt, more.named);
      parts = with_count window end x.data_count y.data_count reads.0 x.parts y.parts more.sections reads.1.0 reads.1.1 more.above more.parts;
    }
walk_more (section.Part p) x z window end before there y spelt rises reads walked =
    let P : Progress → Type 0 = λ progress. Walked progress y there in
    let more = subst P reads.2 walked in
    let behind = is_above x.last (section.Part p) (section.Part p) rises in
    record {
      sections = section_with p window ∷ more.sections;
      cut = (there, spelt, more.cut);
      above = (behind, above_all x.last (rank_of_part p) (ranks_of more.sections) behind more.above);
      rising = (more.above, more.rising);
      named = (tt, more.named);
      parts = with_part p window end x.data_count y.data_count x.parts reads.0 y.parts more.sections reads.1.0 reads.1.1 more.above more.parts;
    }

walk
    : (count : ℕ) (x : Progress) (before : Input) (y : Progress) (after : Input) → ReadsSteps one_section count x before y after → after.left ≡ []
    → Walked x y before
walk zero x before y after reads ended =
    record {
      sections = [];
      cut = ap (λ (place : Input). place.left) (sym reads.1) ∙ ended;
      above = tt;
      rising = tt;
      named = tt;
      parts = with_none x.data_count y.data_count x.parts y.parts (ap (λ (p : Progress). p.data_count) reads.0) (ap (λ (p : Progress). p.parts) reads.0);
    }
walk (suc count) x before y after reads ended =
    let z = reads.0 in
    let there = reads.1 in
    let walked = walk count z there y after reads.3 ended in
    let one = reads.2 in
    let s = one.0 in
    let named = one.2 in
    let sized = one.3 in
    let held = sized.3 in
    let window = window_at SectionSize sized.1 held.0 in
    let first = named.0 in
    let same = same_section x.last first s named.2 in
    let Known : Section → Type 0 = λ t. section_of named.1.0 ≡ Some t in
    let Rises : Section → Type 0 = λ t. rising x.last t ≡ Some s in
    walk_more s x z window held.1 before there y
    (record {
      id = named.1.0;
      size = sized.0;
      bytes = held.0;
      behind_id = one.1;
      behind_size = sized.1;
      identified = named.1.1;
      known = subst Known same named.1.2;
      sized = sized.2;
      cut = held.2;
      within = refl;
    })
    (subst Rises same named.2) held.3 walked

-- The whole.

chosen_whole
    : (as_said as_many : Bool) (m y : Module) → (if as_said && as_many then Some m else None) ≡ Some y → (as_said ≡ true) × (as_many ≡ true) × (y ≡ m)
chosen_whole true true m y e = let same : m ≡ y = cc in (refl, refl, sym same)
chosen_whole true false m y e = let bad : ⊥ = cc in absurd bad
chosen_whole false as_many m y e = let bad : ⊥ = cc in absurd bad

counted_as_said : (due : Option ℕ) (count : ℕ) → is_counted due count ≡ true → IfSome due (λ n. count ≡ n)
counted_as_said None count e = tt
counted_as_said (Some n) count e = eqb-true count n e

pub module_structure : (bytes : List ℕ) (m : Module) → SpellsModule bytes m → IsModule bytes m
module_structure bytes m spells =
    let header = spells.spelt in
    let sections = header.3 in
    let steps = sections.2 in
    let whole = sections.3 in
    let done = whole.0 in
    let walked = walk steps.0 at_start header.1 sections.0 sections.1 steps.1 steps.2 in
    let chosen = chosen_whole (is_counted done.data_count (length done.parts.segments)) (length done.parts.bodies == length done.parts.functions) done.parts m whole.2 in
    let last = sections.0 in
    let done_same : done ≡ last = whole.1.0 in
    let parts_same : m ≡ last.parts = chosen.2 ∙ ap (λ (p : Progress). p.parts) done_same in
    let Parts : Module → Type 0 = λ n. AreParts walked.sections None no_parts last.data_count n in
    let Same : Module → Type 0 = λ n. length n.bodies ≡ length n.functions in
    let said = counted_as_said done.data_count (length done.parts.segments) chosen.0 in
    let Said : Progress → Type 0 = λ p. IfSome p.data_count (λ n. length p.parts.segments ≡ n) in
    let SaidOf : Module → Type 0 = λ k. IfSome last.data_count (λ n. length k.segments ≡ n) in
    record {
      small = spells.small;
      sections = walked.sections;
      behind_header = header.1;
      opens = header.2;
      cut = walked.cut;
      rising = walked.rising;
      named = walked.named;
      data_count = last.data_count;
      parts = subst Parts (sym parts_same) walked.parts;
      as_many = subst Same (sym chosen.2) (eqb-true (length done.parts.bodies) (length done.parts.functions) chosen.1);
      as_said = subst SaidOf (sym parts_same) (subst Said done_same said);
    }
