-- A module as the standard has it: the header and sections, of which each but the custom ones comes at most once and in order, and what the parts of the module are by them (WebAssembly Core 1.0, sections 5.5.2, 5.5.3 and 5.5.15; Core 2.0, sections 5.5.2, 5.5.15 and 5.5.16, for the count of data segments).
use Rattle.std.specs.Prelude.{◌≡◌, ℕ, ◌<◌, ◌≤◌, ◌==◌, Bool, true, false, if◌then◌else◌, List, [], ◌∷◌, length, Option, Some, None, IfSome}
use Rattle.std.specs.List.{AllByRecursion}
use Rattle.wasm_ops.specs.declared.faults.Refusal.TheVariants.{SectionSize}
use Rattle.wasm_ops.specs.declared.modules.Module.{Module}
use Rattle.wasm_ops.specs.Input.{Input, window_at}
use Rattle.wasm_code.specs.Bodies.{beginning}
use Rattle.wasm_code.specs.Reading.{ReadsByte}
use Rattle.wasm_reader.specs.declared.sections.Part.{Part}
use Rattle.wasm_reader.specs.declared.sections.Part.TheVariants as part
use Rattle.wasm_reader.specs.declared.sections.Section.{Section}
use Rattle.wasm_reader.specs.declared.sections.Section.TheVariants as section
use Rattle.wasm_reader.specs.Syntax.{Syntax, number, map, ReadsBytes}
use Rattle.wasm_reader.specs.Parts.{name}
use Rattle.wasm_reader.specs.Contents.{types, imports, functions, tables, memories, globals, exports, elements, segments}
use Rattle.wasm_reader.specs.Bodies.{bodies}
use Rattle.wasm_reader.specs.Sections.{section_of, rank_of, rank_of_part}
use Rattle.wasm_reader.specs.Modules.{header, no_parts, most_bytes}

-- a section: what it holds, and the window of that
pub record Held : Type 0 where
  pub what : Section
  pub window : Input

-- a section is spelt: its id, the size of what it holds, and as many bytes
pub record ReadsSection (before : Input) (held : Held) (after : Input) : Type 0 where
  pub id : ℕ
  pub size : ℕ
  pub bytes : List ℕ
  pub behind_id : Input
  pub behind_size : Input
  pub identified : ReadsByte before id behind_id
  pub known : section_of id ≡ Some held.what
  pub sized : number.Reads behind_id size behind_size
  pub cut : ReadsBytes size behind_size bytes after
  pub within : held.window ≡ window_at SectionSize behind_size bytes

-- sections, one behind another, up to the end
abbrev pub AreSections : List Held → Input → Type 0
AreSections [] before = before.left ≡ []
AreSections (held ∷ more) before = (after : Input) × ReadsSection before held after × AreSections more after

-- the ranks of those that are not custom
abbrev pub with_rank : Section → List ℕ → List ℕ
with_rank section.Custom ranks = ranks
with_rank section.DataCount ranks = rank_of section.DataCount ∷ ranks
with_rank (section.Part p) ranks = rank_of_part p ∷ ranks

abbrev pub ranks_of : List Held → List ℕ
ranks_of [] = []
ranks_of (held ∷ more) = with_rank held.what (ranks_of more)

-- each number is below all those behind it
abbrev pub Rise : List ℕ → Type 0
Rise [] = Unit {0}
Rise (n ∷ more) = AllByRecursion (λ other. n < other) more × Rise more

-- a custom section begins with a name
abbrev pub IsNamed : Section → Input → Type 0
IsNamed section.Custom window = (text : List ℕ) × (after : Input) × name.Reads window text after
IsNamed section.DataCount window = Unit {0}
IsNamed (section.Part p) window = Unit {0}

abbrev pub AreNamed : List Held → Type 0
AreNamed [] = Unit {0}
AreNamed (held ∷ more) = IsNamed held.what held.window × AreNamed more

-- what the first section of a part holds, if there is one
abbrev pub is_part : Part → Section → Bool
is_part p section.Custom = false
is_part p section.DataCount = false
is_part p (section.Part other) = rank_of_part p == rank_of_part other

abbrev pub window_of : Part → List Held → Option Input
window_of p [] = None
window_of p (held ∷ more) = if is_part p held.what then Some held.window else window_of p more

-- what the first section holds that says how many data segments there are, if there is one
abbrev pub is_count : Section → Bool
is_count section.Custom = false
is_count section.DataCount = true
is_count (section.Part p) = false

abbrev pub count_window : List Held → Option Input
count_window [] = None
count_window (held ∷ more) = if is_count held.what then Some held.window else count_window more

-- a part is what its section spells, all of it; without a section it is what stands for none
abbrev pub IsPart : {A : Type 0} → Option Input → Syntax A → (none x : A) → Type 0
IsPart None syntax_of none x = x ≡ none
IsPart (Some window) syntax_of none x = (end : Input) × syntax_of.Reads window x end × (end.left ≡ [])

-- all parts of a module and what is said of its data segments, by the sections; without a section a part is as in another module
pub record AreParts (sections : List Held) (not_said : Option ℕ) (none : Module) (due : Option ℕ) (m : Module) : Type 0 where
  pub data_count : IsPart (count_window sections) (map (λ count. Some count) number) not_said due
  pub types : IsPart (window_of part.Types sections) types none.types m.types
  pub imports : IsPart (window_of part.Imports sections) imports none.imports m.imports
  pub functions : IsPart (window_of part.Functions sections) (functions m.imports) none.functions m.functions
  pub tables : IsPart (window_of part.Tables sections) tables none.tables m.tables
  pub memories : IsPart (window_of part.Memories sections) memories none.memories m.memories
  pub globals : IsPart (window_of part.Globals sections) (globals m.imports) none.globals m.globals
  pub exports : IsPart (window_of part.Exports sections) exports none.exports m.exports
  pub start : IsPart (window_of part.Start sections) (map (λ index. Some index) number) none.start m.start
  pub elements : IsPart (window_of part.Elements sections) elements none.elements m.elements
  pub bodies : IsPart (window_of part.Bodies sections) (bodies (length m.functions)) none.bodies m.bodies
  pub segments : IsPart (window_of part.Segments sections) (segments due) none.segments m.segments

-- the bytes are the header and sections in order, and the module's parts are what these spell
pub record IsModule (bytes : List ℕ) (m : Module) : Type 0 where
  pub small : length bytes ≤ most_bytes
  pub sections : List Held
  pub behind_header : Input
  pub opens : header.Reads (beginning bytes) tt behind_header
  pub cut : AreSections sections behind_header
  pub rising : Rise (ranks_of sections)
  pub named : AreNamed sections
  pub data_count : Option ℕ
  pub parts : AreParts sections None no_parts data_count m
  pub as_many : length m.bodies ≡ length m.functions
  pub as_said : IfSome data_count (λ due. length m.segments ≡ due)
