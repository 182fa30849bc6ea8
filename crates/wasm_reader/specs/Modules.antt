-- What bytes spell a module, and with which number and at which place bytes are refused as one (WebAssembly Core 1.0, section 5.5.15).
use Rattle.std.specs.Prelude.{◌≡◌, ◌⊎◌, ℕ, ◌<◌, ◌≤◌, ◌==◌, ◌&&◌, if◌then◌else◌, List, [], ◌∷◌, length, Option, Some, None}
use Rattle.wasm_ops.specs.declared.faults.Fault.{Fault}
use Rattle.wasm_ops.specs.declared.faults.Refusal.TheVariants.{BadMagic, BadVersion, CountsDiffer, TooLarge}
use Rattle.wasm_ops.specs.declared.modules.Module.{Module}
use Rattle.wasm_ops.specs.Refusals.{fault_at}
use Rattle.wasm_ops.specs.Input.{Input}
use Rattle.wasm_code.specs.Bodies.{beginning}
use Rattle.wasm_reader.specs.declared.sections.Progress.{Progress}
use Rattle.wasm_reader.specs.Syntax.{Syntax, byte, pure, checked, or_fault, to_end, ◌⨾◌}
use Rattle.wasm_reader.specs.Parts.{this}
use Rattle.wasm_reader.specs.Contents.{is_counted}
use Rattle.wasm_reader.specs.Sections.{one_section}

-- just these bytes, one behind another; a byte that differs has this fault, wherever it stands
abbrev pub always : {A : Type 0} → Fault → (at : ℕ) → A → Fault
always fault at x = fault

abbrev pub opens_with : Fault → List ℕ → Syntax (Unit {0})
opens_with fault [] = pure tt
opens_with fault (wanted ∷ more) = checked (this wanted) (always fault) byte ⨾ λ found. opens_with fault more

-- the header: `\0asm`, and the version 1
abbrev pub magic : List ℕ
magic = 0x00 ∷ 0x61 ∷ 0x73 ∷ 0x6D ∷ []

abbrev pub version : List ℕ
version = 0x01 ∷ 0x00 ∷ 0x00 ∷ 0x00 ∷ []

abbrev pub header : Syntax (Unit {0})
header = opens_with (fault_at BadMagic 0) magic ⨾ λ begun. opens_with (fault_at BadVersion 4) version

-- a module with no parts
abbrev pub no_parts : Module
no_parts = record {
  types = [];
  imports = [];
  functions = [];
  tables = [];
  memories = [];
  globals = [];
  exports = [];
  start = None;
  elements = [];
  bodies = [];
  segments = [];
}

abbrev pub at_start : Progress
at_start = record { last = 0; data_count = None; parts = no_parts }

-- each function has its body, and there are as many data segments as was said: where there is no section of bodies, there is no function, and where there is none of data, the count is 0 or was not said
abbrev pub complete : Progress → Option Module
complete done =
    if is_counted done.data_count (length done.parts.segments) && (length done.parts.bodies == length done.parts.functions)
    then Some done.parts else None

-- the header, the sections up to the end, and at the end as many bodies as functions, and as many data segments as was said
abbrev pub whole_module : Syntax Module
whole_module =
    header ⨾ λ begun. to_end one_section at_start ⨾ λ done. checked complete (or_fault CountsDiffer) (pure done)

-- the most bytes of a module: 4 MiB
abbrev pub most_bytes : ℕ
most_bytes = 4194304

-- the bytes spell the module
pub record SpellsModule (bytes : List ℕ) (parts : Module) : Type 0 where
  pub after : Input
  pub small : length bytes ≤ most_bytes
  pub spelt : whole_module.Reads (beginning bytes) parts after

-- there are too many bytes
pub record TooManyBytes (bytes : List ℕ) (fault : Fault) : Type 0 where
  pub large : most_bytes < length bytes
  pub told : fault ≡ fault_at TooLarge 0

-- all items before the one at hand are spelt, and that one is refused
pub record RefusesItem (bytes : List ℕ) (fault : Fault) : Type 0 where
  pub small : length bytes ≤ most_bytes
  pub refused : whole_module.Refuses (beginning bytes) fault

-- the bytes are refused as a module, with the fault's number at its place
abbrev pub RefusesModule : (bytes : List ℕ) (fault : Fault) → Type 0
RefusesModule bytes fault = TooManyBytes bytes fault ⊎ RefusesItem bytes fault
