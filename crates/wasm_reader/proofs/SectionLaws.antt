-- The sections of a module are read as their syntaxes have them, and each takes a byte.
use Rattle.std.proofs.Common.{◌≡◌, ℕ, ◌<◌, ◌≤◌, List, length, Option, Some, Ok, ap, arith, length-append}
use Rattle.wasm_ops.specs.declared.faults.Refusal.TheVariants.{SectionOrder, SectionSize, UnknownSection}
use Rattle.wasm_ops.specs.declared.modules.Module.{Module}
use Rattle.wasm_ops.specs.declared.numbers.Sign.TheVariants.{Unsigned}
use Rattle.wasm_ops.specs.Input.{Input}
use Rattle.wasm_ops.specs.NumberInput.{ReadsNumber}
use Rattle.wasm_ops.proofs.InputLaws.{spelt-shorter}
use Rattle.wasm_code.specs.Reading.{ReadsByte}
use Rattle.wasm_reader.specs.declared.sections.Part.{Part}
use Rattle.wasm_reader.specs.declared.sections.Part.TheVariants as part
use Rattle.wasm_reader.specs.declared.sections.Section.{Section}
use Rattle.wasm_reader.specs.declared.sections.Section.TheVariants as section
use Rattle.wasm_reader.specs.declared.sections.Progress.{Progress}
use Rattle.wasm_reader.specs.Syntax.{ReadsBytes, or_fault}
use Rattle.wasm_reader.specs.Sections.{section_of, rising, section_id, part_of, after_part, after_count, section_content, one_section}
use Rattle.wasm_reader.proofs.SyntaxLaws.{IsDecidedBy, byte_decided, number_decided, pure_decided, map_decided, checked_decided, inside_decided, exactly_decided, ◌⨾⨾◌}
use Rattle.wasm_reader.proofs.StepLaws.{TakesBytes}
use Rattle.wasm_reader.proofs.PartLaws.{name_decided}
use Rattle.wasm_reader.proofs.ContentLaws.{types_decided, imports_decided, functions_decided, tables_decided, memories_decided, globals_decided, exports_decided, elements_decided, segments_decided}
use Rattle.wasm_reader.proofs.BodyLaws.{bodies_decided}

pub section_id_decided : (last : ℕ) → IsDecidedBy (section_id last)
section_id_decided last = checked_decided (rising last) (or_fault SectionOrder) (checked_decided section_of (or_fault UnknownSection) byte_decided)

part_decided : (p : Part) (due : Option ℕ) (m : Module) → IsDecidedBy (part_of p due m)
part_decided part.Types due m = map_decided (λ xs. record m { types = xs }) types_decided
part_decided part.Imports due m = map_decided (λ xs. record m { imports = xs }) imports_decided
part_decided part.Functions due m = map_decided (λ xs. record m { functions = xs }) (functions_decided m.imports)
part_decided part.Tables due m = map_decided (λ xs. record m { tables = xs }) tables_decided
part_decided part.Memories due m = map_decided (λ xs. record m { memories = xs }) memories_decided
part_decided part.Globals due m = map_decided (λ xs. record m { globals = xs }) (globals_decided m.imports)
part_decided part.Exports due m = map_decided (λ xs. record m { exports = xs }) exports_decided
part_decided part.Start due m = map_decided (λ index. record m { start = Some index }) number_decided
part_decided part.Elements due m = map_decided (λ xs. record m { elements = xs }) elements_decided
part_decided part.Bodies due m = map_decided (λ xs. record m { bodies = xs }) (bodies_decided (length m.functions))
part_decided part.Segments due m = map_decided (λ xs. record m { segments = xs }) (segments_decided due)

section_content_decided : (s : Section) (so_far : Progress) → IsDecidedBy (section_content s so_far)
section_content_decided section.Custom so_far = name_decided ⨾⨾ λ own. pure_decided so_far
section_content_decided section.DataCount so_far = map_decided (after_count so_far) (exactly_decided SectionSize number_decided)
section_content_decided (section.Part p) so_far = map_decided (after_part p so_far) (exactly_decided SectionSize (part_decided p so_far.data_count so_far.parts))

pub one_section_decided : (so_far : Progress) → IsDecidedBy (one_section so_far)
one_section_decided so_far =
    section_id_decided so_far.last ⨾⨾ λ s. number_decided ⨾⨾ λ size. inside_decided size SectionSize (section_content_decided s so_far)

-- its id is a byte, and nothing behind that gives one back

byte_taken : (before : Input) (byte : ℕ) (after : Input) → ReadsByte before byte after → length after.left < length before.left
byte_taken before byte after reads = let lengths = ap (λ (xs : List ℕ). length xs) reads.next in omega arith

number_taken : (before : Input) (n : ℕ) (after : Input) → ReadsNumber Unsigned 32 before n after → length after.left < length before.left
number_taken before n after reads = spelt-shorter Unsigned 32 before.left n after.left reads.spelt

bytes_taken : (count : ℕ) (before : Input) (xs : List ℕ) (after : Input) → ReadsBytes count before xs after → length after.left ≤ length before.left
bytes_taken count before xs after reads = omega (arith, ap (λ (ys : List ℕ). length ys) reads.cut, length-append xs after.left)

pub one_section_takes : (so_far : Progress) → TakesBytes (one_section so_far)
one_section_takes so_far =
    record {
      fewer = λ before y after reads.
          let id = reads.2.1 in
          let sized = reads.3 in
          let held = sized.3 in
          let begun = byte_taken before id.0 reads.1 id.1 in
          let counted = number_taken reads.1 sized.0 sized.1 sized.2 in
          let rest = bytes_taken sized.0 sized.1 held.0 after held.2 in omega arith;
    }

pub section_shorter
    : (so_far new : Progress) (before after : Input) → (one_section so_far).read before ≡ Ok (new, after) → length after.left < length before.left
section_shorter so_far new before after e = (one_section_takes so_far).fewer before new after (((one_section_decided so_far).decides before).found new after e)
