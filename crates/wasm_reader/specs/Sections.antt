-- The sections of a module, in their order (WebAssembly Core 1.0, sections 5.5.2 and 5.5.3; Core 2.0, sections 5.5.2 and 5.5.15, for the count of data segments).
use Rattle.std.specs.Prelude.{ℕ, ◌==◌, nat_lt, if◌then◌else◌, length, Option, Some, None}
use Rattle.wasm_ops.specs.declared.faults.Refusal.TheVariants.{SectionOrder, SectionSize, UnknownSection}
use Rattle.wasm_ops.specs.declared.modules.Module.{Module}
use Rattle.wasm_reader.specs.declared.sections.Part.{Part}
use Rattle.wasm_reader.specs.declared.sections.Part.TheVariants as part
use Rattle.wasm_reader.specs.declared.sections.Section.{Section}
use Rattle.wasm_reader.specs.declared.sections.Section.TheVariants as section
use Rattle.wasm_reader.specs.declared.sections.Progress.{Progress}
use Rattle.wasm_reader.specs.Syntax.{Syntax, byte, number, pure, map, checked, or_fault, inside, exactly, ◌⨾◌}
use Rattle.wasm_reader.specs.Parts.{name}
use Rattle.wasm_reader.specs.Contents.{types, imports, functions, tables, memories, globals, exports, elements, segments}
use Rattle.wasm_reader.specs.Bodies.{bodies}

-- the section with an id
abbrev pub section_of : (id : ℕ) → Option Section
section_of id =
    if id == 0 then Some section.Custom
    else (if id == 1 then Some (section.Part part.Types)
    else (if id == 2 then Some (section.Part part.Imports)
    else (if id == 3 then Some (section.Part part.Functions)
    else (if id == 4 then Some (section.Part part.Tables)
    else (if id == 5 then Some (section.Part part.Memories)
    else (if id == 6 then Some (section.Part part.Globals)
    else (if id == 7 then Some (section.Part part.Exports)
    else (if id == 8 then Some (section.Part part.Start)
    else (if id == 9 then Some (section.Part part.Elements)
    else (if id == 10 then Some (section.Part part.Bodies)
    else (if id == 11 then Some (section.Part part.Segments)
    else (if id == 12 then Some section.DataCount
    else None))))))))))))

-- where a section stands in the order of sections: that of the ids, but the count of data segments stands before the bodies
abbrev pub rank_of_part : Part → ℕ
rank_of_part part.Types = 1
rank_of_part part.Imports = 2
rank_of_part part.Functions = 3
rank_of_part part.Tables = 4
rank_of_part part.Memories = 5
rank_of_part part.Globals = 6
rank_of_part part.Exports = 7
rank_of_part part.Start = 8
rank_of_part part.Elements = 9
rank_of_part part.Bodies = 11
rank_of_part part.Segments = 12

abbrev pub rank_of : Section → ℕ
rank_of section.Custom = 0
rank_of section.DataCount = 10
rank_of (section.Part p) = rank_of_part p

-- a section stands behind those with lower ranks, the last of which has this one
abbrev pub in_order : (last : ℕ) → Section → Option Section
in_order last s = if nat_lt last (rank_of s) then Some s else None

-- and a custom one stands anywhere
abbrev pub rising : (last : ℕ) → Section → Option Section
rising last section.Custom = Some section.Custom
rising last section.DataCount = in_order last section.DataCount
rising last (section.Part p) = in_order last (section.Part p)

abbrev pub section_id : (last : ℕ) → Syntax Section
section_id last = checked (rising last) (or_fault SectionOrder) (checked section_of (or_fault UnknownSection) byte)

-- the module with one more part, from what stands in the section, where so many data segments are due, if that was said
abbrev pub part_of : Part → (due : Option ℕ) → Module → Syntax Module
part_of part.Types due m = map (λ xs. record m { types = xs }) types
part_of part.Imports due m = map (λ xs. record m { imports = xs }) imports
part_of part.Functions due m = map (λ xs. record m { functions = xs }) (functions m.imports)
part_of part.Tables due m = map (λ xs. record m { tables = xs }) tables
part_of part.Memories due m = map (λ xs. record m { memories = xs }) memories
part_of part.Globals due m = map (λ xs. record m { globals = xs }) (globals m.imports)
part_of part.Exports due m = map (λ xs. record m { exports = xs }) exports
part_of part.Start due m = map (λ index. record m { start = Some index }) number
part_of part.Elements due m = map (λ xs. record m { elements = xs }) elements
part_of part.Bodies due m = map (λ xs. record m { bodies = xs }) (bodies (length m.functions))
part_of part.Segments due m = map (λ xs. record m { segments = xs }) (segments due)

abbrev pub after_part : Part → Progress → Module → Progress
after_part p so_far m = record { last = rank_of_part p; data_count = so_far.data_count; parts = m }

abbrev pub after_count : Progress → (count : ℕ) → Progress
after_count so_far count = record { last = rank_of section.DataCount; data_count = Some count; parts = so_far.parts }

-- what stands in a section: a custom one begins with a name, and its other bytes are not read; any other one is read to its end
abbrev pub section_content : Section → Progress → Syntax Progress
section_content section.Custom so_far = name ⨾ λ own. pure so_far
section_content section.DataCount so_far = map (after_count so_far) (exactly SectionSize number)
section_content (section.Part p) so_far = map (after_part p so_far) (exactly SectionSize (part_of p so_far.data_count so_far.parts))

-- a section: its id, the size of what it holds, and that; an item that passes the section's end is refused for its size
abbrev pub one_section : (so_far : Progress) → Syntax Progress
one_section so_far = section_id so_far.last ⨾ λ s. number ⨾ λ size. inside size SectionSize (section_content s so_far)
