-- The next section is read, or refused, as the next of those that are left.
use Rattle.wasm_reader.specs.Sections.{one_section}
use Rattle.wasm_reader.proofs.SectionLaws.{section_shorter}
use Rattle.wasm_reader.proofs.SectionSteps.{all_left, section_goes}
use Rattle.wasm_reader.proofs.modules.read_sections.Goals as goal

pub sections-init : goal.sections-init
sections-init c = all_left one_section c.args.progress.now c.args.cursor.now

pub sections-preserved : goal.sections-preserved
sections-preserved c =
    section_goes one_section c.sections.progress c.sections.cursor c.read_section.new.progress c.read_section.new.cursor _ c.sections.invariant
    (λ none. let ends = c.is_at_end.ensures.1 none in let bad : ⊥ = cc in bad)
    c.in_ok-read_section.ensures
    (section_shorter c.sections.progress c.read_section.new.progress c.sections.cursor c.read_section.new.cursor c.in_ok-read_section.ensures)

pub sections-smaller : goal.sections-smaller
sections-smaller c = section_shorter c.sections.progress c.read_section.new.progress c.sections.cursor c.read_section.new.cursor c.in_ok-read_section.ensures
