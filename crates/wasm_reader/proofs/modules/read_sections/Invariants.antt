-- The sections that are left are those of the whole.
use Rattle.std.proofs.Common.{length}
use Rattle.wasm_reader.specs.Sections.{one_section}
use Rattle.wasm_reader.specs.Syntax.{to_end}
use Rattle.wasm_reader.proofs.SectionSteps.{StepsLeft}
use Rattle.wasm_reader.proofs.modules.read_sections.Given as goal

abbrev pub invariant-sections : goal.invariant-sections
invariant-sections l = StepsLeft one_section l.progress l.cursor ((to_end one_section l.fn.progress).read l.fn.cursor)

abbrev pub decreases-sections : goal.decreases-sections
decreases-sections l = length l.cursor.left
