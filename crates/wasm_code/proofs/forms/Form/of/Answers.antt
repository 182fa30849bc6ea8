-- The byte is that of an integer operator, or of none.
use Rattle.std.proofs.Common.{sym, ◌∙◌}
use Rattle.wasm_code.proofs.FormSteps.{integer_form, other_form}
use Rattle.wasm_code.proofs.forms.Form.of.Goals as goal

pub returns-in-Some : goal.returns-in-Some
returns-in-Some c =
    rw (c.bare.ensures, c.integer.ensures)
    (integer_form c.args.byte c.in-Some.op c.operation.result (sym c.from_byte.ensures ∙ c.in-Some.is) c.operation.ensures)

pub returns-in-None : goal.returns-in-None
returns-in-None c = rw c.other.ensures (other_form c.args.byte (sym c.from_byte.ensures ∙ c.in-None.is))
