-- The cursor begins at the file's first byte.
use Rattle.std.proofs.Common.{subst, arith}
use Rattle.wasm_ops.specs.Input.{Input}
use Rattle.wasm_code.proofs.BodyAnswers.{begun}
use Rattle.wasm_reader.specs.Modules.{whole_module}
use Rattle.wasm_code.specs.Faults.{Gives}
use Rattle.wasm_reader.proofs.modules.read_whole.Goals as goal

pub returns : goal.returns
returns c =
    let begins = begun c.args.bytes.now c.new-cursor.result _ c.new-cursor.ensures.at c.new-cursor.ensures.left c.new-cursor.ensures.cut (omega arith) in
    let P : Input → Type 0 = λ start. Gives (λ parts. (parts, c.read_from.new.cursor)) c.read_from.result (whole_module.read start) in
    record { whole = (c.read_from.new.cursor, subst P begins c.read_from.ensures) }
