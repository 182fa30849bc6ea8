-- What the locals and the operators are makes the body, or the refusal.
use Rattle.std.proofs.Common.{length, ap, arith}
use Rattle.std.proofs.lemmas.Result.{err_from_is_err_and}
use Rattle.wasm_ops.specs.Input.{Input}
use Rattle.wasm_code.proofs.ItemLaws.{locals_decides}
use Rattle.wasm_code.proofs.ItemFacts.{locals_shorter}
use Rattle.wasm_code.proofs.BodyAnswers.{spelt, locals_refused, operators_refused, begun}
use Rattle.wasm_code.proofs.bodies.read_whole.Goals as goal

pub returns-in_err-locals-clause-refused : goal.returns-in_err-locals-clause-refused
returns-in_err-locals-clause-refused c =
    let p = err_from_is_err_and c.from_residual.result c.from_residual.ensures.1 in
    let begins = begun c.args.bytes.now c.new-cursor.result _ c.new-cursor.ensures.at c.new-cursor.ensures.left c.new-cursor.ensures.cut (omega arith) in
    rw (p.1, p.2) (locals_refused c.args.bytes.now c.in_err-locals.field-0.0 (rw begins at c.in_err-locals.ensures))

pub read_operators-requires : goal.read_operators-requires
read_operators-requires c =
    let begins = begun c.args.bytes.now c.new-cursor.result _ c.new-cursor.ensures.at c.new-cursor.ensures.left c.new-cursor.ensures.cut (omega arith) in
    let same = ap (λ (input : Input). length input.left) begins in
    let reads = (locals_decides c.new-cursor.result).found c.in_ok-locals.locals.items c.read_locals.new.cursor c.in_ok-locals.ensures in
    let shorter = locals_shorter c.new-cursor.result c.in_ok-locals.locals.items c.read_locals.new.cursor reads in
    let size = c.requires.size in
    record { size = omega arith }

pub returns-in_err-ops-clause-refused : goal.returns-in_err-ops-clause-refused
returns-in_err-ops-clause-refused c =
    let p = err_from_is_err_and c.from_residual-in_err-ops.result c.from_residual-in_err-ops.ensures.1 in
    let begins = begun c.args.bytes.now c.new-cursor.result _ c.new-cursor.ensures.at c.new-cursor.ensures.left c.new-cursor.ensures.cut (omega arith) in
    rw (p.1, p.2)
    (operators_refused c.args.bytes.now c.read_locals.new.cursor c.in_ok-locals.locals.items c.in_err-ops.field-0.0
    (rw begins at c.in_ok-locals.ensures) c.in_err-ops.ensures.refused)

pub returns-clause-found : goal.returns-clause-found
returns-clause-found c =
    let begins = begun c.args.bytes.now c.new-cursor.result _ c.new-cursor.ensures.at c.new-cursor.ensures.left c.new-cursor.ensures.cut (omega arith) in
    rw (c.new.ensures, c.new-2.ensures, c.new-3.ensures)
    (spelt c.args.bytes.now c.read_locals.new.cursor c.in_ok-locals.locals.items c.in_ok-ops.ops.items c.in_ok-ops.targets.items
    (rw begins at c.in_ok-locals.ensures) c.in_ok-ops.ensures.found)
