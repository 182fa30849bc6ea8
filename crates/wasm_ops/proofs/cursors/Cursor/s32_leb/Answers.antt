-- A refusal is passed on as it is.
use Rattle.std.proofs.lemmas.Result.{err_from_is_err_and}
use Rattle.wasm_ops.proofs.cursors.Cursor.s32_leb.Goals as goal

pub returns-in_err-number-clause-only_refused : goal.returns-in_err-number-clause-only_refused
returns-in_err-number-clause-only_refused c = λ fault refuses.
    let passed = err_from_is_err_and c.from_residual.result c.from_residual.ensures.1 in
    let refused = c.in_err-number.ensures.only_refused fault refuses in cc
