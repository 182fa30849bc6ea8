-- A label is read, or refused, as the next of those that are left.
use Rattle.std.proofs.Common.{◌≡◌, suc, ◌+◌, ◌-◌, ◌∙◌, sym, arith}
use Rattle.std.proofs.lemmas.Result.{err_from_is_err_and}
use Rattle.wasm_code.proofs.LoopSteps.{label_goes, label_fails}
use Rattle.wasm_code.proofs.labels.labels.Goals as goal

pub returns-in_err-label : goal.returns-in_err-label
returns-in_err-label c =
    let p = err_from_is_err_and c.from_residual.result c.from_residual.ensures.1 in
    let e : c.args.count - c.loop.counter ≡ suc (c.args.count - (c.loop.counter + 1)) = omega arith in
    rw (p.1, p.2) (sym c.loop.invariant ∙ label_fails _ _ c.loop.targets.items c.loop.cursor _ e c.in_err-label.ensures.value.0)

pub loop-preserved : goal.loop-preserved
loop-preserved c =
    let e : c.args.count - c.loop.counter ≡ suc (c.args.count - (c.loop.counter + 1)) = omega arith in
    rw c.in_ok-push.ensures.items
    (label_goes _ _ c.loop.targets.items c.loop.cursor c.in_ok-label.label c.u32_leb.new.self e c.in_ok-label.ensures.value ∙ c.loop.invariant)
