-- A group is read, or refused, as the next of those that are left.
use Rattle.std.proofs.Common.{◌≡◌, suc, ◌+◌, ◌-◌, ◌∙◌, arith}
use Rattle.std.proofs.lemmas.Result.{err_from_is_err_and}
use Rattle.wasm_code.proofs.LoopSteps.{group_goes, groups_refused}
use Rattle.wasm_code.proofs.locals.read_groups.Goals as goal

pub returns-in_err-read_group : goal.returns-in_err-read_group
returns-in_err-read_group c =
    let p = err_from_is_err_and c.from_residual.result c.from_residual.ensures.1 in
    let e : c.args.groups - c.loop.counter ≡ suc (c.args.groups - (c.loop.counter + 1)) = omega arith in
    rw (p.1, p.2) (groups_refused _ _ c.loop.locals.items c.loop.cursor _ c.in_err-read_group.field-0.0 e c.loop.invariant.same c.in_err-read_group.ensures.read)

pub loop-preserved : goal.loop-preserved
loop-preserved c =
    let e : c.args.groups - c.loop.counter ≡ suc (c.args.groups - (c.loop.counter + 1)) = omega arith in
    record {
      same = group_goes _ _ c.loop.locals.items c.loop.cursor c.read_group.new.locals.items c.read_group.new.cursor e c.in_ok-read_group.ensures.read ∙ c.loop.invariant.same;
      few = c.in_ok-read_group.ensures.few;
    }
