use Rattle.std.proofs.Common.{sym, ap, ◌∙◌, arith}
use Rattle.place_lists.proofs.Keeping.{left_counted}
use Rattle.place_lists.specs.Vacating.{PassView}
use Rattle.place_lists.proofs.vacancies.give_all.Goals as goal

pub loop-place-preserved : goal.loop-place-preserved
loop-place-preserved g c =
    let given = c.give.ensures in
    let id = ap (λ (p : PassView). p.id) given in
    let out = ap (λ (p : PassView). p.out) given in
    (sym id ∙ c.loop-place.invariant.0, left_counted c.loop-place.place c.loop-place.pass.out c.give.new.pass.out (omega arith) c.loop-place.invariant.1 out)
