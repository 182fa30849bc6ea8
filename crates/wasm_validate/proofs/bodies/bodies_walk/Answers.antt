-- One more body.
use Rattle.std.proofs.Common.{◌≡◌, ◌<◌, ◌∙◌, List, length, get_or, ap, arith}
use Rattle.wasm_ops.specs.declared.modules.Body.{Body}
use Rattle.wasm_validate.proofs.BodySteps.{measured_more, body_goes}
use Rattle.wasm_validate.proofs.bodies.bodies_walk.Goals as goal

pub loop-body-preserved : goal.loop-body-preserved
loop-body-preserved c =
    let inv = c.loop-body.invariant in
    let all : c.as_slice-body-items.result.now ≡ c.args.whole.now.bodies = cc (c.as_slice-body-items.ensures, c.module.ensures) in
    let lt : c.loop-body.body-index < length c.args.whole.now.bodies = omega (arith, ap (λ (bs : List Body). length bs) all) in
    let at : c.body-item.result ≡ get_or c.args.whole.now.bodies c.loop-body.body-index c.body-item.result = cc (all, c.body-item.is) in
    record {
      place = omega arith;
      measured = rw c.in_ok-push.ensures.items
          (measured_more c.args.whole.now c.loop-body.body-index c.loop-body.number c.body-item.result c.loop-body.measures.items c.in_ok-body_walk.field-0
          inv.measured lt at inv.place c.in_ok-body_walk.ensures.height c.in_ok-body_walk.ensures.nest);
      same = body_goes c.args.whole.now c.loop-body.body-index c.loop-body.number c.body-item.result lt at inv.place c.in_ok-body_walk.ensures.walked ∙ inv.same;
    }
