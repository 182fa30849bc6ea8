-- One more body.
use Rattle.std.proofs.Common.{◌≡◌, ◌≤◌, List, length, map, arith, ap, ◌∙◌}
use Rattle.std.proofs.lemmas.List.{take_all}
use Rattle.wasm_ops.specs.declared.modules.Body.{Body}
use Rattle.wasm_meaning.specs.Programs.{defined}
use Rattle.wasm_meaning.specs.State.{Function}
use Rattle.wasm_instance.specs.Callees.{shape_of}
use Rattle.wasm_instance.proofs.Functions.{as_many, shapes_more}
use Rattle.wasm_instance.proofs.tables.shapes_of.Goals as goal

pub loop-body-preserved : goal.loop-body-preserved
loop-body-preserved c = record {
  place = omega arith;
  shapes =
      shapes_more c.args.valid.now c.loop-body.body-index c.loop-body.number c.loop-body.all.items c.push.new.self.items c.shape_at.result
      c.loop-body.invariant.place c.loop-body.invariant.shapes c.shape_at.ensures c.in_ok-push.ensures.items;
}

pub returns : goal.returns
returns c =
    let all : c.as_slice-body-items.result.now ≡ c.args.valid.now.bodies = cc (c.as_slice-body-items.ensures, c.module.ensures.same) in
    let many = as_many c.args.valid.now c.module.ensures.valid.formed in
    let end : length (defined c.args.valid.now) ≤ c.loop-body.body-index = omega (arith, many, ap (λ (bs : List Body). length bs) all, c.loop-body-test.false) in
    c.loop-body.invariant.shapes
    ∙ ap (λ (fs : List Function). map shape_of fs) (take_all c.loop-body.body-index (defined c.args.valid.now) end)
