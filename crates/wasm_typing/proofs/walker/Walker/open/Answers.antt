-- The new block stands on the operands that there are.
use Rattle.std.proofs.Common.{ap, arith, ◌∙◌, sym}
use Rattle.wasm_typing.specs.Open.{Open}
use Rattle.wasm_typing.specs.Steps.{goes_on, opened}
use Rattle.wasm_typing.proofs.StackLaws.{opened_is}
use Rattle.wasm_typing.proofs.walker.Walker.open.Goals as goal

pub returns-clause-walked : goal.returns-clause-walked
returns-clause-walked c =
    let made = opened_is c.self.inside.operands.items c.self.inside.frames.items c.push.new.self.items c.args.kind c.args.value c.self.inside.base c.self.inside.loose
    c.self.inside.place c.self.inside.most c.self.inside.deepest c.len-self-inside.result c.max-self-inside.result
    c.in_ok-push.ensures.items c.self.invariant.within (omega arith) (omega arith) in
    ap (λ (o : Open). goes_on (opened c.args.kind c.args.value o)) (sym c.self.view_is) ∙ ap (λ (o : Open). goes_on o) made
