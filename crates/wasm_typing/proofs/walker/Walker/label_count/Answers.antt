-- One for each block, and the function's.
use Rattle.std.proofs.Common.{ap, arith}
use Rattle.wasm_typing.specs.Open.{Open}
use Rattle.wasm_typing.proofs.LabelLaws.{count}
use Rattle.wasm_typing.proofs.walker.Walker.label_count.Goals as goal

pub returns : goal.returns
returns c =
    let labels = count c.self.inside.frames.items _ c.args.self.now.blocks.around c.args.scope.now.result (ap (λ (o : Open). o.blocks.around) c.self.view_is) in
    omega (arith, labels)
