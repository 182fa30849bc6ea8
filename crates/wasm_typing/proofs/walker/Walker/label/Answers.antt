-- The label of a block, of the function, and none.
use Rattle.std.proofs.Common.{ap, arith}
use Rattle.wasm_typing.specs.Open.{Open}
use Rattle.wasm_typing.proofs.LabelLaws.{of_block, of_function, of_none}
use Rattle.wasm_typing.proofs.walker.Walker.label.Goals as goal

pub returns-then-label-frames : goal.returns-then-label-frames
returns-then-label-frames c =
    rw (c.label_of.ensures, c.as_slice-frames.ensures.value)
    (of_block c.self.inside.frames.items _ c.args.self.now.blocks.around _ _ _ (ap (λ (o : Open). o.blocks.around) c.self.view_is) (omega arith))

pub returns-then-label-frames-2 : goal.returns-then-label-frames-2
returns-then-label-frames-2 c =
    of_function c.self.inside.frames.items _ c.args.self.now.blocks.around _ _ (ap (λ (o : Open). o.blocks.around) c.self.view_is) (omega arith)

pub returns-else-label-frames-2 : goal.returns-else-label-frames-2
returns-else-label-frames-2 c =
    of_none c.self.inside.frames.items _ c.args.self.now.blocks.around _ _ (ap (λ (o : Open). o.blocks.around) c.self.view_is) (omega arith)
