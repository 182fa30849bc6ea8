-- The frame that is taken away tells where the list around begins.
use Rattle.std.proofs.Common.{ap, ◌∙◌}
use Rattle.wasm_typing.specs.Open.{Open}
use Rattle.wasm_typing.specs.Steps.{left}
use Rattle.wasm_typing.proofs.StackLaws.{left_is}
use Rattle.wasm_typing.proofs.walker.Walker.leave.Goals as goal

pub returns-in-Some-clause-left : goal.returns-in-Some-clause-left
returns-in-Some-clause-left c =
    left_is c.self.inside.operands.items c.pop.new.self.items c.self.inside.frames.items c.in-Some.frame c.self.inside.base c.self.inside.loose
    c.self.inside.place c.self.inside.most c.self.inside.deepest c.in-Some.ensures.items (ap (λ (o : Open). o.now.types) c.self.view_is ∙ c.requires.emptied)
    ∙ ap left c.self.view_is
