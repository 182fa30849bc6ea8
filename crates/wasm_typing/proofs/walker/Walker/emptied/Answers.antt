-- There are operands above the base.
use Rattle.std.proofs.Common.{ap, arith, ◌<◌, length}
use Rattle.wasm_typing.specs.Open.{Open}
use Rattle.wasm_typing.proofs.StackLaws.{some_left, length-own}
use Rattle.wasm_typing.proofs.walker.Walker.emptied.Goals as goal

pub returns-else-len-self-clause-told : goal.returns-else-len-self-clause-told
returns-else-len-self-clause-told c =
    let types = ap (λ (o : Open). length o.now.types) c.self.view_is in
    let some : 0 < length c.args.self.now.now.types = omega (arith, length-own c.self.inside.base c.self.inside.operands.items, types, c.self.invariant.within) in
    some_left c.args.self.now.now.types c.args.self.now.now c.breach.result.rule c.breach.result.place some c.breach.ensures.rule c.breach.ensures.place
