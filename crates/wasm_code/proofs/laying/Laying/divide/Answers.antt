-- The place of the `else` is one of the operators.
use Rattle.std.proofs.Common.{arith}
use Rattle.wasm_code.proofs.PlacedLaws.{placed_open, placed_pop}
use Rattle.wasm_code.proofs.laying.Laying.divide.Goals as goal

pub invariant_of-self-2 : goal.invariant_of-self-2
invariant_of-self-2 c =
    let are = placed_pop _ _ c.pop.new.self.items c.in-Some.block c.in-Some.ensures.items c.self.invariant in
    rw (c.in_ok-push-2.ensures.items, c.in_ok-push.ensures.items)
    (placed_open c.self.inside.ops.items _ _ c.pop.new.self.items (omega arith, omega arith) are.1)
