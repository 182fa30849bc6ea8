-- The blocks around the one that ends stay placed.
use Rattle.std.proofs.Common.{arith}
use Rattle.wasm_code.proofs.PlacedLaws.{placed_more, placed_pop, length-filled}
use Rattle.wasm_code.proofs.laying.Laying.close.Goals as goal

pub invariant_of-self-2 : goal.invariant_of-self-2
invariant_of-self-2 c =
    let are = placed_pop _ _ c.pop.new.self.items c.in-Some.block c.in-Some.ensures.items c.self.invariant in
    placed_more _ _ _ (omega (arith, c.in_ok-push-2.ensures.len, length-filled c.in-Some.block.stage c.in-Some.block.result c.in-Some.block.at c.len-end.result c.self.inside.ops.items)) are.1
