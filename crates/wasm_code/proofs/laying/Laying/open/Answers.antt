-- The new block is placed, and the others stay so.
use Rattle.std.proofs.Common.{arith}
use Rattle.wasm_code.proofs.PlacedLaws.{placed_push, placed_open, first_placed}
use Rattle.wasm_code.proofs.laying.Laying.open.Goals as goal

pub invariant_of-self-in_err-push-2 : goal.invariant_of-self-in_err-push-2
invariant_of-self-in_err-push-2 c = rw (c.in_err-push-2.ensures.items, c.in_ok-push.ensures.items) (placed_push _ _ _ c.self.invariant)

pub invariant_of-self-2 : goal.invariant_of-self-2
invariant_of-self-2 c =
    rw (c.in_ok-push-2.ensures.items, c.in_ok-push.ensures.items)
    (placed_open c.self.inside.ops.items _ _ c.self.inside.blocks.items (omega arith, rw c.stage_of.ensures (first_placed _ _)) c.self.invariant)
