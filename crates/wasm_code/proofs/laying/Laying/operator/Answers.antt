-- The open blocks stay placed.
use Rattle.wasm_code.proofs.PlacedLaws.{placed_push}
use Rattle.wasm_code.proofs.laying.Laying.operator.Goals as goal

pub invariant_of-self-2 : goal.invariant_of-self-2
invariant_of-self-2 c = rw c.in_ok-push.ensures.items (placed_push _ _ _ c.self.invariant)
