-- All items so far are cut, and laid out.
use Rattle.std.proofs.Common.{length}
use Rattle.wasm_code.proofs.OperatorSteps.{SoFar}
use Rattle.wasm_code.proofs.bodies.read_operators.Given as goal

abbrev pub invariant-items : goal.invariant-items
invariant-items l = SoFar l.fn.cursor l.laying l.targets.items l.cursor

abbrev pub decreases-items : goal.decreases-items
decreases-items l = length l.cursor.left
