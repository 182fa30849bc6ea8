use Rattle.std.proofs.Common.{refl}
use Rattle.wasm_step.proofs.NumericMoves.{unreachable_stops}
use Rattle.wasm_step.proofs.numeric.unreachable_operator.Goals as goal

pub returns-clause-acts : goal.returns-clause-acts
returns-clause-acts c = (refl, unreachable_stops c.args._program.now c.args.vessel.now c.requires.at)
