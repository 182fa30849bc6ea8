use Rattle.wasm_step.proofs.NumericMoves.{nop_moves}
use Rattle.wasm_step.proofs.numeric.nop.Goals as goal
use Rattle.std.proofs.Common.{refl}

pub returns-clause-acts : goal.returns-clause-acts
returns-clause-acts c = (refl, nop_moves c.args._program.now c.args.vessel.now c.requires.at)
