use Rattle.std.proofs.Common.{refl}
use Rattle.wasm_step.proofs.NumericMoves.{drop_some, drop_moves}
use Rattle.wasm_step.proofs.numeric.drop_operand.Goals as goal

pub pop-requires : goal.pop-requires
pop-requires c = drop_some c.args._program.now c.args.vessel.now c.requires.at

pub returns-clause-acts : goal.returns-clause-acts
returns-clause-acts c = (refl, drop_moves c.args._program.now c.args.vessel.now c.requires.at c.pop.new.self c.pop.ensures.cells)
