use Rattle.std.proofs.Common.{refl}
use Rattle.wasm_step.proofs.NumericMoves.{popped, unary_some, unary_one, unary_operand, unary_moves}
use Rattle.wasm_step.proofs.numeric.unary.Goals as goal

pub operand-operand-requires : goal.operand-operand-requires
operand-operand-requires c = unary_some c.args._program.now c.args.vessel.now c.args.operator c.requires.at

pub apply_unary-requires-clause-takes_one : goal.apply_unary-requires-clause-takes_one
apply_unary-requires-clause-takes_one c = unary_one c.args._program.now c.args.vessel.now c.args.operator c.requires.at

pub apply_unary-requires-clause-a_of_its_type : goal.apply_unary-requires-clause-a_of_its_type
apply_unary-requires-clause-a_of_its_type c = unary_operand c.args._program.now c.args.vessel.now c.args.operator c.requires.at c.operand-operand.result c.operand-operand.ensures

pub replace_top-requires : goal.replace_top-requires
replace_top-requires c = unary_some c.args._program.now c.args.vessel.now c.args.operator c.requires.at

pub returns-clause-acts : goal.returns-clause-acts
returns-clause-acts c = (refl, unary_moves c.args._program.now c.args.vessel.now c.args.operator c.requires.at (popped c.args.vessel.now) c.replace_top.new.vessel c.operand-operand.result c.apply_unary.result c.operand-operand.ensures refl c.apply_unary.ensures.value c.apply_unary.ensures.of_its_type c.replace_top.ensures)
