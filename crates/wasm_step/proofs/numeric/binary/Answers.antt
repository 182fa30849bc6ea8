use Rattle.std.proofs.Common.{refl}
use Rattle.wasm_step.proofs.NumericMoves.{popped, binary_some, binary_next, binary_two, binary_second, binary_operand, binary_moves, binary_stops}
use Rattle.wasm_step.proofs.numeric.binary.Goals as goal

pub pop-second-requires : goal.pop-second-requires
pop-second-requires c = binary_some c.args._program.now c.args.vessel.now c.args.operator c.requires.at

pub operand-first-requires : goal.operand-first-requires
operand-first-requires c = binary_next c.args._program.now c.args.vessel.now c.args.operator c.requires.at c.pop-second.new.self c.pop-second.ensures.cells

pub apply_binary-requires-clause-takes_two : goal.apply_binary-requires-clause-takes_two
apply_binary-requires-clause-takes_two c = binary_two c.args._program.now c.args.vessel.now c.args.operator c.requires.at

pub apply_binary-requires-clause-a_of_its_type : goal.apply_binary-requires-clause-a_of_its_type
apply_binary-requires-clause-a_of_its_type c = binary_operand c.args._program.now c.args.vessel.now c.args.operator c.requires.at c.pop-second.new.self c.operand-first.result c.pop-second.ensures.cells c.operand-first.ensures

pub apply_binary-requires-clause-b_of_its_type : goal.apply_binary-requires-clause-b_of_its_type
apply_binary-requires-clause-b_of_its_type c = binary_second c.args._program.now c.args.vessel.now c.args.operator c.requires.at c.pop-second.result c.pop-second.ensures.value

pub replace_top-requires : goal.replace_top-requires
replace_top-requires c = binary_next c.args._program.now c.args.vessel.now c.args.operator c.requires.at c.pop-second.new.self c.pop-second.ensures.cells

pub returns-in-Ok-clause-acts : goal.returns-in-Ok-clause-acts
returns-in-Ok-clause-acts c = (refl, binary_moves c.args._program.now c.args.vessel.now c.args.operator c.requires.at c.pop-second.new.self (popped c.pop-second.new.self) c.replace_top.new.vessel c.pop-second.result c.operand-first.result c.in-Ok.number c.pop-second.ensures.value c.pop-second.ensures.cells c.operand-first.ensures refl c.in-Ok.ensures.value c.in-Ok.ensures.of_its_type c.replace_top.ensures)

pub returns-in-Err-clause-acts : goal.returns-in-Err-clause-acts
returns-in-Err-clause-acts c = (refl, binary_stops c.args._program.now c.args.vessel.now c.args.operator c.requires.at c.pop-second.new.self c.pop-second.result c.operand-first.result c.in-Err.trap c.pop-second.ensures.value c.pop-second.ensures.cells c.operand-first.ensures c.in-Err.ensures.value)
