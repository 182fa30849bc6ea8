use Rattle.std.proofs.Common.{refl}
use Rattle.wasm_step.proofs.NumericMoves.{popped, select_some, select_next, select_then, select_moves}
use Rattle.wasm_step.proofs.numeric.select.Goals as goal

pub pop-number-requires : goal.pop-number-requires
pop-number-requires c = select_some c.args._program.now c.args.vessel.now c.requires.at

pub pop-second-requires : goal.pop-second-requires
pop-second-requires c = select_next c.args._program.now c.args.vessel.now c.requires.at c.pop-number.new.self c.pop-number.ensures.cells

pub operand-first-requires : goal.operand-first-requires
operand-first-requires c = select_then c.args._program.now c.args.vessel.now c.requires.at c.pop-number.new.self c.pop-second.new.self c.pop-number.ensures.cells c.pop-second.ensures.cells

pub replace_top-requires : goal.replace_top-requires
replace_top-requires c = select_then c.args._program.now c.args.vessel.now c.requires.at c.pop-number.new.self c.pop-second.new.self c.pop-number.ensures.cells c.pop-second.ensures.cells

pub returns-clause-acts : goal.returns-clause-acts
returns-clause-acts c = (refl, select_moves c.args._program.now c.args.vessel.now c.requires.at c.pop-number.new.self c.pop-second.new.self (popped c.pop-second.new.self) c.replace_top.new.vessel c.pop-number.result c.pop-second.result c.operand-first.result c.chosen.result c.pop-number.ensures.value c.pop-number.ensures.cells c.pop-second.ensures.value c.pop-second.ensures.cells c.operand-first.ensures refl c.chosen.ensures c.replace_top.ensures)
