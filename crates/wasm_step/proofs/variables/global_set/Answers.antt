use Rattle.std.proofs.Common.{refl}
use Rattle.wasm_step.proofs.VariableMoves.{global_set_some, global_set_within, global_set_moves}
use Rattle.wasm_step.proofs.variables.global_set.Goals as goal

pub pop-value-requires : goal.pop-value-requires
pop-value-requires c = global_set_some c.args._program.now c.args.vessel.now c.args.index c.requires.at

pub set_global-requires : goal.set_global-requires
set_global-requires c = global_set_within c.args._program.now c.args.vessel.now c.args.index c.requires.at c.pop-value.new.self c.pop-value.ensures.cells

pub returns-clause-acts : goal.returns-clause-acts
returns-clause-acts c = (refl, global_set_moves c.args._program.now c.args.vessel.now c.args.index c.requires.at c.pop-value.new.self c.set_global.new.self c.pop-value.result c.pop-value.ensures.value c.pop-value.ensures.cells c.set_global.ensures)
