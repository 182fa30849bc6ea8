use Rattle.std.proofs.Common.{refl}
use Rattle.wasm_step.proofs.VariableMoves.{global_get_within, global_get_moves, global_get_room}
use Rattle.wasm_step.proofs.variables.global_get.Goals as goal

pub global-requires : goal.global-requires
global-requires c = global_get_within c.args._program.now c.args.vessel.now c.args.index c.requires.at

pub push-requires : goal.push-requires
push-requires c = global_get_room c.args._program.now c.args.vessel.now c.args.index c.requires.at c.global.result c.global.ensures

pub returns-clause-acts : goal.returns-clause-acts
returns-clause-acts c = (refl, global_get_moves c.args._program.now c.args.vessel.now c.args.index c.requires.at c.push.new.self c.global.result c.global.ensures c.push.ensures)
