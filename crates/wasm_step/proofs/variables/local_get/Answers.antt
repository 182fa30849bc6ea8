use Rattle.std.proofs.Common.{refl}
use Rattle.wasm_ops.specs.declared.operators.Op.TheVariants as op
use Rattle.wasm_step.proofs.Going.{fits_in}
use Rattle.wasm_step.proofs.VariableMoves.{live_frame, small_place, get_within, get_moves, get_room}
use Rattle.wasm_step.proofs.variables.local_get.Goals as goal

pub frame-base-requires : goal.frame-base-requires
frame-base-requires c = live_frame c.args._program.now c.args.vessel.now (op.LocalGet c.args.index) c.requires.at refl

pub overflow_add-base : goal.overflow_add-base
overflow_add-base c = record { fits = small_place c.frame-base.result.base c.args.index _ (get_within c.args._program.now c.args.vessel.now c.args.index c.requires.at c.frame-base.result c.frame-base.ensures) (fits_in c.args._program.now c.args.vessel.now (op.LocalGet c.args.index) c.requires.at) }

pub cell-requires : goal.cell-requires
cell-requires c = get_within c.args._program.now c.args.vessel.now c.args.index c.requires.at c.frame-base.result c.frame-base.ensures

pub push-requires : goal.push-requires
push-requires c = get_room c.args._program.now c.args.vessel.now c.args.index c.requires.at c.frame-base.result c.frame-base.ensures c.cell.result c.cell.ensures

pub returns-clause-acts : goal.returns-clause-acts
returns-clause-acts c = (refl, get_moves c.args._program.now c.args.vessel.now c.args.index c.requires.at c.frame-base.result c.frame-base.ensures c.push.new.self c.cell.result c.cell.ensures c.push.ensures)
