use Rattle.std.proofs.Common.{refl}
use Rattle.wasm_ops.specs.declared.operators.Op.TheVariants as op
use Rattle.wasm_step.proofs.Going.{fits_in}
use Rattle.wasm_step.proofs.VariableMoves.{live_frame, small_place, tee_some, tee_within, tee_moves}
use Rattle.wasm_step.proofs.variables.local_tee.Goals as goal

pub frame-base-requires : goal.frame-base-requires
frame-base-requires c = live_frame c.args._program.now c.args.vessel.now (op.LocalTee c.args.index) c.requires.at refl

pub overflow_add-base : goal.overflow_add-base
overflow_add-base c = record { fits = small_place c.frame-base.result.base c.args.index _ (tee_within c.args._program.now c.args.vessel.now c.args.index c.requires.at c.frame-base.result c.frame-base.ensures) (fits_in c.args._program.now c.args.vessel.now (op.LocalTee c.args.index) c.requires.at) }

pub operand-requires : goal.operand-requires
operand-requires c = tee_some c.args._program.now c.args.vessel.now c.args.index c.requires.at

pub set_cell-requires : goal.set_cell-requires
set_cell-requires c = tee_within c.args._program.now c.args.vessel.now c.args.index c.requires.at c.frame-base.result c.frame-base.ensures

pub returns-clause-acts : goal.returns-clause-acts
returns-clause-acts c = (refl, tee_moves c.args._program.now c.args.vessel.now c.args.index c.requires.at c.frame-base.result c.frame-base.ensures c.set_cell.new.self c.operand.result c.operand.ensures c.set_cell.ensures)
