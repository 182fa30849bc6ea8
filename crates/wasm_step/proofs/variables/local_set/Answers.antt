use Rattle.std.proofs.Common.{refl}
use Rattle.wasm_ops.specs.declared.operators.Op.TheVariants as op
use Rattle.wasm_step.proofs.VariableMoves.{live_frame, set_some, set_within, set_moves, set_few}
use Rattle.wasm_step.proofs.variables.local_set.Goals as goal

pub frame-base-requires : goal.frame-base-requires
frame-base-requires c = live_frame c.args._program.now c.args.vessel.now (op.LocalSet c.args.index) c.requires.at refl

pub pop-value-requires : goal.pop-value-requires
pop-value-requires c = set_some c.args._program.now c.args.vessel.now c.args.index c.requires.at

pub overflow_add-base : goal.overflow_add-base
overflow_add-base c = record { fits = set_few c.args._program.now c.args.vessel.now c.args.index c.requires.at c.frame-base.result c.frame-base.ensures c.pop-value.new.self c.pop-value.ensures.cells }

pub set_cell-requires : goal.set_cell-requires
set_cell-requires c = set_within c.args._program.now c.args.vessel.now c.args.index c.requires.at c.frame-base.result c.frame-base.ensures c.pop-value.new.self c.pop-value.ensures.cells

pub returns-clause-acts : goal.returns-clause-acts
returns-clause-acts c = (refl, set_moves c.args._program.now c.args.vessel.now c.args.index c.requires.at c.frame-base.result c.frame-base.ensures c.pop-value.new.self c.set_cell.new.self c.pop-value.result c.pop-value.ensures.value c.pop-value.ensures.cells c.set_cell.ensures)
