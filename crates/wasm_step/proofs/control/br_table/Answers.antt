use Rattle.std.proofs.Common.{refl, rules, ◌+◌, ◌<◌, ◌^◌}
use Rattle.wasm_step.proofs.ControlArms.{table_there, table_arm_fits, table_arm, table_sum, table_target, label_there}
use Rattle.wasm_step.proofs.control.br_table.Goals as goal

pub pop-number-requires : goal.pop-number-requires
pop-number-requires c = (table_there c.args.program.now c.args.vessel.now c.args.from c.args.count c.requires.at).number

pub overflow_add-from : goal.overflow_add-from
overflow_add-from c = let lt : c.args.from + c.entry_of.result < 2 ^ 32 = table_sum c.args.program.now c.args.vessel.now c.args.from c.args.count c.pop-number.result c.entry_of.result c.requires.at c.entry_of.ensures in search rules

pub target-label-requires : goal.target-label-requires
target-label-requires c = record { there = table_target c.args.program.now c.args.vessel.now c.pop-number.new.self c.args.from c.args.count c.pop-number.result c.entry_of.result c.function.result c.requires.at c.entry_of.ensures c.pop-number.ensures.cells c.function.ensures }

pub branch-program-requires : goal.branch-program-requires
branch-program-requires c = record { can = table_arm_fits c.args.program.now c.args.vessel.now c.pop-number.new.self c.args.from c.args.count c.pop-number.result c.target-label.result c.requires.at c.pop-number.ensures.value (label_there c.args.program.now c.args.vessel.now c.pop-number.new.self c.args.from c.args.count c.pop-number.result c.entry_of.result c.function.result c.target-label.result c.entry_of.ensures c.pop-number.ensures.cells c.function.ensures c.target-label.ensures) c.pop-number.ensures.cells }

pub returns-clause-acts : goal.returns-clause-acts
returns-clause-acts c = (refl, table_arm c.args.program.now c.args.vessel.now c.pop-number.new.self c.branch-program.new.vessel c.args.from c.args.count c.pop-number.result c.target-label.result c.requires.at c.pop-number.ensures.value (label_there c.args.program.now c.args.vessel.now c.pop-number.new.self c.args.from c.args.count c.pop-number.result c.entry_of.result c.function.result c.target-label.result c.entry_of.ensures c.pop-number.ensures.cells c.function.ensures c.target-label.ensures) c.pop-number.ensures.cells c.branch-program.ensures)
