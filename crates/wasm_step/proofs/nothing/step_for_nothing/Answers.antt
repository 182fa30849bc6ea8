use Rattle.wasm_step.specs.Arms.{before}
use Rattle.wasm_step.proofs.NextLaws.{next_of}
use Rattle.wasm_step.proofs.StepLaws.{operator_found, op_found, next_fits, passed_at, before_is, does_as}
use Rattle.wasm_step.proofs.nothing.step_for_nothing.Goals as goal

pub operator-operator-requires : goal.operator-operator-requires
operator-operator-requires c = record { there = operator_found c.args.program.now c.args.vessel.now c.function.result c.place-place.result c.requires.state c.function.ensures c.place-place.ensures }

pub overflow_add-place : goal.overflow_add-place
overflow_add-place c = record { fits = next_fits c.args.program.now c.args.vessel.now c.operator-operator.result c.place-place.result c.requires.state (op_found c.args.program.now c.args.vessel.now c.function.result c.place-place.result c.operator-operator.result c.function.ensures c.place-place.ensures c.operator-operator.ensures) c.place-place.ensures }

pub act_for_nothing-requires : goal.act_for_nothing-requires
act_for_nothing-requires c = record { at = passed_at c.args.program.now c.args.vessel.now c.go_to.new.self c.operator-operator.result c.place-place.result c.requires.state (op_found c.args.program.now c.args.vessel.now c.function.result c.place-place.result c.operator-operator.result c.function.ensures c.place-place.ensures c.operator-operator.ensures) c.place-place.ensures c.go_to.ensures }

pub returns-clause-does : goal.returns-clause-does
returns-clause-does c = does_as c.args.program.now 0 (before c.go_to.new.self) c.args.vessel.now c.act_for_nothing.new.vessel c.act_for_nothing.result (before_is c.args.vessel.now c.go_to.new.self c.place-place.result c.place-place.ensures c.go_to.ensures) c.act_for_nothing.ensures.does

pub returns-clause-next : goal.returns-clause-next
returns-clause-next c = next_of c.args.program.now (before c.go_to.new.self) c.args.vessel.now 0 c.operator-operator.result c.act_for_nothing.result (before_is c.args.vessel.now c.go_to.new.self c.place-place.result c.place-place.ensures c.go_to.ensures) (op_found c.args.program.now c.args.vessel.now c.function.result c.place-place.result c.operator-operator.result c.function.ensures c.place-place.ensures c.operator-operator.ensures) c.act_for_nothing.ensures.next
