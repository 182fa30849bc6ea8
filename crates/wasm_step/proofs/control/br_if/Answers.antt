use Rattle.std.proofs.Common.{refl}
use Rattle.wasm_step.proofs.ControlArms.{br_if_number, br_if_past, br_if_fits, br_if_arm, is_true, is_false}
use Rattle.wasm_step.proofs.control.br_if.Goals as goal

pub pop-requires : goal.pop-requires
pop-requires c = br_if_number c.args.program.now c.args.vessel.now c.args.label c.requires.at

pub returns-then-pop-eq0-clause-acts : goal.returns-then-pop-eq0-clause-acts
returns-then-pop-eq0-clause-acts c = (refl, br_if_past c.args.program.now c.args.vessel.now c.pop.new.self c.args.label c.pop.result c.requires.at c.pop.ensures.value (is_true c.pop.result c.if-pop-eq0.true) c.pop.ensures.cells)

pub branch-program-requires : goal.branch-program-requires
branch-program-requires c = record { can = br_if_fits c.args.program.now c.args.vessel.now c.pop.new.self c.args.label c.pop.result c.requires.at c.pop.ensures.value (is_false c.pop.result c.if-pop-eq0.false) c.pop.ensures.cells }

pub returns-clause-acts : goal.returns-clause-acts
returns-clause-acts c = (refl, br_if_arm c.args.program.now c.args.vessel.now c.pop.new.self c.branch-program.new.vessel c.args.label c.pop.result c.requires.at c.pop.ensures.value (is_false c.pop.result c.if-pop-eq0.false) c.pop.ensures.cells c.branch-program.ensures)
