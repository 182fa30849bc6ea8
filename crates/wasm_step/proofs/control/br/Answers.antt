use Rattle.std.proofs.Common.{refl}
use Rattle.wasm_step.proofs.ControlArms.{br_fits, br_arm}
use Rattle.wasm_step.proofs.control.br.Goals as goal

pub branch-program-requires : goal.branch-program-requires
branch-program-requires c = record { can = br_fits c.args.program.now c.args.vessel.now c.args.label c.requires.at }

pub returns-clause-acts : goal.returns-clause-acts
returns-clause-acts c = (refl, br_arm c.args.program.now c.args.vessel.now c.branch-program.new.vessel c.args.label c.requires.at c.branch-program.ensures)
