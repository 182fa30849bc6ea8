use Rattle.std.proofs.Common.{refl}
use Rattle.wasm_step.proofs.ControlArms.{return_fits, return_arm}
use Rattle.wasm_step.proofs.control.leave.Goals as goal

pub leave_call-requires : goal.leave_call-requires
leave_call-requires c = record { can = return_fits c.args.program.now c.args.vessel.now c.requires.at }

pub returns-clause-acts : goal.returns-clause-acts
returns-clause-acts c = (refl, return_arm c.args.program.now c.args.vessel.now c.leave_call.new.vessel c.requires.at c.leave_call.ensures)
