use Rattle.std.proofs.Common.{refl}
use Rattle.sandbox_states.proofs.StepLaws.{went_keeps, went_path, exit_closes, short_closes}
use Rattle.sandbox_states.proofs.runs.carry_out.Goals as goal

pub returns-in-Went-clause-keeps : goal.returns-in-Went-clause-keeps
returns-in-Went-clause-keeps c = went_keeps c.args._program.now c.args.vessel.now c.host.new.vessel c.args.streams.now c.host.new.streams c.args.call c.args.left c.in-Went.price c.requires.state c.requires.host c.in-Went.ensures.answers

pub returns-in-Went-clause-means : goal.returns-in-Went-clause-means
returns-in-Went-clause-means c w holds same = went_path c.args._program.now w c.args.vessel.now c.host.new.vessel c.args.streams.now c.host.new.streams c.args.call c.args.left c.in-Went.price c.requires.host holds same c.in-Went.ensures.answers

pub returns-in-Exited-clause-means : goal.returns-in-Exited-clause-means
returns-in-Exited-clause-means c w holds same = exit_closes c.args._program.now w c.args.vessel.now c.host.new.vessel c.args.streams.now c.host.new.streams c.args.call c.args.left c.in-Exited.code c.in-Exited.price c.requires.host holds same c.in-Exited.ensures.answers

pub returns-in-Short-clause-means : goal.returns-in-Short-clause-means
returns-in-Short-clause-means c w holds same = (refl, short_closes c.args._program.now w c.args.vessel.now c.host.new.vessel c.args.streams.now c.host.new.streams c.args.call c.args.left c.requires.host holds same c.in-Short.ensures.answers)
