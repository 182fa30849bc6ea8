use Rattle.sandbox_states.proofs.StepLaws.{reached_more}
use Rattle.sandbox_states.proofs.PathLaws.{finishes_free}
use Rattle.sandbox_states.proofs.runs.run_quantum.Goals as goal

pub returns-in-More-clause-means : goal.returns-in-More-clause-means
returns-in-More-clause-means c w holds same =
    let a = c.in-Reached.ensures.means w holds same in
    reached_more c.args.quantum c.args.program.now w c.run_group.new.vessel c.move_freely.new.vessel c.run_group.new.streams c.in-Reached.paid a (c.in-More.ensures.means a.path.next a.path.holds)

pub returns-in-Over-move_freely-clause-means : goal.returns-in-Over-move_freely-clause-means
returns-in-Over-move_freely-clause-means c w holds same =
    let a = c.in-Reached.ensures.means w holds same in
    finishes_free c.args.quantum c.args.program.now w c.args.left c.in-Reached.paid c.run_group.new.vessel c.run_group.new.streams c.in-Over-move_freely.end a c.in-Reached.ensures.keeps.1 (c.in-Over-move_freely.ensures.means a.path.next a.path.holds) a.path.streams_are
