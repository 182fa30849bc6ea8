use Rattle.std.proofs.Common.{ℕ, ◌≤◌, refl, ◌∙◌, arith}
use Rattle.sandbox_states.proofs.StepLaws.{free_more, more_free, ends_free}
use Rattle.sandbox_states.specs.declared.runs.Ending.TheVariants as ending
use Rattle.sandbox_states.proofs.runs.move_freely.Goals as goal

nothing : 0 ≤ 0
nothing = omega arith

pub loop-trap-preserved : goal.loop-trap-preserved
loop-trap-preserved c = record {
  pages = c.in-Free.ensures.pages ∙ c.loop-trap.invariant.pages;
  state = c.in-Free.ensures.keeps.state;
  path = λ w holds. let a = c.loop-trap.invariant.path w holds in free_more c.args.program.now w c.loop-trap.vessel c.step.new.vessel w.state.store.streams a (c.in-Free.ensures.means a.next a.holds);
}

pub returns-in-Host-clause-means : goal.returns-in-Host-clause-means
returns-in-Host-clause-means c w holds = let a = c.loop-trap.invariant.path w holds in more_free c.args.program.now w c.loop-trap.vessel c.step.new.vessel c.in-Host.ensures.keeps.0 a (c.in-Host.ensures.means a.next a.holds).pays

pub returns-in-Short-clause-means : goal.returns-in-Short-clause-means
returns-in-Short-clause-means c w holds = let a = c.loop-trap.invariant.path w holds in more_free c.args.program.now w c.loop-trap.vessel c.step.new.vessel c.in-Short.ensures.keeps a (c.in-Short.ensures.means a.next a.holds).0

pub returns-in-Ended-clause-means : goal.returns-in-Ended-clause-means
returns-in-Ended-clause-means c w holds = let a = c.loop-trap.invariant.path w holds in ends_free c.args.program.now w c.loop-trap.vessel 0 ending.Fell a nothing (c.in-Ended.ensures.means a.next a.holds) refl

pub returns-in-Trapped-clause-means : goal.returns-in-Trapped-clause-means
returns-in-Trapped-clause-means c w holds = let a = c.loop-trap.invariant.path w holds in ends_free c.args.program.now w c.loop-trap.vessel c.in-Trapped._price (ending.Trapped c.in-Trapped.trap) a c.in-Trapped.ensures.keeps (c.in-Trapped.ensures.means a.next a.holds) refl
