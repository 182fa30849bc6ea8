use Rattle.std.proofs.Common.{ℕ, ◌<◌, ◌≤◌, refl, ◌∙◌, arith}
use Rattle.sandbox_states.proofs.PathLaws.{begins_paying, reaches_of}
use Rattle.sandbox_states.proofs.StepLaws.{part_pays, part_finishes, free_paying}
use Rattle.sandbox_states.proofs.runs.run_group.Goals as goal

pub loop-paid-init : goal.loop-paid-init
loop-paid-init c = record { pages = refl; state = c.requires.state; body = refl; within = omega arith; some = c.requires.some; paying = λ w holds same. begins_paying c.args.quantum c.args.program.now w c.args.vessel.now c.args.streams.now c.requires.some holds same }

pub loop-paid-preserved-in-Paid : goal.loop-paid-preserved-in-Paid
loop-paid-preserved-in-Paid c =
    let within = c.loop-paid.invariant.within in
    let enough = c.in-Paid.ensures.keeps.1 in
    let below : c.loop-paid.paid < c.args.quantum = omega (arith, c.loop-paid-test.true) in
    record {
      pages = c.in-Paid.ensures.pages ∙ c.loop-paid.invariant.pages;
      state = c.in-Paid.ensures.keeps.2;
      body = c.in-Paid.ensures.body ∙ c.loop-paid.invariant.body;
      within = omega (arith, within, enough);
      some = c.loop-paid.invariant.some;
      paying = λ w holds same. let a = c.loop-paid.invariant.paying w holds same in part_pays c.args.quantum c.loop-paid.paid c.in-Paid.more c.args.program.now w c.loop-paid.vessel c.run_part.new.vessel c.loop-paid.streams c.run_part.new.streams a below (c.in-Paid.ensures.means a.path.next a.path.holds a.path.streams_are);
    }

pub loop-paid-preserved : goal.loop-paid-preserved
loop-paid-preserved c = record {
  pages = c.in-Free.ensures.pages ∙ c.loop-paid.invariant.pages;
  state = c.in-Free.ensures.keeps.0;
  body = c.in-Free.ensures.body ∙ c.loop-paid.invariant.body;
  within = c.loop-paid.invariant.within;
  some = c.loop-paid.invariant.some;
  paying = λ w holds same. let a = c.loop-paid.invariant.paying w holds same in free_paying c.args.quantum c.loop-paid.paid c.args.program.now w c.loop-paid.vessel c.run_part.new.vessel c.loop-paid.streams c.run_part.new.streams a (c.in-Free.ensures.means a.path.next a.path.holds a.path.streams_are);
}

pub returns-in-Over-clause-means : goal.returns-in-Over-clause-means
returns-in-Over-clause-means c w holds same =
    let below : c.loop-paid.paid < c.args.quantum = omega (arith, c.loop-paid-test.true) in
    let a = c.loop-paid.invariant.paying w holds same in
    part_finishes c.args.quantum c.loop-paid.paid c.in-Over.price c.args.left c.args.program.now w c.loop-paid.vessel c.loop-paid.streams c.run_part.new.streams c.in-Over.end a below c.loop-paid.invariant.within (c.in-Over.ensures.means a.path.next a.path.holds a.path.streams_are)
