use Rattle.std.proofs.Common.{sym, ◌∙◌}
use Rattle.run_queues.proofs.Orders.{takes_first, keeps_first}
use Rattle.run_queues.proofs.local_queues.first_of.Goals as goal
use Rattle.run_queues.proofs.local_queues.first_of.Goals.{then-comes_before, else-comes_before}

pub loop-i-preserved : goal.loop-i-preserved
loop-i-preserved c =
    elim c.if-comes_before.branch [
      | then-comes_before w ↦
          rw w.first-is (takes_first _ _ _ _ c.loop-i.invariant c.loop-i-test.true (sym c.comes_before.ensures ∙ w.if-comes_before.true))
      | else-comes_before w ↦
          rw w.first-is (keeps_first _ _ _ _ c.loop-i.invariant c.loop-i-test.true (sym c.comes_before.ensures ∙ w.if-comes_before.false))
    ]
