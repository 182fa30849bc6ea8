use Rattle.std.proofs.Common.{◌≡◌}
use Rattle.library_tests.proofs.queues.draw_all.Given as goal

abbrev pub invariant-loop : goal.invariant-loop
invariant-loop l = l.pass.id ≡ l.queue.id
