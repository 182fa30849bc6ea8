use Rattle.std.proofs.Common.{◌≤◌}
use Rattle.serve_sessions.proofs.serving.await_workers.Given as goal

abbrev pub invariant-loop : goal.invariant-loop
invariant-loop g l = l.ended ≤ l.workers
