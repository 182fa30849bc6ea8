use Rattle.std.specs.List.{IsFirstBest}
use Rattle.run_queues.specs.Serving.{comes_before}
use Rattle.run_queues.proofs.local_queues.first_of.Given as goal

abbrev pub invariant-loop-i : goal.invariant-loop-i
invariant-loop-i l = IsFirstBest comes_before l.entries l.i l.first
