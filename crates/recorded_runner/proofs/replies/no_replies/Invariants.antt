use Rattle.std.proofs.Common.{◌≡◌, [], replicate}
use Rattle.recorded_runner.proofs.replies.no_replies.Given as goal

abbrev pub invariant-loop : goal.invariant-loop
invariant-loop l = l.replies.items ≡ replicate l.counter []
