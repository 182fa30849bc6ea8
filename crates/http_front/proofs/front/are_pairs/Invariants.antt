use Rattle.std.proofs.Common.{length, ◌≡◌}
use Rattle.http_items.specs.Items.{are_pairs}
use Rattle.http_front.proofs.front.are_pairs.Given as goal

abbrev pub invariant-loop-rest : goal.invariant-loop-rest
invariant-loop-rest l = are_pairs l.rest ≡ are_pairs l.fn.bytes

abbrev pub decreases-loop-rest : goal.decreases-loop-rest
decreases-loop-rest l = length l.rest
