use Rattle.std.proofs.Common.{◌≡◌}
use Rattle.memory_pool.specs.Passing.{IsPassOf}
use Rattle.library_tests.proofs.pools.hand_round.Given as goal

abbrev pub invariant-loop : goal.invariant-loop
invariant-loop l = IsPassOf l.pool l.pass × (l.pass.parts ≡ l.fn.pass.parts)
