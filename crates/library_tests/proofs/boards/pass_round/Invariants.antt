use Rattle.std.proofs.Common.{◌≡◌, None}
use Rattle.job_board.specs.Boarding.{IsPassOf}
use Rattle.library_tests.proofs.boards.pass_round.Given as goal

abbrev pub invariant-loop : goal.invariant-loop
invariant-loop l = IsPassOf l.board l.pass × (l.pass.held ≡ None) × (l.pass.parts ≡ l.fn.pass.parts)

abbrev pub invariant-loop-place : goal.invariant-loop-place
invariant-loop-place l = IsPassOf l.board l.pass × (l.pass.held ≡ None) × (l.pass.parts ≡ l.fn.pass.parts)
