use Rattle.std.proofs.Common.{◌≡◌, None}
use Rattle.job_board.specs.Boarding.{IsPassOf}
use Rattle.worker_desks.specs.Parts.{PassesOver}
use Rattle.worker_desks.proofs.claims.take_over.Given as goal

abbrev pub invariant-loop-place : goal.invariant-loop-place
invariant-loop-place l = record {
  own : IsPassOf l.board l.pass;
  free : l.pass.held ≡ None;
  over : PassesOver l.place l.fn.pass l.pass;
}
