use Rattle.std.proofs.Common.{◌≡◌, None}
use Rattle.job_board.specs.Boarding.{IsPassOf}
use Rattle.posted_jobs.specs.Rounds.{PassesOver}
use Rattle.posted_jobs.proofs.rounds.next_job.Given as goal

abbrev pub invariant-loop-place : goal.invariant-loop-place
invariant-loop-place l = record {
  own : IsPassOf l.board l.pass;
  free : l.pass.held ≡ None;
  over : PassesOver l.berth l.place l.fn.pass l.pass;
}
