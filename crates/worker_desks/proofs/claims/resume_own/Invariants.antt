use Rattle.std.proofs.Common.{◌≡◌, length, None}
use Rattle.std.specs.List.{All}
use Rattle.job_board.specs.Boarding.{IsPassOf, places_of}
use Rattle.worker_desks.specs.Parts.{Drops}
use Rattle.worker_desks.specs.Sharing.{IsEntryOf}
use Rattle.worker_desks.proofs.claims.resume_own.Given as goal

abbrev pub invariant-entries : goal.invariant-entries
invariant-entries l = record {
  own : IsPassOf l.board l.pass;
  free : l.pass.held ≡ None;
  inside : All (IsEntryOf (places_of l.board)) l.local.entries;
  dropped : Drops l.fn.local.policy l.fn.local.entries l.local.entries l.fn.pass l.pass;
  policy : l.local.policy ≡ l.fn.local.policy;
  room : l.local.room ≡ l.fn.local.room;
}

abbrev pub decreases-entries : goal.decreases-entries
decreases-entries l = length l.local.entries
