use Rattle.std.proofs.Common.{◌≡◌, length, None}
use Rattle.std.specs.List.{All}
use Rattle.job_board.specs.Boarding.{IsPassOf}
use Rattle.shop_desks.specs.Nexts.{Drops}
use Rattle.worker_desks.specs.Sharing.{IsEntryOf}
use Rattle.shop_desks.proofs.finds.resume.Given as goal

abbrev pub invariant-entries : goal.invariant-entries
invariant-entries l = record {
  own : IsPassOf l.board l.pass;
  free : l.pass.held ≡ None;
  inside : All (IsEntryOf 256) l.local.entries;
  dropped : Drops l.fn.local.policy l.fn.local.entries l.local.entries l.fn.pass l.pass;
  policy : l.local.policy ≡ l.fn.local.policy;
  room : l.local.room ≡ l.fn.local.room;
}

abbrev pub decreases-entries : goal.decreases-entries
decreases-entries l = length l.local.entries
