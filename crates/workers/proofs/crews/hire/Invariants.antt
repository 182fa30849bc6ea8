use Rattle.std.proofs.Common.{◌≡◌, ◌+◌, ◌≤◌, length}
use Rattle.std.specs.List.{All}
use Rattle.std.specs.Prelude.{vec_capacity}
use Rattle.workers.specs.Workshops.{AreOf, IsReady}
use Rattle.workers.proofs.crews.hire.Given as goal

abbrev pub invariant-loop-i : goal.invariant-loop-i
invariant-loop-i l = record {
  own : AreOf l.workshop l.passes;
  board : l.passes.board.parts + length l.desks.items ≡ 65536;
  pool : l.passes.pool.parts + length l.desks.items ≡ 65536;
  queue : l.passes.queue.parts + length l.desks.items ≡ 65536;
  count : length l.desks.items ≡ l._i;
  room : l.settings.workers ≤ vec_capacity l.desks;
  desks : All (IsReady l.workshop l.settings.quantum) l.desks.items;
}
