use Rattle.std.proofs.Common.{◌≡◌, ◌+◌, length}
use Rattle.workers.specs.Workshops.{AreOf}
use Rattle.workers.proofs.crews.dismiss.Given as goal

abbrev pub invariant-loop-desk : goal.invariant-loop-desk
invariant-loop-desk l = record {
  can_next : (goal.iterator-loop-desk).can_next l.desk-iterator;
  is_finite : (goal.iterator-loop-desk).is_finite l.desk-iterator;
  own : AreOf l.workshop l.passes;
  parts : l.passes.board.parts ≡ l.fn.passes.board.parts + length l.yielded;
}
