use Rattle.std.proofs.Common.{◌≡◌}
use Rattle.std.specs.List.{AllZip}
use Rattle.std.specs.Prelude.{vec_capacity}
use Rattle.workers.specs.Tasks.{IsFinishOf}
use Rattle.workers.proofs.leftovers.finish_all.Given as goal

abbrev pub invariant-loop-task : goal.invariant-loop-task
invariant-loop-task g l = record {
  can_next : (goal.iterator-loop-task g).can_next l.task-iterator;
  is_finite : (goal.iterator-loop-task g).is_finite l.task-iterator;
  pages : l.berth.pages ≡ l.fn.berth.pages;
  room : vec_capacity l.answers ≡ vec_capacity l.fn.answers;
  done : AllZip (IsFinishOf l.settings.quantum) l.yielded l.answers.items;
}
