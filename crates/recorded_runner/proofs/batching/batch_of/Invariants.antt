use Rattle.std.proofs.Common.{◌≡◌, map}
use Rattle.serve_config.specs.Loaded.{programs_in}
use Rattle.workers.specs.Batches.{AreNumbered}
use Rattle.recorded_runner.specs.Batch.{AreJobsOf}
use Rattle.recorded_runner.specs.Seen.{awaited_seen, decided_seen}
use Rattle.recorded_runner.proofs.batching.batch_of.Given as goal

abbrev pub invariant-loop-item : goal.invariant-loop-item
invariant-loop-item l = record {
  can_next : (goal.iterator-loop-item).can_next l.item-iterator;
  is_finite : (goal.iterator-loop-item).is_finite l.item-iterator;
  seen : map awaited_seen l.awaited.items ≡ map decided_seen l.yielded;
  jobs : AreJobsOf l.config.tenants (programs_in l.programs) (map decided_seen l.yielded) l.jobs.items;
  numbered : AreNumbered l.jobs.items;
}
