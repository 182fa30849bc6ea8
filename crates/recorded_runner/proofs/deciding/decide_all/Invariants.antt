use Rattle.std.proofs.Common.{◌≡◌, [], map}
use Rattle.recorded_arrivals.specs.Seen.{arrival_seen}
use Rattle.recorded_runner.specs.Fates.{decided_behind}
use Rattle.recorded_runner.specs.Seen.{decided_seen}
use Rattle.recorded_runner.proofs.FateLaws.{AreMetered}
use Rattle.recorded_runner.proofs.deciding.decide_all.Given as goal

abbrev pub invariant-loop-arrival : goal.invariant-loop-arrival
invariant-loop-arrival l = record {
  can_next : (goal.iterator-loop-arrival).can_next l.arrival-iterator;
  is_finite : (goal.iterator-loop-arrival).is_finite l.arrival-iterator;
  metered : AreMetered l.config.tenants l.owners (map arrival_seen l.yielded) l.meters.items;
  decided : map decided_seen l.decided.items ≡ decided_behind l.config.tenants l.owners [] (map arrival_seen l.yielded);
}
