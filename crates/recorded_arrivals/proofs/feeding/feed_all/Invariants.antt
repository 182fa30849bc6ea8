use Rattle.std.proofs.Common.{map, take, drop}
use Rattle.recorded_arrivals.specs.Feeding.{IsFeeding}
use Rattle.recorded_arrivals.specs.Seen.{arrival_seen}
use Rattle.recorded_arrivals.proofs.feeding.feed_all.Given as goal

abbrev pub invariant-loop-record : goal.invariant-loop-record
invariant-loop-record l = IsFeeding l.recording (take l.record-index l.recording) (drop l.record-index l.recording) l.fronts.items (map arrival_seen l.arrived.items)
