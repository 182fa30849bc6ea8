use Rattle.std.proofs.Common.{◌≡◌, ◌++◌, map}
use Rattle.http_front.specs.Views.{heard_of}
use Rattle.recorded_arrivals.specs.Arrivals.{arrived_at}
use Rattle.recorded_arrivals.specs.Seen.{arrival_seen}
use Rattle.recorded_arrivals.proofs.feeding.append.Given as goal

abbrev pub invariant-loop-item : goal.invariant-loop-item
invariant-loop-item l = map arrival_seen l.arrived.items ≡ map arrival_seen l.fn.arrived.items ++ map (arrived_at l.link l.moment) (map heard_of l.yielded)
