-- What the crate's values stand for among the definitions.
use Rattle.http_front.specs.Views.{heard_of}
use Rattle.recorded_arrivals.specs.Arrivals.{Arrived}
use Rattle.recorded_arrivals.specs.declared.arrivals.Arrival.{Arrival}

-- an arrival as the definitions have it
abbrev pub arrival_seen : Arrival → Arrived
arrival_seen a = record { link = a.link; moment = a.moment; heard = heard_of a.item }
