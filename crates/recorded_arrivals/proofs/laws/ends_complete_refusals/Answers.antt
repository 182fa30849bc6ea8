use Rattle.recorded_arrivals.proofs.EndLaws.{ends_connection}
use Rattle.recorded_arrivals.proofs.laws.ends_complete_refusals.Goals as goal

pub returns : goal.returns
returns c = ends_connection c.end_of_a_stream.ensures.whole
