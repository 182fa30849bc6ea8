use Rattle.http_items.proofs.EndLaws.{items_end, quiet_ends}
use Rattle.http_items.proofs.laws.end_of_a_stream.Goals as goal

pub returns : goal.returns
returns c = record { whole = items_end; waiting = quiet_ends }
