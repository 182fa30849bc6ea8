use Rattle.http_items.proofs.LimitLaws.{items_within}
use Rattle.http_items.proofs.laws.items_have_numbers.Goals as goal

pub returns : goal.returns
returns c = record { within = items_within }
