use Rattle.recorded_arrivals.proofs.LimitLaws.{arrivals_within, arrivals_below}
use Rattle.recorded_arrivals.proofs.laws.items_within_limits.Goals as goal

pub returns : goal.returns
returns c = record { within = arrivals_within c.items_have_numbers.ensures.within; begun = arrivals_below }
