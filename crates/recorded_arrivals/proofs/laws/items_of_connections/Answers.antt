use Rattle.recorded_arrivals.proofs.ConnectionItems.{connection_items}
use Rattle.recorded_arrivals.proofs.CountLaws.{all_items}
use Rattle.recorded_arrivals.proofs.laws.items_of_connections.Goals as goal

pub returns : goal.returns
returns c = record { each = connection_items c.items_in_order.ensures.begin; together = all_items c.items_in_order.ensures.begin }
