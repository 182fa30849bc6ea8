use Rattle.http_items.proofs.ItemLaws.{items_step, items_begin}
use Rattle.http_items.proofs.laws.items_in_order.Goals as goal

pub returns : goal.returns
returns c = record { step = items_step; begin = items_begin }
