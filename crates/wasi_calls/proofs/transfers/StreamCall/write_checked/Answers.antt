use Rattle.wasi_calls.specs.Transfers.{transfer_for}
use Rattle.wasi_calls.proofs.CallLaws.{write_moves, write_short}
use Rattle.wasi_calls.proofs.transfers.StreamCall.write_checked.Goals as goal

pub returns-then-price-left : goal.returns-then-price-left
returns-then-price-left c = write_short c.args.left c.args.vessel.now c.args.streams.now (transfer_for c.args.self) c.args.survey c.price_of_moving-price.result c.requires.surveyed c.price_of_moving-price.ensures c.if-price-left.true

pub returns : goal.returns
returns c = write_moves c.args.left c.args.vessel.now c.store_count.new.vessel c.args.streams.now c.gather.new.streams (transfer_for c.args.self) c.args.survey c.price_of_moving-price.result c.requires.surveyed c.price_of_moving-price.ensures c.if-price-left.false c.store_count.ensures c.gather.ensures
