-- The request stands behind the others, or memory was wanting.
use Rattle.std.proofs.Common.{is_ok}
use Rattle.wasm_tables.proofs.Pushes.{numbered_pushed, pages_pushed}
use Rattle.wasm_tables.proofs.batches.gathering.Batch.push.Goals as goal

pub invariant_of-self-clause-numbered : goal.invariant_of-self-clause-numbered
invariant_of-self-clause-numbered c = numbered_pushed (is_ok c.push.result) c.args.self.now.requests.items c.push.new.self.items c.args.request c.args.self.now.numbered c.requires.place c.push.ensures.items

pub invariant_of-self-clause-pages : goal.invariant_of-self-clause-pages
invariant_of-self-clause-pages c = pages_pushed (is_ok c.push.result) c.args.self.now.settings.pages c.args.self.now.requests.items c.push.new.self.items c.args.request c.args.self.now.pages c.requires.pages c.push.ensures.items
