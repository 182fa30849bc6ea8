use Rattle.std.proofs.Common.{sym, ◌∙◌, arith, rules}
use Rattle.run_queues.proofs.Draws.{draws}
use Rattle.run_queues.specs.Drawing.{Drawing}
use Rattle.run_queues.proofs.common_queues.Common.draw.Goals as goal

pub fetch_add-number-requires : goal.fetch_add-number-requires
fetch_add-number-requires c = (search rules, search rules, draws _ _ _ c.pass.invariant.0)
