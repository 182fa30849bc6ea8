use Rattle.wasm_pending.proofs.Heights.{operands_within, opened_within}
use Rattle.wasm_pending.proofs.laws.calls_keep_within_heights.Goals as goal

pub returns-clause-operands : goal.returns-clause-operands
returns-clause-operands c = operands_within

pub returns-clause-blocks : goal.returns-clause-blocks
returns-clause-blocks c = opened_within
