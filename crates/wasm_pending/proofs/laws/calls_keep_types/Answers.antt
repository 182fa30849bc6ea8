use Rattle.wasm_pending.proofs.Branches.{body_ends}
use Rattle.wasm_pending.proofs.Calls.{call_typed}
use Rattle.wasm_pending.proofs.laws.calls_keep_types.Goals as goal

pub returns-clause-begins : goal.returns-clause-begins
returns-clause-begins c = call_typed

pub returns-clause-ends : goal.returns-clause-ends
returns-clause-ends c = body_ends
