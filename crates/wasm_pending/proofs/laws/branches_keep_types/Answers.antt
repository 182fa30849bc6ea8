use Rattle.wasm_pending.proofs.Branches.{branch_within, branch_lands, branch_returns, return_typed}
use Rattle.wasm_pending.proofs.laws.branches_keep_types.Goals as goal

pub returns-clause-within : goal.returns-clause-within
returns-clause-within c = branch_within

pub returns-clause-lands : goal.returns-clause-lands
returns-clause-lands c = branch_lands

pub returns-clause-own : goal.returns-clause-own
returns-clause-own c = branch_returns

pub returns-clause-returns : goal.returns-clause-returns
returns-clause-returns c = return_typed
