use Rattle.wasm_meaning.proofs.Budgets.{onward_balances, onward_agrees}
use Rattle.wasm_meaning.proofs.RequestLaws.{enough_budget}
use Rattle.wasm_meaning.proofs.laws.budgets_bound_runs.Goals as goal

pub returns-clause-balance : goal.returns-clause-balance
returns-clause-balance c = onward_balances

pub returns-clause-deeper : goal.returns-clause-deeper
returns-clause-deeper c = onward_agrees

pub returns-clause-enough : goal.returns-clause-enough
returns-clause-enough c = enough_budget
