use Rattle.wasm_ops.proofs.InputLaws.{number_decided}
use Rattle.wasm_ops.proofs.NameLaws.{name_decided}
use Rattle.wasm_ops.proofs.laws.spelt_or_refused.Goals as goal

pub returns-clause-numbers : goal.returns-clause-numbers
returns-clause-numbers c = number_decided

pub returns-clause-names : goal.returns-clause-names
returns-clause-names c = name_decided
