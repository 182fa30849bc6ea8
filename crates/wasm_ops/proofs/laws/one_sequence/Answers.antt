use Rattle.wasm_ops.proofs.NestedLaws.{ahead_of-body, one_body, length-flat}
use Rattle.wasm_ops.proofs.laws.one_sequence.Goals as goal

pub returns-clause-one : goal.returns-clause-one
returns-clause-one c = one_body

pub returns-clause-ahead : goal.returns-clause-ahead
returns-clause-ahead c = ahead_of-body

pub returns-clause-size : goal.returns-clause-size
returns-clause-size c = length-flat
