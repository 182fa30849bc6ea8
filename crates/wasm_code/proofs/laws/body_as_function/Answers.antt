use Rattle.wasm_code.proofs.BodyLaws.{body_tells, body_only, fault_only}
use Rattle.wasm_code.proofs.laws.body_as_function.Goals as goal

pub returns-clause-told : goal.returns-clause-told
returns-clause-told c = body_tells

pub returns-clause-only : goal.returns-clause-only
returns-clause-only c = body_only

pub returns-clause-only_refused : goal.returns-clause-only_refused
returns-clause-only_refused c = fault_only
