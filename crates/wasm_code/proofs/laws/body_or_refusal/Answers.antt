use Rattle.wasm_code.proofs.BodyLaws.{either, body_or_fault, one_body, one_refusal}
use Rattle.wasm_code.proofs.RefusalPlaces.{body_placed}
use Rattle.wasm_code.proofs.FormedBodies.{body_formed}
use Rattle.wasm_code.proofs.laws.body_or_refusal.Goals as goal

pub returns-clause-one_holds : goal.returns-clause-one_holds
returns-clause-one_holds c = either

pub returns-clause-never_both : goal.returns-clause-never_both
returns-clause-never_both c = body_or_fault

pub returns-clause-one_body : goal.returns-clause-one_body
returns-clause-one_body c = one_body

pub returns-clause-one_fault : goal.returns-clause-one_fault
returns-clause-one_fault c = one_refusal

pub returns-clause-formed : goal.returns-clause-formed
returns-clause-formed c = body_formed

pub returns-clause-placed : goal.returns-clause-placed
returns-clause-placed c = body_placed
