use Rattle.wasm_validate.proofs.Results.{leaves, one_holds, never_both, one_broken}
use Rattle.wasm_validate.proofs.laws.valid_or_broken.Goals as goal

pub returns-clause-one_holds : goal.returns-clause-one_holds
returns-clause-one_holds c = one_holds

pub returns-clause-never_both : goal.returns-clause-never_both
returns-clause-never_both c = never_both

pub returns-clause-one_broken : goal.returns-clause-one_broken
returns-clause-one_broken c = one_broken

pub returns-clause-to_result : goal.returns-clause-to_result
returns-clause-to_result c = leaves
