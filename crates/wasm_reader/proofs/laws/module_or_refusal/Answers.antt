use Rattle.wasm_reader.proofs.ModuleLaws.{either, module_or_fault, one_module, one_refusal}
use Rattle.wasm_reader.proofs.laws.module_or_refusal.Goals as goal

pub returns-clause-one_holds : goal.returns-clause-one_holds
returns-clause-one_holds c = either

pub returns-clause-never_both : goal.returns-clause-never_both
returns-clause-never_both c = module_or_fault

pub returns-clause-one_module : goal.returns-clause-one_module
returns-clause-one_module c = one_module

pub returns-clause-one_fault : goal.returns-clause-one_fault
returns-clause-one_fault c = one_refusal
