use Rattle.wasm_reader.proofs.FormedModules.{module_formed}
use Rattle.wasm_reader.proofs.StructureLaws.{module_structure}
use Rattle.wasm_reader.proofs.laws.header_and_sections.Goals as goal

pub returns-clause-structure : goal.returns-clause-structure
returns-clause-structure c = module_structure

pub returns-clause-formed : goal.returns-clause-formed
returns-clause-formed c = module_formed
