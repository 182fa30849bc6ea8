-- What is kept of the index spaces of a module.
use Rattle.std.specs.Prelude.{◌≡◌, ℕ, List, length}
use Rattle.wasm_ops.specs.Limits.{imported_functions}
use Rattle.wasm_ops.specs.declared.modules.Module.{Module}
use Rattle.wasm_meaning.specs.declared.blocks.GlobalType.{GlobalType}
use Rattle.wasm_meaning.specs.ValiditySpaces.{functions, tables, memories, globals}

-- these are the module's
pub record IsIndexed (m : Module) (all_functions : List ℕ) (imported table_count memory_count : ℕ) (all_globals : List GlobalType) : Type 0 where
  pub functions_are : all_functions ≡ functions m
  pub imported_are : imported ≡ imported_functions m.imports
  pub tables_are : table_count ≡ length (tables m)
  pub memories_are : memory_count ≡ length (memories m)
  pub globals_are : all_globals ≡ globals m
