-- Small modules, which are valid or break a rule.
use Rattle.std.proofs.Common.{◌≡◌, ℕ, [], ◌∷◌, Some, None, Ok, Err, refl}
use Rattle.std.specs.Prelude.{codes}
use Rattle.wasm_ops.specs.declared.operators.Op.TheVariants.{End, Unary, ConstI64}
use Rattle.wasm_ops.specs.declared.modules.Module.{Module}
use Rattle.wasm_ops.specs.declared.modules.Export.{Export}
use Rattle.wasm_ops.specs.declared.modules.ImportItem.TheVariants as item
use Rattle.wasm_ops.specs.declared.modules.ImportItem.{ImportItem}
use Rattle.wasm_ops.specs.declared.modules.Import.{Import}
use Rattle.wasm_meaning.specs.ValidityChecks.{Check}
use Rattle.wasm_meaning.specs.Validity.{imports_walk, functions_walk, tables_walk, memories_walk, globals_walk, exports_walk, start_walk, elements_walk, segments_walk, bodies_walk, outside_walk, module_walk}

-- a function that does nothing, under the name `_start`
abbrev least : Module
least = record {
  types = record { params = []; result = None } ∷ [];
  imports = [];
  functions = 0 ∷ [];
  tables = [];
  memories = [];
  globals = [];
  exports = record { name = codes "_start"; kind = 0; index = 0 } ∷ [];
  start = None;
  elements = [];
  bodies = record { locals = []; ops = End ∷ []; targets = [] } ∷ [];
  segments = [];
}

abbrev broken : (number item : ℕ) → Check
broken number item = Err (record { number = number; function = None; item = item })

valid : module_walk least ≡ Ok tt
unfolding imports_walk functions_walk tables_walk memories_walk globals_walk exports_walk start_walk elements_walk segments_walk bodies_walk outside_walk module_walk
valid = refl

-- in a body, the place of the operator
body_broken
    : module_walk (record least { bodies = record { locals = []; ops = ConstI64 0 ∷ Unary 0x45 ∷ End ∷ []; targets = [] } ∷ [] })
    ≡ Err (record { number = 31; function = Some 0; item = 1 })
unfolding imports_walk functions_walk tables_walk memories_walk globals_walk exports_walk start_walk elements_walk segments_walk bodies_walk outside_walk module_walk
body_broken = refl

-- elsewhere the index in the list: a name twice, and before it a function that is unknown
abbrev named : (index : ℕ) → Export
named index = record { name = codes "f"; kind = 0; index = index }

export_twice : exports_walk (record least { exports = named 0 ∷ named 0 ∷ [] }) ≡ broken 37 1
unfolding exports_walk
export_twice = refl

export_of_nothing : exports_walk (record least { exports = named 0 ∷ named 1 ∷ [] }) ≡ broken 30 1
unfolding exports_walk
export_of_nothing = refl

-- imported items stand first in their index space
abbrev import_of : ImportItem → Import
import_of asked = record { «module» = []; name = []; item = asked }

export_of_the_second : exports_walk (record least { imports = import_of (item.Function 0) ∷ []; exports = named 1 ∷ [] }) ≡ Ok tt
unfolding exports_walk
export_of_the_second = refl

second_table
    : imports_walk (record least { imports = import_of (item.Table (record { least = 1; most = None })) ∷ import_of (item.Table (record { least = 1; most = Some 0 })) ∷ [] })
    ≡ broken 39 1
unfolding imports_walk
second_table = refl

second_memory
    : memories_walk (record least { imports = import_of (item.Memory (record { least = 1; most = None })) ∷ []; memories = record { least = 1; most = None } ∷ [] })
    ≡ broken 38 0
unfolding memories_walk
second_memory = refl
