-- What is kept of imports as they are counted one after another. Only private contracts cite it.
use Rattle.std.specs.Prelude.{ℕ, ◌+◌}
use Rattle.wasm_ops.specs.declared.modules.Import.{Import}
use Rattle.wasm_ops.specs.declared.modules.ImportItem.{ImportItem}
use Rattle.wasm_ops.specs.declared.modules.ImportItem.TheVariants as item
use Rattle.wasm_reader.specs.declared.imports.Imported.{Imported}
use Rattle.wasm_reader.specs.declared.imports.ImportKind.{ImportKind}
use Rattle.wasm_reader.specs.declared.imports.ImportKind.TheVariants as kind

-- what is imported
abbrev pub kind_of_import : ImportItem → ImportKind
kind_of_import (item.Function index) = kind.Function
kind_of_import (item.Table size) = kind.Table
kind_of_import (item.Memory size) = kind.Memory
kind_of_import (item.Global value mutable) = kind.Global

-- how many functions and globals an import of a kind is
abbrev pub functions_of : ImportKind → ℕ
functions_of kind.Function = 1
functions_of kind.Table = 0
functions_of kind.Memory = 0
functions_of kind.Global = 0

abbrev pub globals_of : ImportKind → ℕ
globals_of kind.Function = 0
globals_of kind.Table = 0
globals_of kind.Memory = 0
globals_of kind.Global = 1

abbrev pub none_imported : Imported
none_imported = record { functions = 0; globals = 0 }

-- one more of a kind
abbrev pub with_kind : Imported → ImportKind → Imported
with_kind imported k =
    record { functions = imported.functions + functions_of k; globals = imported.globals + globals_of k }

abbrev pub with_import : Imported → Import → Imported
with_import imported i = with_kind imported (kind_of_import i.item)
