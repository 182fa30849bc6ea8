-- The limits of a module and of a body. They are this project's own; the standard has none of them but the one result (WebAssembly Core 1.0, sections 2.3.3 and 7.2).
use Rattle.std.specs.Prelude.{ℕ, ◌+◌, List, [], ◌∷◌}
use Rattle.wasm_ops.specs.declared.modules.Import.{Import}
use Rattle.wasm_ops.specs.declared.modules.ImportItem.{ImportItem}
use Rattle.wasm_ops.specs.declared.modules.ImportItem.TheVariants as item

-- the most function types, and the most parameters and results of one
abbrev pub most_types : ℕ
most_types = 1000

abbrev pub most_parameters : ℕ
most_parameters = 1000

abbrev pub most_results : ℕ
most_results = 1

-- the most functions, and the most globals; imported ones are counted
abbrev pub most_functions : ℕ
most_functions = 10000

abbrev pub most_globals : ℕ
most_globals = 1000

-- the greatest least size of a table
abbrev pub most_elements : ℕ
most_elements = 10000

-- the greatest number that stands for a kind of export
abbrev pub most_kind : ℕ
most_kind = 3

-- the most locals of a body, its parameters not counted
abbrev pub most_locals : ℕ
most_locals = 1024

-- the most blocks that are open at once in a body
abbrev pub most_blocks : ℕ
most_blocks = 1000

-- the most labels of a `br_table`, its default not counted
abbrev pub most_targets : ℕ
most_targets = 4096

-- how many of the imports are functions, and how many are globals
abbrev pub counts_function : ImportItem → ℕ
counts_function (item.Function index) = 1
counts_function (item.Table size) = 0
counts_function (item.Memory size) = 0
counts_function (item.Global value mutable) = 0

abbrev pub counts_global : ImportItem → ℕ
counts_global (item.Function index) = 0
counts_global (item.Table size) = 0
counts_global (item.Memory size) = 0
counts_global (item.Global value mutable) = 1

abbrev pub imported_functions : List Import → ℕ
imported_functions [] = 0
imported_functions (i ∷ imports) = counts_function i.item + imported_functions imports

abbrev pub imported_globals : List Import → ℕ
imported_globals [] = 0
imported_globals (i ∷ imports) = counts_global i.item + imported_globals imports
