-- How many imports are functions and globals, one import after another.
use Rattle.std.proofs.Common.{◌≡◌, ℕ, ◌+◌, ◌<◌, ◌≤◌, ◌^◌, true, List, [], ◌∷◌, ◌++◌, length, refl, ap, ◌∙◌, arith}
use Rattle.std.proofs.lemmas.Bool.{ltb-true}
use Rattle.wasm_ops.specs.declared.modules.Import.{Import}
use Rattle.wasm_ops.specs.Input.{Input}
use Rattle.wasm_reader.specs.declared.imports.Imported.{Imported}
use Rattle.wasm_reader.specs.declared.imports.ImportKind.{ImportKind}
use Rattle.wasm_reader.specs.declared.imports.ImportKind.TheVariants as kind
use Rattle.wasm_reader.specs.Syntax.{kept, number, vector_of}
use Rattle.wasm_ops.specs.declared.modules.ImportItem.{ImportItem}
use Rattle.wasm_ops.specs.declared.modules.ImportItem.TheVariants as item
use Rattle.wasm_ops.specs.Limits.{counts_function, counts_global, imported_functions, imported_globals}
use Rattle.wasm_reader.specs.Contents.{has_room, import_behind, imports, next_import}
use Rattle.wasm_reader.specs.Imports.{functions_of, globals_of, kind_of_import, none_imported, with_import}
use Rattle.wasm_reader.proofs.Loops.{vectors_same}

pub functions_more : (imports : List Import) (i : Import) → imported_functions (imports ++ i ∷ []) ≡ imported_functions imports + counts_function i.item
functions_more [] i = omega arith
functions_more (first ∷ imports) i = let more = functions_more imports i in omega arith

pub globals_more : (imports : List Import) (i : Import) → imported_globals (imports ++ i ∷ []) ≡ imported_globals imports + counts_global i.item
globals_more [] i = omega arith
globals_more (first ∷ imports) i = let more = globals_more imports i in omega arith

pub function_one : (k : ImportKind) → functions_of k ≤ 1
function_one kind.Function = omega arith
function_one kind.Table = omega arith
function_one kind.Memory = omega arith
function_one kind.Global = omega arith

pub global_one : (k : ImportKind) → globals_of k ≤ 1
global_one kind.Function = omega arith
global_one kind.Table = omega arith
global_one kind.Memory = omega arith
global_one kind.Global = omega arith

-- an import counts as its kind does
pub function_counts : (i : ImportItem) → counts_function i ≡ functions_of (kind_of_import i)
function_counts (item.Function index) = refl
function_counts (item.Table size) = refl
function_counts (item.Memory size) = refl
function_counts (item.Global value mutable) = refl

pub global_counts : (i : ImportItem) → counts_global i ≡ globals_of (kind_of_import i)
global_counts (item.Function index) = refl
global_counts (item.Table size) = refl
global_counts (item.Memory size) = refl
global_counts (item.Global value mutable) = refl

pub functions_few : (imports : List Import) → imported_functions imports ≤ length imports
functions_few [] = omega arith
functions_few (first ∷ imports) = let few = functions_few imports in let one = function_one (kind_of_import first.item) in let counts = function_counts first.item in omega arith

pub globals_few : (imports : List Import) → imported_globals imports ≤ length imports
globals_few [] = omega arith
globals_few (first ∷ imports) = let few = globals_few imports in let one = global_one (kind_of_import first.item) in let counts = global_counts first.item in omega arith

-- where there is room for one more, its count fits in 64 bits

pub functions_fit : (functions globals : ℕ) (k : ImportKind) → has_room functions globals k ≡ true → functions < 2 ^ 64 → functions + functions_of k < 2 ^ 64
functions_fit functions globals kind.Function room fits = let few = ltb-true functions 10000 room in omega arith
functions_fit functions globals kind.Table room fits = omega arith
functions_fit functions globals kind.Memory room fits = omega arith
functions_fit functions globals kind.Global room fits = omega arith

pub globals_fit : (functions globals : ℕ) (k : ImportKind) → has_room functions globals k ≡ true → globals < 2 ^ 64 → globals + globals_of k < 2 ^ 64
globals_fit functions globals kind.Function room fits = omega arith
globals_fit functions globals kind.Table room fits = omega arith
globals_fit functions globals kind.Memory room fits = omega arith
globals_fit functions globals kind.Global room fits = let few = ltb-true globals 1000 room in omega arith

-- and it is within the limit

pub functions_room : (functions globals : ℕ) (k : ImportKind) → has_room functions globals k ≡ true → functions ≤ 10000 → functions + functions_of k ≤ 10000
functions_room functions globals kind.Function room fits = let few = ltb-true functions 10000 room in omega arith
functions_room functions globals kind.Table room fits = omega arith
functions_room functions globals kind.Memory room fits = omega arith
functions_room functions globals kind.Global room fits = omega arith

pub globals_room : (functions globals : ℕ) (k : ImportKind) → has_room functions globals k ≡ true → globals ≤ 1000 → globals + globals_of k ≤ 1000
globals_room functions globals kind.Function room fits = omega arith
globals_room functions globals kind.Table room fits = omega arith
globals_room functions globals kind.Memory room fits = omega arith
globals_room functions globals kind.Global room fits = let few = ltb-true globals 1000 room in omega arith

-- what is kept of imports are their counts

kept_functions : (imported : Imported) (imports : List Import) → (kept with_import imported imports).functions ≡ imported.functions + imported_functions imports
kept_functions imported [] = omega arith
kept_functions imported (i ∷ imports) = let more = kept_functions (with_import imported i) imports in let counts = function_counts i.item in omega arith

kept_globals : (imported : Imported) (imports : List Import) → (kept with_import imported imports).globals ≡ imported.globals + imported_globals imports
kept_globals imported [] = omega arith
kept_globals imported (i ∷ imports) = let more = kept_globals (with_import imported i) imports in let counts = global_counts i.item in omega arith

none_functions : (imports : List Import) → (kept with_import none_imported imports).functions ≡ imported_functions imports
none_functions imports = let all = kept_functions none_imported imports in omega arith

none_globals : (imports : List Import) → (kept with_import none_imported imports).globals ≡ imported_globals imports
none_globals imports = let all = kept_globals none_imported imports in omega arith

pub imports_same
    : (before : Input)
    → (vector_of number (λ so_far. let imported = kept with_import none_imported so_far in import_behind imported.functions imported.globals)).read before ≡ imports.read before
imports_same before =
    vectors_same number (λ so_far. let imported = kept with_import none_imported so_far in import_behind imported.functions imported.globals) next_import before
    (λ so_far.
    let imported = kept with_import none_imported so_far in
    let functions : imported.functions ≡ imported_functions so_far = none_functions so_far in
    let globals : imported.globals ≡ imported_globals so_far = none_globals so_far in
    ap (λ (n : ℕ). import_behind n imported.globals) functions ∙ ap (λ (n : ℕ). import_behind (imported_functions so_far) n) globals)
