-- The labels of blocks that are opened.
use Rattle.std.specs.Prelude.{ℕ, ◌+◌, Bool, true, false, ◌∷◌, length, drop, Option, Some, None}
use Rattle.std.specs.Option.{is_some}
use Rattle.wasm_ops.specs.declared.types.ValType.{ValType}
use Rattle.wasm_store.specs.View.{View}
use Rattle.wasm_store.specs.declared.labels.Label.{Label}

-- of a block with a result or none, over so many cells; a branch to it goes on behind its `end`
abbrev pub block_label : (target height : ℕ) → Option ValType → Label
block_label target height t = record { target = target; height = height; result = is_some t }

-- of a loop: a branch to it goes on with the loop operator, and takes nothing
abbrev pub loop_label : (target height : ℕ) → Label
loop_label target height = record { target = target; height = height; result = false }

-- where an `if` goes, by the number on top: into its first part, or into the second one, or past it
abbrev pub if_view : View → Option ValType → (other : Option ℕ) → (end : ℕ) → (is_zero : Bool) → View
if_view v t other end false =
    record v { place = v.place + 1; cells = drop 1 v.cells; labels = block_label (end + 1) (length (drop 1 v.cells)) t ∷ v.labels }
if_view v t None end true = record v { place = end + 1; cells = drop 1 v.cells }
if_view v t (Some between) end true =
    record v { place = between + 1; cells = drop 1 v.cells; labels = block_label (end + 1) (length (drop 1 v.cells)) t ∷ v.labels }
