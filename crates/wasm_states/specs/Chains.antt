-- What labels and frames stand for: the blocks and calls that are around what runs (WebAssembly Core 1.0, section 4.2.12).
use Rattle.std.specs.Prelude.{◌≡◌, ℕ, ◌+◌, ◌≤◌, false, List, [], ◌∷◌, ◌++◌, length, reverse, Option, Some, slice_get}
use Rattle.std.specs.Option.{is_some}
use Rattle.wasm_ops.specs.declared.modules.Module.{Module}
use Rattle.wasm_ops.specs.declared.operators.Op.{Op}
use Rattle.wasm_ops.specs.declared.operators.Op.TheVariants.{End}
use Rattle.wasm_ops.specs.declared.types.ValType.{ValType}
use Rattle.wasm_ops.specs.Sequence.{Sequence, InLoop, size}
use Rattle.wasm_meaning.specs.Execution.{Caller, cells_of}
use Rattle.wasm_meaning.specs.Pending.{Around, AroundBlock, AroundLoop, AroundCall, Entering, entering}
use Rattle.wasm_meaning.specs.State.{Function}
use Rattle.wasm_meaning.specs.Values.{Value, numbers}
use Rattle.wasm_pending.specs.Typed.{Outermost}
use Rattle.wasm_store.specs.declared.calls.Frame.{Frame}
use Rattle.wasm_store.specs.declared.labels.Label.{Label}
use Rattle.wasm_states.specs.Codes.{Code, Stands, operator_at, behind}

-- Cells.

-- the cells under the operands of what runs, the top one first: the operands of the blocks around it, its call's locals, and then those of its callers
abbrev pub cells_under : (locals : List Value) → List Around → List ℕ
cells_under locals [] = []
cells_under locals (AroundBlock t base rest ∷ around) = numbers base ++ cells_under locals around
cells_under locals (AroundLoop t base body rest ∷ around) = numbers base ++ cells_under locals around
cells_under locals (AroundCall t function caller rest ∷ around) =
    reverse (numbers locals) ++ (numbers caller.operands ++ cells_under caller.frame.locals around)
cells_under locals (Entering function ∷ around) = []

-- how many they are, where the call has so many locals
abbrev pub height_under : (locals : ℕ) → List Around → ℕ
height_under locals [] = 0
height_under locals (AroundBlock t base rest ∷ around) = length base + height_under locals around
height_under locals (AroundLoop t base body rest ∷ around) = length base + height_under locals around
height_under locals (AroundCall t function caller rest ∷ around) =
    locals + (length caller.operands + height_under (length caller.frame.locals) around)
height_under locals (Entering function ∷ around) = 0

-- Blocks.

-- the label of a block whose closing operator stands at `stop`, with so many cells under its operands
pub record Opened (ops : List Op) (stop : ℕ) (l : Label) (t : Option ValType) (height : ℕ) (rest : Sequence) : Type 0 where
  pub closes : behind stop (slice_get ops stop) ≡ Some l.target
  pub takes : l.result ≡ is_some t
  pub lies : l.height ≡ height
  pub stands : Stands ops l.target rest

-- the label of a loop: a branch to it goes on with the loop operator itself, and takes nothing
pub record Turning (ops : List Op) (stop : ℕ) (l : Label) (t : Option ValType) (height : ℕ) (body rest : Sequence) : Type 0 where
  pub turn : stop ≡ l.target + 1 + size body
  pub takes : l.result ≡ false
  pub lies : l.height ≡ height
  pub stands : Stands ops l.target (InLoop t body rest)

-- Calls.

-- the frame of a call whose body ends at `stop`, and what it tells of the call and of its caller: `height` cells and so many labels lie below it
pub record Border (function : Function) (ops : List Op) (stop used : ℕ) (f : Frame) (t : Option ValType) (height labels : ℕ) (caller : Caller) : Type 0 where
  pub closes : slice_get ops stop ≡ Some End
  pub result : t ≡ function.result
  pub base : f.base ≡ height
  pub opened : f.opened ≡ labels
  pub below : f.below ≡ caller.cells
  pub total : f.below + cells_of function ≡ used
  pub counted : f.base + f.opened ≤ f.below

-- a call from outside: nothing lies under it, the entries follow, and the code rests at an `end` until the next of them is entered
pub record Lowest (m : Module) (f : Frame) (t : Option ValType) (caller : Caller) (rest : Sequence) (entries : List ℕ) (around : List Around) (labels : List Label) : Type 0 where
  pub outermost : Outermost m t caller rest around
  pub no_labels : labels ≡ []
  pub entries_are : around ≡ entering entries
  pub rests : operator_at m f.function f.place ≡ Some End

-- where a call goes back to: the rest of its caller
pub record Back (m : Module) (f : Frame) (number : ℕ) (rest : Sequence) : Type 0 where
  pub same : number ≡ f.function
  pub code : Code m f.function
  pub stands : Stands code.body.ops f.place rest

-- The labels and frames stand for what is around a sequence, whose closing operator stands at `stop` in a call that has so many locals and with which so many cells are used.
abbrev pub Chain
    : (m : Module) (function : Function) (ops : List Op) (stop used locals : ℕ) (entries : List ℕ) → List Around → List Label → List Frame → Type 0
Chain m function ops stop used locals entries [] labels frames = ⊥
Chain m function ops stop used locals entries (AroundBlock t base rest ∷ around) [] frames = ⊥
Chain m function ops stop used locals entries (AroundBlock t base rest ∷ around) (l ∷ labels) frames =
    Opened ops stop l t (length base + height_under locals around) rest
    × Chain m function ops (l.target + size rest) used locals entries around labels frames
Chain m function ops stop used locals entries (AroundLoop t base body rest ∷ around) [] frames = ⊥
Chain m function ops stop used locals entries (AroundLoop t base body rest ∷ around) (l ∷ labels) frames =
    Turning ops stop l t (length base + height_under locals around) body rest
    × Chain m function ops (l.target + size (InLoop t body rest)) used locals entries around labels frames
Chain m function ops stop used locals entries (AroundCall t number caller rest ∷ around) labels [] = ⊥
Chain m function ops stop used locals entries (AroundCall t number caller rest ∷ around) labels (f ∷ []) =
    Border function ops stop used f t (length caller.operands + height_under (length caller.frame.locals) around) (length labels) caller
    × Lowest m f t caller rest entries around labels
Chain m function ops stop used locals entries (AroundCall t number caller rest ∷ around) labels (f ∷ g ∷ frames) =
    Border function ops stop used f t (length caller.operands + height_under (length caller.frame.locals) around) (length labels) caller
    × (back : Back m f number rest)
    × Chain m back.code.function back.code.body.ops (f.place + size rest) f.below (length caller.frame.locals) entries around labels (g ∷ frames)
Chain m function ops stop used locals entries (Entering number ∷ around) labels frames = ⊥
