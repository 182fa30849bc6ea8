-- What is pending is typed, and keeps within its heights: what typing knows of each sequence that is still to run, from the inside outwards (WebAssembly Core 1.0, appendix A.5).
use Rattle.std.specs.Prelude.{◌≡◌, ◌⊎◌, ℕ, ◌+◌, ◌*◌, ◌≤◌, List, [], ◌∷◌, ◌++◌, length, Option, None, Some, Ok, slice_get, option_to_list}
use Rattle.std.specs.List.{AllByRecursion}
use Rattle.wasm_ops.specs.Sequence.{Sequence, Done, InLoop}
use Rattle.wasm_ops.specs.Values.{IsOfType}
use Rattle.wasm_ops.specs.declared.modules.Module.{Module}
use Rattle.wasm_ops.specs.declared.types.ValType.{ValType}
use Rattle.wasm_meaning.specs.declared.blocks.BlockKind.TheVariants.{BlockBody, LoopBody}
use Rattle.wasm_meaning.specs.Bytes.{page, size_of}
use Rattle.wasm_meaning.specs.Execution.{Caller}
use Rattle.wasm_meaning.specs.Fitting.{AreOf, Falls, IsFair, inside, FrameFits, StoreFits}
use Rattle.wasm_meaning.specs.Pending.{Around, AroundBlock, AroundLoop, AroundCall, Entering, Pending}
use Rattle.wasm_meaning.specs.Programs.{Program, defined, most}
use Rattle.wasm_meaning.specs.State.{Function, Frame, Store}
use Rattle.wasm_meaning.specs.Typing.{typed, depth, next, back, ended}
use Rattle.wasm_meaning.specs.TypingOperands.{Walk, lay_result}
use Rattle.wasm_meaning.specs.Values.{Value, type_of, number_in}
use Rattle.wasm_pending.specs.Frames.{in_frame, open_in, context}

-- Values.

-- the number of a value is one of its type
abbrev pub IsRanged : Value → Type 0
IsRanged v = IsOfType (type_of v) (number_in v)

abbrev pub AreRanged : List Value → Type 0
AreRanged values = AllByRecursion IsRanged values

-- The store and the frame.

-- the memory is of whole pages, and has no more than the most
pub record MemoryWithin (most : ℕ) (memory : List ℕ) : Type 0 where
  pub whole : length memory ≡ size_of memory * page
  pub within : size_of memory ≤ most

-- what the store of a program keeps while it runs
pub record StoreTyped (program : Program) (store : Store) : Type 0 where
  pub fits : StoreFits program.linked store
  pub memory : MemoryWithin (most program) store.memory
  pub globals : AreRanged store.globals

-- the frame of a function
pub record FrameTyped (m : Module) (f : Function) (frame : Frame) : Type 0 where
  pub fits : FrameFits (inside m f) frame
  pub locals : AreRanged frame.locals

-- Sequences.

-- the operands of the block at hand are those that typing knows; with those under the block they are no more than the greatest length that it has counted
pub record Placed (now : Walk) (operands : List Value) (around : List Around) : Type 0 where
  pub falls : Falls now operands
  pub under : now.under ≡ in_frame around
  pub counted : now.under + length now.types ≤ now.most

-- what typing knows behind a block with this list around it, whose closing operator it reached so
abbrev pub behind_block : Option ValType → (outer closed : Walk) → Walk
behind_block t outer closed = next (lay_result t (back outer closed))

-- a sequence inside of these blocks of a function: it is typed, its parts are what they may be, and no more blocks will be open than the function has
pub record SequenceTyped (m : Module) (f : Function) (s : Sequence) (now last : Walk) (around : List Around) : Type 0 where
  pub goes : typed (context m f around) s now ≡ Ok last
  pub fair : IsFair (length f.targets) s
  pub nest : open_in around + depth s ≤ f.nest

-- Blocks.

-- behind a block of a result, whose inner sequence ends so
pub record BlockTyped (m : Module) (f : Function) (end : Walk) (t : Option ValType) (base : List Value) (rest : Sequence) (around : List Around) : Type 0 where
  pub outer : Walk
  pub done : Walk
  pub closed : Walk
  pub last : Walk
  pub ends : ended BlockBody t end ≡ Ok done
  pub counted : end.most ≤ closed.most
  pub placed : Placed outer base around
  pub sequence : SequenceTyped m f rest (behind_block t outer closed) last around
  pub ranged : AreRanged base

-- likewise behind a loop, which may take a further turn
pub record LoopTyped (m : Module) (f : Function) (end : Walk) (t : Option ValType) (base : List Value) (body rest : Sequence) (around : List Around) : Type 0 where
  pub outer : Walk
  pub done : Walk
  pub closed : Walk
  pub last : Walk
  pub ends : ended LoopBody t end ≡ Ok done
  pub counted : end.most ≤ closed.most
  pub placed : Placed outer base around
  pub turns : SequenceTyped m f (InLoop t body rest) outer last around
  pub sequence : SequenceTyped m f rest (behind_block t outer closed) last around
  pub ranged : AreRanged base

-- Calls.

-- a body, whose sequence ends so, leaves its function's result, and kept within its height
pub record BodyTyped (f : Function) (end : Walk) (t : Option ValType) : Type 0 where
  pub done : Walk
  pub result : t ≡ f.result
  pub ends : ended BlockBody f.result end ≡ Ok done
  pub height : end.most ≤ f.height

-- the function that called, which goes on with the result
pub record CallerTyped (m : Module) (t : Option ValType) (function : ℕ) (caller : Caller) (rest : Sequence) (around : List Around) : Type 0 where
  pub runs : Function
  pub is : slice_get (defined m) function ≡ Some runs
  pub now : Walk
  pub last : Walk
  pub placed : (values : List Value) → AreOf (option_to_list t) values → Placed now (values ++ caller.operands) around
  pub sequence : SequenceTyped m runs rest now last around
  pub frame : FrameTyped m runs caller.frame
  pub ranged : AreRanged caller.operands

-- a function that may be entered from outside: it is one of the module's own, and takes and gives nothing
pub record CanEnter (m : Module) (function : ℕ) : Type 0 where
  pub runs : Function
  pub is : slice_get (defined m) function ≡ Some runs
  pub no_params : runs.params ≡ []
  pub no_result : runs.result ≡ None

-- nothing but entries is around
abbrev pub OnlyEntries : Module → List Around → Type 0
OnlyEntries m [] = Unit {0}
OnlyEntries m (AroundBlock t base rest ∷ around) = ⊥
OnlyEntries m (AroundLoop t base body rest ∷ around) = ⊥
OnlyEntries m (AroundCall t function caller rest ∷ around) = ⊥
OnlyEntries m (Entering function ∷ around) = CanEnter m function × OnlyEntries m around

-- the call from outside: nothing lies under it, and nothing but entries follows
pub record Outermost (m : Module) (t : Option ValType) (caller : Caller) (rest : Sequence) (around : List Around) : Type 0 where
  pub no_result : t ≡ None
  pub no_operands : caller.operands ≡ []
  pub no_locals : caller.frame.locals ≡ []
  pub no_cells : caller.cells ≡ 0
  pub no_rest : rest ≡ Done
  pub entries : OnlyEntries m around

-- all that is around a sequence of a function, which ends so
abbrev pub TypedAround : Module → Function → (end : Walk) → List Around → Type 0
TypedAround m f end [] = ⊥
TypedAround m f end (AroundBlock t base rest ∷ around) = (b : BlockTyped m f end t base rest around) × TypedAround m f b.last around
TypedAround m f end (AroundLoop t base body rest ∷ around) = (b : LoopTyped m f end t base body rest around) × TypedAround m f b.last around
TypedAround m f end (AroundCall t function caller rest ∷ around) =
    BodyTyped f end t × (Outermost m t caller rest around ⊎ ((c : CallerTyped m t function caller rest around) × TypedAround m c.runs c.last around))
TypedAround m f end (Entering function ∷ around) = ⊥

-- What is pending.

-- a call of the function with this number, among the bodies, is live: what it has before it is typed, and so is all that is around
pub record Typed (program : Program) (function : ℕ) (w : Pending) : Type 0 where
  pub runs : Function
  pub is : slice_get (defined program.linked) function ≡ Some runs
  pub now : Walk
  pub last : Walk
  pub placed : Placed now w.state.operands w.around
  pub sequence : SequenceTyped program.linked runs w.sequence now last w.around
  pub outside : TypedAround program.linked runs last w.around
  pub frame : FrameTyped program.linked runs w.state.frame
  pub store : StoreTyped program w.state.store
  pub ranged : AreRanged w.state.operands

-- no call is live: nothing is left but entries
pub record Idle (program : Program) (w : Pending) : Type 0 where
  pub no_sequence : w.sequence ≡ Done
  pub no_operands : w.state.operands ≡ []
  pub no_locals : w.state.frame.locals ≡ []
  pub no_cells : w.state.cells ≡ 0
  pub entries : OnlyEntries program.linked w.around
  pub store : StoreTyped program w.state.store
