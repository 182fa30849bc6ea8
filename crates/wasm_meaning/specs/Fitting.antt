-- What of a running program fits what typing knows of it: its operands, its sequences, its frames and its store (WebAssembly Core 1.0, appendix A.5).
use Rattle.std.specs.Prelude.{◌≡◌, ℕ, true, false, List, [], ◌∷◌, ◌++◌, map, Some, None, slice_get}
use Rattle.wasm_ops.specs.Sequence.{Sequence, Done, Plain, InBlock, InLoop, InIf, InIfElse, IsPlain}
use Rattle.wasm_ops.specs.WellFormed.{IsOperator}
use Rattle.wasm_ops.specs.declared.modules.Module.{Module}
use Rattle.wasm_ops.specs.declared.types.FuncType.{FuncType}
use Rattle.wasm_ops.specs.declared.types.ValType.{ValType}
use Rattle.wasm_meaning.specs.declared.blocks.GlobalType.{GlobalType}
use Rattle.wasm_meaning.specs.State.{Function, Store, Frame}
use Rattle.wasm_meaning.specs.Typing.{Context}
use Rattle.wasm_meaning.specs.TypingOperands.{Operand, Walk}
use Rattle.wasm_meaning.specs.ValiditySpaces.{function_type, globals}
use Rattle.wasm_meaning.specs.Values.{Value, has_type}

-- Values and operands.

-- the values are of these types, one by one
abbrev pub AreOf : List ValType → List Value → Type 0
AreOf [] [] = Unit {0}
AreOf [] (v ∷ vs) = ⊥
AreOf (t ∷ ts) [] = ⊥
AreOf (t ∷ ts) (v ∷ vs) = (has_type t v ≡ true) × AreOf ts vs

-- a value stands where typing knows this; no value is of any type
abbrev pub IsOne : Operand → Value → Type 0
IsOne None v = ⊥
IsOne (Some t) v = has_type t v ≡ true

abbrev pub Fit : List Operand → List Value → Type 0
Fit [] [] = Unit {0}
Fit [] (v ∷ vs) = ⊥
Fit (o ∷ os) [] = ⊥
Fit (o ∷ os) (v ∷ vs) = IsOne o v × Fit os vs

-- the operands of the block at hand are those that typing knows, and the operator at hand is reached
abbrev pub Falls : Walk → List Value → Type 0
Falls now vs = (now.loose ≡ false) × Fit now.types vs

-- Sequences.

-- each operator that stands as plain is so, and its parts are what they may be in a body with so many targets
abbrev pub IsFair : (targets : ℕ) → Sequence → Type 0
IsFair targets Done = Unit {0}
IsFair targets (Plain o rest) = IsPlain o × IsOperator targets o × IsFair targets rest
IsFair targets (InBlock t body rest) = IsFair targets body × IsFair targets rest
IsFair targets (InLoop t body rest) = IsFair targets body × IsFair targets rest
IsFair targets (InIf t inner rest) = IsFair targets inner × IsFair targets rest
IsFair targets (InIfElse t inner other rest) = IsFair targets inner × IsFair targets other × IsFair targets rest

-- what the rules speak of in a function
abbrev pub inside : Module → Function → Context
inside m f = record { whole = m; locals = f.params ++ f.locals; targets = f.targets; result = f.result; labels = f.result ∷ [] }

-- Frames and the store.

-- the locals are of their types, and the frame has the targets of its function
pub record FrameFits (cx : Context) (frame : Frame) : Type 0 where
  pub locals : AreOf cx.locals frame.locals
  pub targets : frame.targets ≡ cx.targets

abbrev pub types_of : List GlobalType → List ValType
types_of gs = map (λ (g : GlobalType). g.value) gs

-- the module has a function with this index
pub record HasType (m : Module) (index : ℕ) : Type 0 where
  pub type : FuncType
  pub is : function_type m index ≡ Some type

-- the globals are of their types, and the table names functions that there are
pub record StoreFits (m : Module) (store : Store) : Type 0 where
  pub variables : AreOf (types_of (globals m)) store.globals
  pub table : (place index : ℕ) → slice_get store.table place ≡ Some (Some index) → HasType m index
