-- A body as nested sequences of instructions, and its flat form (WebAssembly Core 1.0, sections 2.4.5 and 5.4.1).
use Rattle.std.specs.Prelude.{ℕ, ◌+◌, Bool, true, false, IsTrue, List, [], ◌∷◌, ◌++◌, Option, Some, None}
use Rattle.wasm_ops.specs.declared.types.ValType.{ValType}
use Rattle.wasm_ops.specs.declared.operators.Op.{Op}
use Rattle.wasm_ops.specs.declared.operators.Op.TheVariants.{Block, Loop, If, Else, End}

-- a sequence of instructions: block, loop and if hold sequences of their own
pub data Sequence : Type 0 where
  Done : Sequence
  Plain : (op : Op) (rest : Sequence) → Sequence
  InBlock : (result : Option ValType) (body rest : Sequence) → Sequence
  InLoop : (result : Option ValType) (body rest : Sequence) → Sequence
  InIf : (result : Option ValType) (inner rest : Sequence) → Sequence
  InIfElse : (result : Option ValType) (inner other rest : Sequence) → Sequence

-- the operator opens no block and closes none
abbrev pub is_plain : Op → Bool
is_plain (Block result end) = false
is_plain (Loop result end) = false
is_plain (If result other end) = false
is_plain (Else end) = false
is_plain End = false
is_plain op = true

abbrev pub IsPlain : Op → Type 0
IsPlain op = IsTrue (is_plain op)

-- each operator that stands as plain is so
abbrev pub IsNested : Sequence → Type 0
IsNested Done = Unit {0}
IsNested (Plain op rest) = IsPlain op × IsNested rest
IsNested (InBlock result body rest) = IsNested body × IsNested rest
IsNested (InLoop result body rest) = IsNested body × IsNested rest
IsNested (InIf result inner rest) = IsNested inner × IsNested rest
IsNested (InIfElse result inner other rest) = IsNested inner × IsNested other × IsNested rest

-- how many operators the flat form has
abbrev pub size : Sequence → ℕ
size Done = 0
size (Plain op rest) = 1 + size rest
size (InBlock result body rest) = 2 + size body + size rest
size (InLoop result body rest) = 2 + size body + size rest
size (InIf result inner rest) = 2 + size inner + size rest
size (InIfElse result inner other rest) = 3 + size inner + size other + size rest

-- the flat form from a place on: each opening operator knows the places of what belongs to it
abbrev pub flat : ℕ → Sequence → List Op
flat at Done = []
flat at (Plain op rest) = op ∷ flat (at + 1) rest
flat at (InBlock result body rest) =
    Block result (at + 1 + size body) ∷ (flat (at + 1) body ++ End ∷ flat (at + 2 + size body) rest)
flat at (InLoop result body rest) =
    Loop result (at + 1 + size body) ∷ (flat (at + 1) body ++ End ∷ flat (at + 2 + size body) rest)
flat at (InIf result inner rest) =
    If result None (at + 1 + size inner) ∷ (flat (at + 1) inner ++ End ∷ flat (at + 2 + size inner) rest)
flat at (InIfElse result inner other rest) =
    If result (Some (at + 1 + size inner)) (at + 2 + size inner + size other)
    ∷ (flat (at + 1) inner ++ Else (at + 2 + size inner + size other)
    ∷ (flat (at + 2 + size inner) other ++ End ∷ flat (at + 3 + size inner + size other) rest))

-- the operators of a whole body, whose last one closes it
abbrev pub flat_body : Sequence → List Op
flat_body s = flat 0 s ++ End ∷ []
