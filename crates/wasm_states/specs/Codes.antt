-- Where a sequence stands in the operators of a body (WebAssembly Core 1.0, sections 2.4.5 and 5.4.1).
use Rattle.std.specs.Prelude.{◌≡◌, ℕ, ◌+◌, List, Option, Some, None, slice_get}
use Rattle.wasm_ops.specs.declared.modules.Body.{Body}
use Rattle.wasm_ops.specs.declared.modules.Module.{Module}
use Rattle.wasm_ops.specs.declared.operators.Op.{Op}
use Rattle.wasm_ops.specs.declared.operators.Op.TheVariants.{Block, Loop, If, Else, End}
use Rattle.wasm_ops.specs.Sequence.{Sequence, Done, Plain, InBlock, InLoop, InIf, InIfElse, IsPlain, size}
use Rattle.wasm_meaning.specs.Programs.{Program, defined}
use Rattle.wasm_meaning.specs.State.{Function}
use Rattle.wasm_store.specs.View.{View}

-- the body with a number, and the function that it is the body of
pub record Code (m : Module) (number : ℕ) : Type 0 where
  pub function : Function
  pub body : Body
  pub known : slice_get (defined m) number ≡ Some function
  pub found : slice_get m.bodies number ≡ Some body

abbrev pub operator_in : Option Body → (place : ℕ) → Option Op
operator_in None place = None
operator_in (Some body) place = slice_get body.ops place

-- the operator at a place of the body with this number
abbrev pub operator_at : Module → (body place : ℕ) → Option Op
operator_at m body place = operator_in (slice_get m.bodies body) place

-- the operator that runs next
abbrev pub op_at : Program → View → Option Op
op_at p v = operator_at p.linked v.function v.place

abbrev pub target_in : Option Body → (place : ℕ) → Option ℕ
target_in None place = None
target_in (Some body) place = slice_get body.targets place

-- the label at a place among those of all its `br_table`s
abbrev pub target_at : Module → (body place : ℕ) → Option ℕ
target_at m body place = target_in (slice_get m.bodies body) place

-- the flat form of the sequence stands among the operators from a place on
abbrev pub Stands : List Op → (at : ℕ) → Sequence → Type 0
Stands ops at Done = Unit {0}
Stands ops at (Plain op rest) = IsPlain op × (slice_get ops at ≡ Some op) × Stands ops (at + 1) rest
Stands ops at (InBlock result body rest) =
    (slice_get ops at ≡ Some (Block result (at + 1 + size body)))
    × Stands ops (at + 1) body
    × (slice_get ops (at + 1 + size body) ≡ Some End)
    × Stands ops (at + 2 + size body) rest
Stands ops at (InLoop result body rest) =
    (slice_get ops at ≡ Some (Loop result (at + 1 + size body)))
    × Stands ops (at + 1) body
    × (slice_get ops (at + 1 + size body) ≡ Some End)
    × Stands ops (at + 2 + size body) rest
Stands ops at (InIf result inner rest) =
    (slice_get ops at ≡ Some (If result None (at + 1 + size inner)))
    × Stands ops (at + 1) inner
    × (slice_get ops (at + 1 + size inner) ≡ Some End)
    × Stands ops (at + 2 + size inner) rest
Stands ops at (InIfElse result inner other rest) =
    (slice_get ops at ≡ Some (If result (Some (at + 1 + size inner)) (at + 2 + size inner + size other)))
    × Stands ops (at + 1) inner
    × (slice_get ops (at + 1 + size inner) ≡ Some (Else (at + 2 + size inner + size other)))
    × Stands ops (at + 2 + size inner) other
    × (slice_get ops (at + 2 + size inner + size other) ≡ Some End)
    × Stands ops (at + 3 + size inner + size other) rest

-- where the code goes on behind a block whose closing operator stands at a place: an `else` goes past the `end` of its `if`
abbrev pub behind : (at : ℕ) → Option Op → Option ℕ
behind at (Some End) = Some (at + 1)
behind at (Some (Else end)) = Some (end + 1)
behind at o = None
