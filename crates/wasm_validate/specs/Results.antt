-- What typing says of a whole body, in the words of the standard (WebAssembly Core 1.0, section 3.4.1).
use Rattle.std.specs.Prelude.{◌≡◌, Bool, true, false, List, [], ◌∷◌, Option, Some, None, Ok}
use Rattle.wasm_ops.specs.declared.types.ValType.{ValType}
use Rattle.wasm_ops.specs.Sequence.{Sequence}
use Rattle.wasm_meaning.specs.TypingOperands.{Operand, Walk, start, fits}
use Rattle.wasm_meaning.specs.Typing.{Context, typed}

-- the operands are the result and nothing else; one that is never reached may be missing
abbrev pub IsJust : Option ValType → List Operand → (loose : Bool) → Type 0
IsJust None [] loose = Unit {0}
IsJust None (have ∷ types) loose = ⊥
IsJust (Some t) [] true = Unit {0}
IsJust (Some t) [] false = ⊥
IsJust (Some t) (have ∷ []) loose = fits (Some t) have ≡ true
IsJust (Some t) (have ∷ more ∷ types) loose = ⊥

-- the sequence is typed from an empty list to the result
pub record LeavesResult (cx : Context) (s : Sequence) : Type 0 where
  pub last : Walk
  pub is_typed : typed cx s start ≡ Ok last
  pub just : IsJust cx.result last.types last.loose
