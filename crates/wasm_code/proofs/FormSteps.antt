-- What a byte begins, where it is known whether it is that of an integer operator.
use Rattle.std.proofs.Common.{◌≡◌, ℕ, Bool, true, false, Option, Some, None, if◌then◌else◌, ap, sym, ◌∙◌}
use Rattle.std.specs.Option.{is_some}
use Rattle.wasm_ops.specs.declared.operations.Operation.{Operation}
use Rattle.wasm_ops.specs.IntOps.{is_int_op}
use Rattle.wasm_ops.specs.Operations.{operation_of}
use Rattle.wasm_code.specs.Forms.{form_with, form_of}

same_byte : (known : Bool) (byte op : ℕ) → (if known then Some byte else None) ≡ Some op → op ≡ byte
same_byte true byte op e = cc
same_byte false byte op e = let bad : ⊥ = cc in absurd bad

no_operation : (byte : ℕ) (operation : Option Operation) → (if is_some operation then Some byte else None) ≡ None → operation ≡ None
no_operation byte (Some operation) e = let bad : ⊥ = cc in absurd bad
no_operation byte None e = cc

pub integer_form
    : (byte op : ℕ) (operation : Operation) → (if is_int_op byte then Some byte else None) ≡ Some op → operation_of op ≡ Some operation
    → form_with op (Some operation) ≡ form_of byte
integer_form byte op operation found does =
    ap (λ (o : Option Operation). form_with op o) (sym does) ∙ ap (λ (n : ℕ). form_of n) (same_byte (is_int_op byte) byte op found)

pub other_form : (byte : ℕ) → (if is_int_op byte then Some byte else None) ≡ None → form_with byte None ≡ form_of byte
other_form byte none = ap (λ (o : Option Operation). form_with byte o) (sym (no_operation byte (operation_of byte) none))
