-- `from_utf8` succeeds exactly for UTF-8.
use Rattle.std.proofs.Common.{◌≡◌, ◌⊎◌, inl, inr, ℕ, true, false, List, Some, None, refl}
use Rattle.std.proofs.lemmas.Bool.{cases_Bool}
use Rattle.std.proofs.lemmas.Str.{IsUtf8-from_is_utf8, is_utf8-from_IsUtf8}
use Rattle.std.specs.Str.{IsUtf8, is_utf8}
use Rattle.wasm_ops.specs.NameInput.{as_text}
use Rattle.wasm_ops.proofs.cursors.text_of.Goals as goal

found : (bytes text : List ℕ) → text ≡ bytes → IsUtf8 bytes → Some text ≡ as_text bytes
found bytes text same is = rw (is_utf8-from_IsUtf8 bytes is, same) refl

missing : (bytes : List ℕ) → (IsUtf8 bytes → ⊥) → (is_utf8 bytes ≡ true) ⊎ (is_utf8 bytes ≡ false) → None ≡ as_text bytes
missing bytes no_text (inl passes) = absurd (no_text (IsUtf8-from_is_utf8 bytes passes))
missing bytes no_text (inr spoilt) = rw spoilt refl

pub returns-in-Ok : goal.returns-in-Ok
returns-in-Ok c = found c.args.bytes.now c.in-Ok.text.now c.in-Ok.ensures.cases.0 c.in-Ok.ensures.cases.1

pub returns-in-Err : goal.returns-in-Err
returns-in-Err c = missing c.args.bytes.now c.in-Err.ensures.cases.0 (cases_Bool (is_utf8 c.args.bytes.now))
