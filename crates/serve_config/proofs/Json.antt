-- What `serde_json` answers, as the definition has it.
use Rattle.std.proofs.Common.{◌≡◌, ℕ, List, Bool, true, false, Some, None, Ok, Err, refl}
use Rattle.std.specs.Prelude.{IsUtf8, if◌then◌else◌}
use Rattle.std.specs.Str.{is_utf8}
use Rattle.std.proofs.lemmas.Str.{IsUtf8-from_is_utf8, is_utf8-from_IsUtf8}
use Rattle.serde_json.specs.Data.{Data}
use Rattle.serde_json.specs.Read.{read}
use Rattle.serve_config.specs.declared.refusals.Refusal.TheVariants.{NotJson}
use Rattle.serve_config.specs.Steps.{or_refuse}
use Rattle.serve_config.specs.Reading.{json_of}

pub json_read : (bytes : List ℕ) (d : Data) → IsUtf8 bytes → read bytes ≡ Some d → json_of bytes ≡ Ok d
json_read bytes d text is = rw (is_utf8-from_IsUtf8 bytes text, is) refl

pub json_refused : (bytes : List ℕ) → (IsUtf8 bytes → read bytes ≡ None) → json_of bytes ≡ Err NotJson
json_refused bytes none = by (is_utf8 bytes) refl
  where
    by : (b : Bool) → is_utf8 bytes ≡ b → or_refuse NotJson (if b then read bytes else None) ≡ Err NotJson
    by true e = rw (none (IsUtf8-from_is_utf8 bytes e)) refl
    by false e = refl
