-- How a block's type refuses its item.
use Rattle.std.proofs.Common.{◌≡◌, ℕ, ◌<◌, ◌≤◌, List, Ok, Err, refl, ap, sym, ◌∙◌, ◌+◌, arith}
use Rattle.std.proofs.lemmas.Bool.{le-ltb}
use Rattle.wasm_ops.specs.declared.faults.Fault.{Fault}
use Rattle.wasm_ops.specs.Input.{Input, byte_from}
use Rattle.wasm_code.specs.declared.items.Opener.{Opener}
use Rattle.wasm_code.specs.declared.forms.Form.{Form}
use Rattle.wasm_code.specs.declared.forms.Form.TheVariants.{Opens}
use Rattle.wasm_code.specs.Forms.{form_of}
use Rattle.wasm_code.specs.Reading.{Read, and_then}
use Rattle.wasm_code.specs.Types.{block_type_from}
use Rattle.wasm_code.specs.Items.{Parsed, form_from, item_from}

form_fails
    : (form : Form) (opener : Opener) (depth : ℕ) (targets : List ℕ) (at : ℕ) (there : Input) (fault : Fault) → form ≡ Opens opener → depth < 1000
    → block_type_from there ≡ Err fault → form_from form depth targets at there ≡ Err fault
form_fails form opener depth targets at there fault e low fails = let room : depth + 1 ≤ 1000 = omega arith in rw (e, le-ltb 1000 (depth + 1) room, fails) refl

pub opens_fails
    : (depth : ℕ) (targets : List ℕ) (before : Input) (byte : ℕ) (there : Input) (opener : Opener) (fault : Fault)
    → byte_from before ≡ Ok (byte, there) → Opens opener ≡ form_of byte → depth < 1000 → block_type_from there ≡ Err fault
    → item_from depth targets before ≡ Err fault
opens_fails depth targets before byte there opener fault read e low fails =
    let next : ℕ → Input → Read Parsed = λ byte there. form_from (form_of byte) depth targets before.at there in
    ap (λ (r : Read ℕ). and_then r next) read ∙ form_fails (form_of byte) opener depth targets before.at there fault (sym e) low fails
