-- Reading one thing behind another, and bytes at a cursor (WebAssembly Core 1.0, section 5.1).
use Rattle.std.specs.Prelude.{◌≡◌, ℕ, ◌+◌, nat_lt, if◌then◌else◌, [], ◌∷◌, Result, Ok, Err}
use Rattle.wasm_ops.specs.declared.faults.Fault.{Fault}
use Rattle.wasm_ops.specs.Input.{Input, cut_short}

-- what is read, with the place behind it
abbrev pub Read : (A : Type 0) → Type 0
Read A = Result (A × Input) Fault

-- first the one thing, and behind it another that may depend on it
abbrev pub and_then : {A B : Type 0} → Read A → (A → Input → Read B) → Read B
and_then (Ok read) next = next read.0 read.1
and_then (Err fault) next = Err fault

-- what was read, as a part of something else
abbrev pub as_part : {A B : Type 0} → (A → B) → Read A → Read B
as_part view (Ok read) = Ok (view read.0, read.1)
as_part view (Err fault) = Err fault

-- nothing more is read where a number is above its limit
abbrev pub within : {A : Type 0} → (limit number : ℕ) → Fault → Read A → Read A
within limit number fault read = if nat_lt limit number then Err fault else read

-- the next byte, and the place behind it
pub record ReadsByte (before : Input) (byte : ℕ) (after : Input) : Type 0 where
  pub next : before.left ≡ byte ∷ after.left
  pub behind : after.at ≡ before.at + 1
  pub same_cut : after.cut ≡ before.cut

-- no byte is left
pub record LacksByte (before : Input) (fault : Fault) : Type 0 where
  pub ended : before.left ≡ []
  pub told : fault ≡ cut_short before
