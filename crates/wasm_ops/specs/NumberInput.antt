-- Numbers at a cursor: how they are read, and the number and place of each refusal (WebAssembly Core 1.0, section 5.2.2).
use Rattle.std.specs.Prelude.{◌≡◌, ℕ, ◌+◌, ◌-◌, List, length, Result, Ok, Err}
use Rattle.wasm_ops.specs.declared.faults.Fault.{Fault}
use Rattle.wasm_ops.specs.declared.numbers.Sign.{Sign}
use Rattle.wasm_ops.specs.declared.numbers.LebFault.{LebFault}
use Rattle.wasm_ops.specs.declared.numbers.LebFault.TheVariants.{CutShort, TooLong, SpareBits}
use Rattle.wasm_ops.specs.declared.faults.Refusal.TheVariants.{LebTooLong, LebSpare}
use Rattle.wasm_ops.specs.Refusals.{fault_at}
use Rattle.wasm_ops.specs.Input.{Input, end_of, cut_short}
use Rattle.wasm_ops.specs.Numbers.{SpellsNumber, RefusedNumber, number_at}

-- the number is spelt at the first place, and the second one is behind it in the same window
pub record ReadsNumber (sign : Sign) (bits : ℕ) (before : Input) (number : ℕ) (after : Input) : Type 0 where
  pub spelt : SpellsNumber sign bits before.left number after.left
  pub same_end : end_of after ≡ end_of before
  pub same_cut : after.cut ≡ before.cut

-- a refusal's number and place
abbrev pub fault_of : LebFault → Input → Fault
fault_of CutShort input = cut_short input
fault_of TooLong input = fault_at LebTooLong input.at
fault_of SpareBits input = fault_at LebSpare input.at

-- no number is spelt, for the reason that the fault tells
pub record RefusesNumber (sign : Sign) (bits : ℕ) (before : Input) (fault : Fault) : Type 0 where
  pub why : LebFault
  pub refused : RefusedNumber sign bits before.left why
  pub told : fault ≡ fault_of why before

-- the place behind what was read, where so many bytes are left
abbrev pub behind : Input → List ℕ → Input
behind before left = record { at = before.at + (length before.left - length left); left = left; cut = before.cut }

abbrev pub placed : Input → Result (ℕ × List ℕ) LebFault → Result (ℕ × Input) Fault
placed before (Ok read) = Ok (read.0, behind before read.1)
placed before (Err why) = Err (fault_of why before)

-- the number that is spelt there, or the fault
abbrev pub number_from : Sign → (bits : ℕ) → Input → Result (ℕ × Input) Fault
number_from sign bits before = placed before (number_at sign bits before.left)
