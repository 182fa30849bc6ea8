-- Names at a cursor: a length in bytes, and as many bytes of UTF-8 (WebAssembly Core 1.0, section 5.2.4).
use Rattle.std.specs.Prelude.{◌≡◌, ◌⊎◌, ℕ, ◌-◌, ◌<◌, List, ◌++◌, length, if◌then◌else◌, Option, Some, None, Result, Ok, Err}
use Rattle.std.specs.Str.{IsUtf8, is_utf8}
use Rattle.wasm_ops.specs.declared.faults.Fault.{Fault}
use Rattle.wasm_ops.specs.declared.faults.Refusal.TheVariants.{NotUtf8}
use Rattle.wasm_ops.specs.declared.numbers.Sign.TheVariants.{Unsigned}
use Rattle.wasm_ops.specs.Refusals.{fault_at}
use Rattle.wasm_ops.specs.Input.{Input, end_of, cut_short, bytes_from}
use Rattle.wasm_ops.specs.NumberInput.{ReadsNumber, RefusesNumber, number_from}

-- a name of this text is spelt at the first place, and the second one is behind it in the same window
pub record ReadsText (before : Input) (text : List ℕ) (after : Input) : Type 0 where
  pub start : Input
  pub counted : ReadsNumber Unsigned 32 before (length text) start
  pub spelt : start.left ≡ text ++ after.left
  pub utf8 : IsUtf8 text
  pub same_end : end_of after ≡ end_of before
  pub same_cut : after.cut ≡ before.cut

-- the same, of the place of the text's first byte and of its length
pub record ReadsName (before : Input) (first len : ℕ) (after : Input) : Type 0 where
  pub text : List ℕ
  pub spelt : ReadsText before text after
  pub placed : first ≡ spelt.start.at
  pub whole : len ≡ length text

abbrev pub ReadsPair : (before : Input) (name : ℕ × ℕ) (after : Input) → Type 0
ReadsPair before name after = ReadsName before name.0 name.1 after

-- the window ends within the text
pub record CutsName (before : Input) (fault : Fault) : Type 0 where
  pub len : ℕ
  pub start : Input
  pub counted : ReadsNumber Unsigned 32 before len start
  pub short : length start.left < len
  pub told : fault ≡ cut_short before

-- the text is no UTF-8
abbrev pub not_utf8 : Input → Fault
not_utf8 start = fault_at NotUtf8 start.at

pub record SpoilsName (before : Input) (fault : Fault) : Type 0 where
  pub len : ℕ
  pub start : Input
  pub text : List ℕ
  pub rest : List ℕ
  pub counted : ReadsNumber Unsigned 32 before len start
  pub spelt : start.left ≡ text ++ rest
  pub whole : length text ≡ len
  pub spoilt : IsUtf8 text → ⊥
  pub told : fault ≡ not_utf8 start

-- no name is spelt, for the reason that the fault tells
abbrev pub RefusesName : Input → Fault → Type 0
RefusesName before fault = RefusesNumber Unsigned 32 before fault ⊎ (CutsName before fault ⊎ SpoilsName before fault)

-- The same as functions.

abbrev pub as_text : List ℕ → Option (List ℕ)
as_text bytes = if is_utf8 bytes then Some bytes else None

-- the text of a name, behind its length
abbrev pub known_text : (start : Input) → Option (List ℕ) → Input → Result (List ℕ × Input) Fault
known_text start (Some text) after = Ok (text, after)
known_text start None after = Err (not_utf8 start)

abbrev pub text_behind : (start : Input) → Result (List ℕ × Input) Fault → Result (List ℕ × Input) Fault
text_behind start (Err fault) = Err fault
text_behind start (Ok read) = known_text start (as_text read.0) read.1

abbrev pub counted_from : Result (ℕ × Input) Fault → Result (List ℕ × Input) Fault
counted_from (Err fault) = Err fault
counted_from (Ok read) = text_behind read.1 (bytes_from read.0 read.1)

-- the text of the name that is spelt there, or the fault
abbrev pub text_from : Input → Result (List ℕ × Input) Fault
text_from before = counted_from (number_from Unsigned 32 before)

-- the place of its first byte, and its length
abbrev pub place_of : (text : List ℕ) (after : Input) → ℕ × ℕ
place_of text after = (after.at - length text, length text)

abbrev pub placed_name : Result (List ℕ × Input) Fault → Result ((ℕ × ℕ) × Input) Fault
placed_name (Err fault) = Err fault
placed_name (Ok read) = Ok (place_of read.0 read.1, read.1)

abbrev pub name_from : Input → Result ((ℕ × ℕ) × Input) Fault
name_from before = placed_name (text_from before)
