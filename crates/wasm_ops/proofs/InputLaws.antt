-- What is taken from a cursor by the reader of numbers is what the grammar has there.
use Rattle.std.proofs.Common.{◌≡◌, inl, inr, ℕ, ◌-◌, ◌<◌, List, [], ◌∷◌, length, Result, Ok, Err, refl, ap, sym, ◌∙◌, subst, arith}
use Rattle.wasm_ops.specs.declared.faults.Fault.{Fault}
use Rattle.wasm_ops.specs.declared.numbers.Sign.{Sign}
use Rattle.wasm_ops.specs.declared.numbers.LebFault.{LebFault}
use Rattle.wasm_ops.specs.declared.faults.Refusal.{Refusal}
use Rattle.wasm_ops.specs.Refusals.{fault_at}
use Rattle.wasm_ops.specs.Input.{Input, Takes, IsDecided, cut_short, end_of}
use Rattle.wasm_ops.specs.Numbers.{SpellsNumber, number_at}
use Rattle.wasm_ops.specs.NumberInput.{ReadsNumber, RefusesNumber, fault_of, behind, placed, number_from}
use Rattle.wasm_ops.proofs.Answers.{IsAnswer, decided}
use Rattle.wasm_ops.proofs.NumberLaws.{Read, read_parts, number_spelt, spelt_number, number_refused, refused_number}

-- a spelling is not empty
pub spelt-shorter : (sign : Sign) (bits : ℕ) (bytes : List ℕ) (number : ℕ) (rest : List ℕ) → SpellsNumber sign bits bytes number rest → length rest < length bytes
spelt-shorter sign bits [] number rest spelt = absurd spelt
spelt-shorter sign bits (byte ∷ bytes) number rest (inl ends) = let same = ap (λ (xs : List ℕ). length xs) ends.1 in omega arith
spelt-shorter sign bits (byte ∷ bytes) number rest (inr goes) = let shorter = spelt-shorter sign (bits - 7) bytes goes.0 rest goes.4 in omega arith

pub same_input : (a b : Input) → a.at ≡ b.at → a.left ≡ b.left → a.cut ≡ b.cut → a ≡ b
same_input a b at left cut =
    let at_place : ℕ → Input = λ n. record { at = n; left = a.left; cut = a.cut } in
    let with_left : List ℕ → Input = λ xs. record { at = b.at; left = xs; cut = a.cut } in
    let with_cut : Refusal → Input = λ why. record { at = b.at; left = b.left; cut = why } in
    ap at_place at ∙ ap with_left left ∙ ap with_cut cut

-- one window ends where another one does, and is told alike
pub same_cut_short : (a b : Input) → end_of a ≡ end_of b → a.cut ≡ b.cut → cut_short a ≡ cut_short b
same_cut_short a b end cut = ap (λ (place : ℕ). fault_at a.cut place) end ∙ ap (λ (why : Refusal). fault_at why (end_of b)) cut

-- both sides of a number at a cursor
abbrev pub IsNumberAnswer : Sign → (bits : ℕ) → Result ℕ Fault → (before after : Input) → Type 0
IsNumberAnswer sign bits result before after = IsAnswer ℕ (ReadsNumber sign bits before) (RefusesNumber sign bits before) result before after

read_answer
    : (sign : Sign) (bits : ℕ) (before : Input) (read : ℕ × List ℕ) → 0 < bits → number_at sign bits before.left ≡ Ok read
    → IsNumberAnswer sign bits (Ok read.0) before (behind before read.1)
read_answer sign bits before read some e =
    let spelt = number_spelt sign bits before.left read.0 read.1 e in
    let shorter = spelt-shorter sign bits before.left read.0 read.1 spelt in
    record {
      found = record { spelt = spelt; same_end = omega arith; same_cut = refl };
      shorter = shorter;
      only = λ number there reads.
          let there_read = spelt_number sign bits before.left number there.left reads.spelt in
          let parts = read_parts (number_at sign bits before.left) read (number, there.left) e there_read in
          let same_end = reads.same_end in
          let lengths = ap (λ (xs : List ℕ). length xs) parts.1 in
          (ap (λ (n : ℕ). let result : Result ℕ Fault = Ok n in result) parts.0, same_input (behind before read.1) there (omega arith) parts.1 (sym reads.same_cut));
      refused = tt;
      only_refused = λ fault refuses.
          let fails = refused_number sign bits before.left refuses.why some refuses.refused in
          let bad : ⊥ = cc in absurd bad;
    }

fault_answer
    : (sign : Sign) (bits : ℕ) (before : Input) (why : LebFault) → 0 < bits → number_at sign bits before.left ≡ Err why
    → IsNumberAnswer sign bits (Err (fault_of why before)) before before
fault_answer sign bits before why some e =
    record {
      found = tt;
      shorter = tt;
      only = λ number there reads.
          let there_read = spelt_number sign bits before.left number there.left reads.spelt in
          let bad : ⊥ = cc in absurd bad;
      refused = record { why = why; refused = number_refused sign bits before.left why some e; told = refl };
      only_refused = λ fault refuses.
          let fails = refused_number sign bits before.left refuses.why some refuses.refused in
          let same : why ≡ refuses.why = cc in
          ap (λ (w : LebFault). let result : Result ℕ Fault = Err (fault_of w before) in result) same ∙ ap (λ (f : Fault). let result : Result ℕ Fault = Err f in result) (sym refuses.told);
    }

taken_ok
    : (sign : Sign) (bits : ℕ) (before after : Input) (number : ℕ) (read : Read) → 0 < bits → number_at sign bits before.left ≡ read
    → placed before read ≡ Ok (number, after) → IsNumberAnswer sign bits (Ok number) before after
taken_ok sign bits before after number (Ok read) some e takes =
    let P : ℕ × Input → Type 0 = λ there. IsNumberAnswer sign bits (Ok there.0) before there.1 in
    let same : (read.0, behind before read.1) ≡ (number, after) = cc in
    subst P same (read_answer sign bits before read some e)
taken_ok sign bits before after number (Err why) some e takes = let bad : ⊥ = cc in absurd bad

taken_err
    : (sign : Sign) (bits : ℕ) (before : Input) (fault : Fault) (read : Read) → 0 < bits → number_at sign bits before.left ≡ read
    → placed before read ≡ Err fault → IsNumberAnswer sign bits (Err fault) before before
taken_err sign bits before fault (Ok read) some e takes = let bad : ⊥ = cc in absurd bad
taken_err sign bits before fault (Err why) some e takes =
    let P : Fault → Type 0 = λ f. IsNumberAnswer sign bits (Err f) before before in
    let same : fault_of why before ≡ fault = cc in
    subst P same (fault_answer sign bits before why some e)

pub taken
    : (sign : Sign) (bits : ℕ) (result : Result ℕ Fault) (before after : Input) → 0 < bits
    → Takes (number_from sign bits before) result before after → IsNumberAnswer sign bits result before after
taken sign bits (Ok number) before after some takes = taken_ok sign bits before after number (number_at sign bits before.left) some refl takes
taken sign bits (Err fault) before after some takes =
    let P : Input → Type 0 = IsNumberAnswer sign bits (Err fault) before in
    subst P (sym takes.1) (taken_err sign bits before fault (number_at sign bits before.left) some refl takes.0)

-- each number is spelt or refused, in one way

decided_as
    : (sign : Sign) (bits : ℕ) (before : Input) (read : Result (ℕ × Input) Fault) → 0 < bits → number_from sign bits before ≡ read
    → IsDecided ℕ (ReadsNumber sign bits before) (RefusesNumber sign bits before)
decided_as sign bits before (Ok read) some e =
    decided ℕ (ReadsNumber sign bits before) (RefusesNumber sign bits before) (Ok read.0) before read.1 (taken sign bits (Ok read.0) before read.1 some e)
decided_as sign bits before (Err fault) some e =
    decided ℕ (ReadsNumber sign bits before) (RefusesNumber sign bits before) (Err fault) before before (taken sign bits (Err fault) before before some (e, refl))

pub number_decided
    : (sign : Sign) (bits : ℕ) (before : Input) → 0 < bits → IsDecided ℕ (ReadsNumber sign bits before) (RefusesNumber sign bits before)
number_decided sign bits before some = decided_as sign bits before (number_from sign bits before) some refl
