-- What is taken from a cursor by the readers of names is what the grammar has there.
use Rattle.std.proofs.Common.{◌≡◌, ◌⊎◌, inl, inr, ℕ, ◌+◌, ◌-◌, ◌<◌, ◌≤◌, Bool, true, false, List, ◌++◌, length, take, drop, if◌then◌else◌, Some, None, Result, Ok, Err, refl, ap, sym, ◌∙◌, subst, arith, length-append, length-drop}
use Rattle.std.proofs.lemmas.Bool.{cases_lt, le-leb, lt-leb}
use Rattle.std.proofs.lemmas.List.{take-append-drop, length-take-le}
use Rattle.std.proofs.Math.Seq.{take-append_seam, drop-append_seam}
use Rattle.std.proofs.lemmas.Str.{IsUtf8-from_is_utf8, is_utf8-from_IsUtf8}
use Rattle.std.specs.Str.{IsUtf8, is_utf8}
use Rattle.wasm_ops.specs.declared.faults.Fault.{Fault}
use Rattle.wasm_ops.specs.declared.numbers.Sign.TheVariants.{Unsigned}
use Rattle.wasm_ops.specs.Input.{Input, end_of, cut_short, Takes, bytes_from, IsDecided}
use Rattle.wasm_ops.specs.NumberInput.{ReadsNumber, RefusesNumber, number_from}
use Rattle.wasm_ops.specs.NameInput.{ReadsText, ReadsPair, RefusesName, not_utf8, known_text, text_behind, counted_from, text_from, place_of, placed_name, name_from}
use Rattle.wasm_ops.proofs.Answers.{IsAnswer, decided}
use Rattle.wasm_ops.proofs.InputLaws.{IsNumberAnswer, taken, same_input, same_cut_short}

-- both sides of a name's text at a cursor
abbrev pub IsTextAnswer : Result (List ℕ) Fault → (before after : Input) → Type 0
IsTextAnswer result before after = IsAnswer (List ℕ) (ReadsText before) (RefusesName before) result before after

-- the same of what the definition says
abbrev IsTextOf : Result (List ℕ × Input) Fault → Input → Type 0
IsTextOf (Ok read) before = IsTextAnswer (Ok read.0) before read.1
IsTextOf (Err fault) before = IsTextAnswer (Err fault) before before

-- The length: it is the only one.

counted : (before : Input) (len : ℕ) (start : Input) → number_from Unsigned 32 before ≡ Ok (len, start) → IsNumberAnswer Unsigned 32 (Ok len) before start
counted before len start e = taken Unsigned 32 (Ok len) before start (omega arith) e

uncounted : (before : Input) (fault : Fault) → number_from Unsigned 32 before ≡ Err fault → IsNumberAnswer Unsigned 32 (Err fault) before before
uncounted before fault e = taken Unsigned 32 (Err fault) before before (omega arith) (e, refl)

same_count
    : (before : Input) (len : ℕ) (start : Input) → IsNumberAnswer Unsigned 32 (Ok len) before start
    → (m : ℕ) (there : Input) → ReadsNumber Unsigned 32 before m there → (len ≡ m) × (start ≡ there)
same_count before len start answer m there reads = let same = answer.only m there reads in let equal = same.0 in (cc, same.1)

never_counted
    : (before : Input) (fault : Fault) → IsNumberAnswer Unsigned 32 (Err fault) before before
    → (m : ℕ) (there : Input) → ReadsNumber Unsigned 32 before m there → ⊥
never_counted before fault answer m there reads = let same = answer.only m there reads in let equal = same.0 in cc

-- a text that is read, and one that is refused
abbrev text_read : List ℕ → Result (List ℕ) Fault
text_read text = Ok text

abbrev refusal : Fault → Result (List ℕ) Fault
refusal fault = Err fault

uncounted_answer : (before : Input) (fault : Fault) → number_from Unsigned 32 before ≡ Err fault → IsTextAnswer (Err fault) before before
uncounted_answer before fault e =
    let answer = uncounted before fault e in
    record {
      found = tt;
      shorter = tt;
      only = λ text there reads. absurd (never_counted before fault answer (length text) reads.start reads.counted);
      refused = inl answer.refused;
      only_refused = λ other refuses. elim refuses [
        | inl number ↦ let same = answer.only_refused other number in let equal : fault ≡ other = cc in ap refusal equal
        | inr text ↦ elim text [
          | inl cuts ↦ absurd (never_counted before fault answer cuts.len cuts.start cuts.counted)
          | inr spoils ↦ absurd (never_counted before fault answer spoils.len spoils.start spoils.counted)
        ]
      ];
    }

-- a refusal of the number is none of a name that has one
number_stands
    : (before : Input) (len : ℕ) (start : Input) → IsNumberAnswer Unsigned 32 (Ok len) before start
    → (fault : Fault) → RefusesNumber Unsigned 32 before fault → ⊥
number_stands before len start answer fault refuses = let same = answer.only_refused fault refuses in cc

-- The text.

split_same : (xs front back : List ℕ) (n : ℕ) → xs ≡ front ++ back → length front ≡ n → (take n xs ≡ front) × (drop n xs ≡ back)
split_same xs front back n e whole =
    let front_taken = take-append_seam front back in
    let back_left = drop-append_seam front back in (cc, cc)

-- as many bytes as the text has are there
text_there : (start : Input) (text rest : List ℕ) (len : ℕ) → start.left ≡ text ++ rest → length text ≡ len → len ≤ length start.left
text_there start text rest len spelt whole = omega (arith, ap (λ (xs : List ℕ). length xs) spelt, length-append text rest)

cut_answer
    : (before : Input) (len : ℕ) (start : Input) → IsNumberAnswer Unsigned 32 (Ok len) before start
    → length start.left < len → IsTextAnswer (Err (cut_short start)) before before
cut_answer before len start answer short =
    let same_place : cut_short start ≡ cut_short before = same_cut_short start before answer.found.same_end answer.found.same_cut in
    record {
      found = tt;
      shorter = tt;
      only = λ text there reads.
          let same = same_count before len start answer (length text) reads.start reads.counted in
          let room = text_there reads.start text there.left (length text) reads.spelt refl in
          let count = same.0 in
          let lengths = ap (λ (input : Input). length input.left) same.1 in
          let bad : ⊥ = omega arith in absurd bad;
      refused = inr (inl record { len = len; start = start; counted = answer.found; short = short; told = same_place });
      only_refused = λ other refuses. elim refuses [
        | inl number ↦ absurd (number_stands before len start answer other number)
        | inr text ↦ elim text [
          | inl cuts ↦ ap refusal (same_place ∙ sym cuts.told)
          | inr spoils ↦
              let same = same_count before len start answer spoils.len spoils.start spoils.counted in
              let room = text_there spoils.start spoils.text spoils.rest spoils.len spoils.spelt spoils.whole in
              let lengths = ap (λ (input : Input). length input.left) same.1 in
              let bad : ⊥ = omega arith in absurd bad
        ]
      ];
    }

-- what a text behind the length is
same_text
    : (len : ℕ) (start : Input) (m : ℕ) (there : Input) (text rest : List ℕ) → (len ≡ m) × (start ≡ there)
    → there.left ≡ text ++ rest → length text ≡ m → (take len start.left ≡ text) × (drop len start.left ≡ rest)
same_text len start m there text rest same spelt whole =
    let lefts = ap (λ (input : Input). input.left) same.1 in
    let count = same.0 in
    split_same start.left text rest len (lefts ∙ spelt) (whole ∙ sym count)

abbrev behind_text : ℕ → Input → Input
behind_text len start = record { at = start.at + len; left = drop len start.left; cut = start.cut }

text_answer
    : (before : Input) (len : ℕ) (start : Input) → IsNumberAnswer Unsigned 32 (Ok len) before start
    → len ≤ length start.left → is_utf8 (take len start.left) ≡ true → IsTextAnswer (Ok (take len start.left)) before (behind_text len start)
text_answer before len start answer room utf8 =
    let same_end : end_of start ≡ end_of before = answer.found.same_end in
    let fewer : length start.left < length before.left = answer.shorter in
    let left = length-drop len start.left in
    let whole = length-take-le len start.left room in
    let Counted : ℕ → Type 0 = λ n. ReadsNumber Unsigned 32 before n start in
    record {
      found = record {
        start = start;
        counted = subst Counted (sym whole) answer.found;
        spelt = sym (take-append-drop len start.left);
        utf8 = IsUtf8-from_is_utf8 (take len start.left) utf8;
        same_end = omega arith;
        same_cut = answer.found.same_cut;
      };
      shorter = omega arith;
      only = λ text there reads.
          let same = same_count before len start answer (length text) reads.start reads.counted in
          let parts = same_text len start (length text) reads.start text there.left same reads.spelt refl in
          let ends = reads.same_end in
          let lengths = ap (λ (xs : List ℕ). length xs) parts.1 in
          (ap text_read parts.0, same_input (behind_text len start) there (omega arith) parts.1 (answer.found.same_cut ∙ sym reads.same_cut));
      refused = tt;
      only_refused = λ other refuses. elim refuses [
        | inl number ↦ absurd (number_stands before len start answer other number)
        | inr text ↦ elim text [
          | inl cuts ↦
              let same = same_count before len start answer cuts.len cuts.start cuts.counted in
              let lengths = ap (λ (input : Input). length input.left) same.1 in
              let short = cuts.short in
              let bad : ⊥ = omega arith in absurd bad
          | inr spoils ↦
              let same = same_count before len start answer spoils.len spoils.start spoils.counted in
              let parts = same_text len start spoils.len spoils.start spoils.text spoils.rest same spoils.spelt spoils.whole in
              absurd (spoils.spoilt (subst IsUtf8 parts.0 (IsUtf8-from_is_utf8 (take len start.left) utf8)))
        ]
      ];
    }

spoilt_answer
    : (before : Input) (len : ℕ) (start : Input) → IsNumberAnswer Unsigned 32 (Ok len) before start
    → len ≤ length start.left → is_utf8 (take len start.left) ≡ false → IsTextAnswer (Err (not_utf8 start)) before before
spoilt_answer before len start answer room spoilt =
    let no_text : IsUtf8 (take len start.left) → ⊥ = λ utf8. let passes = is_utf8-from_IsUtf8 (take len start.left) utf8 in cc in
    record {
      found = tt;
      shorter = tt;
      only = λ text there reads.
          let same = same_count before len start answer (length text) reads.start reads.counted in
          let parts = same_text len start (length text) reads.start text there.left same reads.spelt refl in
          absurd (no_text (subst IsUtf8 (sym parts.0) reads.utf8));
      refused = inr (inr record {
        len = len;
        start = start;
        text = take len start.left;
        rest = drop len start.left;
        counted = answer.found;
        spelt = sym (take-append-drop len start.left);
        whole = length-take-le len start.left room;
        spoilt = no_text;
        told = refl;
      });
      only_refused = λ other refuses. elim refuses [
        | inl number ↦ absurd (number_stands before len start answer other number)
        | inr text ↦ elim text [
          | inl cuts ↦
              let same = same_count before len start answer cuts.len cuts.start cuts.counted in
              let lengths = ap (λ (input : Input). length input.left) same.1 in
              let short = cuts.short in
              let bad : ⊥ = omega arith in absurd bad
          | inr spoils ↦
              let same = same_count before len start answer spoils.len spoils.start spoils.counted in
              ap refusal (ap (λ (input : Input). not_utf8 input) same.1 ∙ sym spoils.told)
        ]
      ];
    }

-- All cases.

text_at_bytes
    : (before : Input) (len : ℕ) (start : Input) → IsNumberAnswer Unsigned 32 (Ok len) before start → len ≤ length start.left
    → (passes : Bool) → is_utf8 (take len start.left) ≡ passes
    → IsTextOf (known_text start (if passes then Some (take len start.left) else None) (behind_text len start)) before
text_at_bytes before len start answer room true e = text_answer before len start answer room e
text_at_bytes before len start answer room false e = spoilt_answer before len start answer room e

text_at_start
    : (before : Input) (len : ℕ) (start : Input) → IsNumberAnswer Unsigned 32 (Ok len) before start
    → (length start.left < len) ⊎ (len ≤ length start.left) → IsTextOf (text_behind start (bytes_from len start)) before
text_at_start before len start answer (inl short) = rw (lt-leb len (length start.left) short) (cut_answer before len start answer short)
text_at_start before len start answer (inr room) =
    rw (le-leb len (length start.left) room) (text_at_bytes before len start answer room (is_utf8 (take len start.left)) refl)

text_at_number
    : (before : Input) (counting : Result (ℕ × Input) Fault) → number_from Unsigned 32 before ≡ counting → IsTextOf (counted_from counting) before
text_at_number before (Err fault) e = uncounted_answer before fault e
text_at_number before (Ok read) e =
    text_at_start before read.0 read.1 (counted before read.0 read.1 e) (cases_lt (length read.1.left) read.0)

pub text_stands : (before : Input) → IsTextOf (text_from before) before
text_stands before = text_at_number before (number_from Unsigned 32 before) refl

pub text_taken
    : (result : Result (List ℕ) Fault) (before after : Input) → Takes (text_from before) result before after → IsTextAnswer result before after
text_taken (Ok text) before after takes =
    let P : Result (List ℕ × Input) Fault → Type 0 = λ taken. IsTextOf taken before in subst P takes (text_stands before)
text_taken (Err fault) before after takes =
    let P : Result (List ℕ × Input) Fault → Type 0 = λ taken. IsTextOf taken before in
    let Q : Input → Type 0 = IsTextAnswer (Err fault) before in
    subst Q (sym takes.1) (subst P takes.0 (text_stands before))

-- each text of a name is spelt or refused, in one way

text_decided_as : (before : Input) (read : Result (List ℕ × Input) Fault) → IsTextOf read before → IsDecided (List ℕ) (ReadsText before) (RefusesName before)
text_decided_as before (Ok read) answer = decided (List ℕ) (ReadsText before) (RefusesName before) (Ok read.0) before read.1 answer
text_decided_as before (Err fault) answer = decided (List ℕ) (ReadsText before) (RefusesName before) (Err fault) before before answer

pub text_decided : (before : Input) → IsDecided (List ℕ) (ReadsText before) (RefusesName before)
text_decided before = text_decided_as before (text_from before) (text_stands before)

-- The same of the place of a name and its length.

-- the text lies before the place behind it
pub text_place : (before : Input) (text : List ℕ) (after : Input) (reads : ReadsText before text after) → reads.start.at + length text ≡ after.at
text_place before text after reads =
    let ends = reads.same_end in
    let starts = reads.counted.same_end in
    let lengths = ap (λ (xs : List ℕ). length xs) reads.spelt in
    let parts = length-append text after.left in
    omega arith

abbrev pub IsNameAnswer : Result (ℕ × ℕ) Fault → (before after : Input) → Type 0
IsNameAnswer result before after = IsAnswer (ℕ × ℕ) (ReadsPair before) (RefusesName before) result before after

abbrev IsNameOf : Result ((ℕ × ℕ) × Input) Fault → Input → Type 0
IsNameOf (Ok read) before = IsNameAnswer (Ok read.0) before read.1
IsNameOf (Err fault) before = IsNameAnswer (Err fault) before before

abbrev name_read : ℕ × ℕ → Result (ℕ × ℕ) Fault
name_read name = Ok name

name_same : (first len other more : ℕ) → first ≡ other → len ≡ more → name_read (first, len) ≡ Ok (other, more)
name_same first len other more at whole =
    ap (λ (n : ℕ). name_read (n, len)) at ∙ ap (λ (n : ℕ). name_read (other, n)) whole

read_answer : (before : Input) (text : List ℕ) (after : Input) → IsTextAnswer (Ok text) before after → IsNameAnswer (Ok (place_of text after)) before after
read_answer before text after answer =
    let place = text_place before text after answer.found in
    record {
      found = record { text = text; spelt = answer.found; placed = omega arith; whole = refl };
      shorter = answer.shorter;
      only = λ name there reads.
          let same = answer.only reads.text there reads.spelt in
          let texts = same.0 in
          let equal : text ≡ reads.text = cc in
          let lengths = ap (λ (xs : List ℕ). length xs) equal in
          let places = ap (λ (input : Input). input.at) same.1 in
          let there_place = text_place before reads.text there reads.spelt in
          let placed = reads.placed in
          let whole = reads.whole in
          (name_same (after.at - length text) (length text) name.0 name.1 (omega arith) (omega arith), same.1);
      refused = tt;
      only_refused = λ other refuses. let refused = answer.only_refused other refuses in let bad : ⊥ = cc in absurd bad;
    }

fault_answer : (before : Input) (fault : Fault) → IsTextAnswer (Err fault) before before → IsNameAnswer (Err fault) before before
fault_answer before fault answer =
    record {
      found = tt;
      shorter = tt;
      only = λ name there reads. let same = (answer.only reads.text there reads.spelt).0 in let bad : ⊥ = cc in absurd bad;
      refused = answer.refused;
      only_refused = λ other refuses.
          let same = answer.only_refused other refuses in
          let equal : fault ≡ other = cc in ap (λ (f : Fault). let result : Result (ℕ × ℕ) Fault = Err f in result) equal;
    }

name_of_text : (before : Input) (read : Result (List ℕ × Input) Fault) → IsTextOf read before → IsNameOf (placed_name read) before
name_of_text before (Ok read) answer = read_answer before read.0 read.1 answer
name_of_text before (Err fault) answer = fault_answer before fault answer

name_stands : (before : Input) → IsNameOf (name_from before) before
name_stands before = name_of_text before (text_from before) (text_stands before)

pub name_taken
    : (result : Result (ℕ × ℕ) Fault) (before after : Input) → Takes (name_from before) result before after → IsNameAnswer result before after
name_taken (Ok name) before after takes =
    let P : Result ((ℕ × ℕ) × Input) Fault → Type 0 = λ taken. IsNameOf taken before in subst P takes (name_stands before)
name_taken (Err fault) before after takes =
    let P : Result ((ℕ × ℕ) × Input) Fault → Type 0 = λ taken. IsNameOf taken before in
    let Q : Input → Type 0 = IsNameAnswer (Err fault) before in
    subst Q (sym takes.1) (subst P takes.0 (name_stands before))

-- each name is spelt or refused, in one way

decided_as : (before : Input) (read : Result ((ℕ × ℕ) × Input) Fault) → IsNameOf read before → IsDecided (ℕ × ℕ) (ReadsPair before) (RefusesName before)
decided_as before (Ok read) answer = decided (ℕ × ℕ) (ReadsPair before) (RefusesName before) (Ok read.0) before read.1 answer
decided_as before (Err fault) answer = decided (ℕ × ℕ) (ReadsPair before) (RefusesName before) (Err fault) before before answer

pub name_decided : (before : Input) → IsDecided (ℕ × ℕ) (ReadsPair before) (RefusesName before)
name_decided before = decided_as before (name_from before) (name_stands before)
