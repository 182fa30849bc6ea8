-- The reader of numbers answers by the grammar, and refuses by the refusals.
use Rattle.std.proofs.Common.{◌≡◌, ◌⊎◌, inl, inr, ℕ, suc, ◌+◌, ◌-◌, ◌*◌, ◌^◌, ◌<◌, ◌≤◌, List, [], ◌∷◌, ◌++◌, length, Option, Some, None, Result, Ok, Err, refl, ap, sym, ◌∙◌, subst, arith}
use Rattle.std.proofs.lemmas.Bool.{cases_lt}
use Rattle.wasm_ops.specs.declared.numbers.Sign.{Sign}
use Rattle.wasm_ops.specs.declared.numbers.Sign.TheVariants.{Unsigned, Signed}
use Rattle.wasm_ops.specs.declared.numbers.LebFault.{LebFault}
use Rattle.wasm_ops.specs.declared.numbers.LebFault.TheVariants.{CutShort, TooLong, SpareBits}
use Rattle.wasm_ops.specs.Numbers.{IsLast, SpellsNumber, Continues, IsTooLong, HasSpareBits, RefusedNumber, most_bytes, last_bits, last_of, ended, continued, number_at}
use Rattle.wasm_ops.proofs.NumberSteps.{Byte, Last, More, Over, byte_of, number_at-last, number_at-more, number_at-over, last_found, last_only, last_fits, most_bytes-more, last_bits-more, last_bits-over}

-- What is read is spelt.

-- what the reader answers
abbrev pub Read : Type 0
Read = Result (ℕ × List ℕ) LebFault

pub read_parts : (read : Read) (p q : ℕ × List ℕ) → read ≡ Ok p → read ≡ Ok q → (p.0 ≡ q.0) × (p.1 ≡ q.1)
read_parts read p q to_p to_q = let same : p ≡ q = cc in (ap (λ (r : ℕ × List ℕ). r.0) same, ap (λ (r : ℕ × List ℕ). r.1) same)

ended_ok : (o : Option ℕ) (bytes : List ℕ) (number : ℕ) (rest : List ℕ) → ended o bytes ≡ Ok (number, rest) → (o ≡ Some number) × (bytes ≡ rest)
ended_ok None bytes number rest e = cc
ended_ok (Some m) bytes number rest e =
    let parts = read_parts (ended (Some m) bytes) (m, bytes) (number, rest) refl e in
    (ap (λ (n : ℕ). Some n) parts.0, parts.1)

-- what the rest of a number is, where the whole is this one
abbrev HasHigh : (byte : ℕ) → Read → ℕ → List ℕ → Type 0
HasHigh byte read number rest = (high : ℕ) × (read ≡ Ok (high, rest)) × (number ≡ 2 ^ 7 * high + (byte - 2 ^ 7))

continued_ok : (byte : ℕ) (read : Read) (number : ℕ) (rest : List ℕ) → continued byte read ≡ Ok (number, rest) → HasHigh byte read number rest
continued_ok byte (Err fault) number rest e = cc
continued_ok byte (Ok p) number rest e =
    let parts = read_parts (continued byte (Ok p)) (2 ^ 7 * p.0 + (byte - 2 ^ 7), p.1) (number, rest) refl e in
    (p.0, ap (λ (xs : List ℕ). let read : Read = Ok (p.0, xs) in read) parts.1, sym parts.0)

spelt_at
    : (sign : Sign) (bits byte : ℕ) (bytes : List ℕ) (number : ℕ) (rest : List ℕ)
    → ((high : ℕ) → number_at sign (bits - 7) bytes ≡ Ok (high, rest) → SpellsNumber sign (bits - 7) bytes high rest)
    → number_at sign bits (byte ∷ bytes) ≡ Ok (number, rest) → Byte bits byte → SpellsNumber sign bits (byte ∷ bytes) number rest
spelt_at sign bits byte bytes number rest further e (Last last) =
    let ends = ended_ok (last_of sign bits byte) bytes number rest (sym (number_at-last sign bits byte bytes last) ∙ e) in
    inl (last_found sign bits byte number last ends.0, ends.1)
spelt_at sign bits byte bytes number rest further e (More more room) =
    let goes = continued_ok byte (number_at sign (bits - 7) bytes) number rest (sym (number_at-more sign bits byte bytes more room) ∙ e) in
    inr (goes.0, more, room, goes.2, further goes.0 goes.1)
spelt_at sign bits byte bytes number rest further e (Over more full) =
    let over = number_at-over sign bits byte bytes more full in let bad : ⊥ = cc in absurd bad

pub number_spelt
    : (sign : Sign) (bits : ℕ) (bytes : List ℕ) (number : ℕ) (rest : List ℕ)
    → number_at sign bits bytes ≡ Ok (number, rest) → SpellsNumber sign bits bytes number rest
number_spelt sign bits [] number rest e = cc
number_spelt sign bits (byte ∷ bytes) number rest e =
    spelt_at sign bits byte bytes number rest (λ high. number_spelt sign (bits - 7) bytes high rest) e (byte_of bits byte)

-- What is spelt is read.

last_below : (sign : Sign) (bits byte number : ℕ) → IsLast sign bits byte number → byte < 2 ^ 7
last_below Unsigned bits byte number is = is.0
last_below Signed bits byte number (inl is) = omega arith
last_below Signed bits byte number (inr is) = is.1

pub spelt_number
    : (sign : Sign) (bits : ℕ) (bytes : List ℕ) (number : ℕ) (rest : List ℕ)
    → SpellsNumber sign bits bytes number rest → number_at sign bits bytes ≡ Ok (number, rest)
spelt_number sign bits [] number rest spelt = absurd spelt
spelt_number sign bits (byte ∷ bytes) number rest (inl ends) =
    let last = last_only sign bits byte number ends.0 in
    let read = number_at-last sign bits byte bytes (last_below sign bits byte number ends.0) in
    let same = ends.1 in cc
spelt_number sign bits (byte ∷ bytes) number rest (inr goes) =
    let high = spelt_number sign (bits - 7) bytes goes.0 rest goes.4 in
    let read = number_at-more sign bits byte bytes goes.1 goes.2 in
    let same = goes.3 in cc

-- What fails is refused.

refused_more
    : (sign : Sign) (bits byte : ℕ) (bytes : List ℕ) (fault : LebFault) → 2 ^ 7 ≤ byte → 7 < bits
    → RefusedNumber sign (bits - 7) bytes fault → RefusedNumber sign bits (byte ∷ bytes) fault
refused_more sign bits byte bytes CutShort more room refused =
    let most = most_bytes-more bits room in (omega arith, (more, refused.1))
refused_more sign bits byte bytes TooLong more room refused =
    let most = most_bytes-more bits room in
    let e = refused.2 in
    (byte ∷ refused.0, refused.1, cc, cc, (more, refused.4))
refused_more sign bits byte bytes SpareBits more room refused =
    let most = most_bytes-more bits room in
    let e = refused.3 in
    let P : ℕ → Type 0 = λ left. (number : ℕ) → IsLast sign left refused.1 number → ⊥ in
    (byte ∷ refused.0, refused.1, refused.2, cc, omega arith, (more, refused.5), refused.6, subst P (last_bits-more bits room) refused.7)

ended_err : (o : Option ℕ) (bytes : List ℕ) (fault : LebFault) → ended o bytes ≡ Err fault → (o ≡ None) × (fault ≡ SpareBits)
ended_err None bytes fault e = (refl, cc)
ended_err (Some m) bytes fault e = cc

continued_err : (byte : ℕ) (read : Read) (fault : LebFault) → continued byte read ≡ Err fault → read ≡ Err fault
continued_err byte (Err f) fault e = cc
continued_err byte (Ok p) fault e = cc

-- a last byte that spells nothing has spare bits
spare_last
    : (sign : Sign) (bits byte : ℕ) (bytes : List ℕ) → 0 < bits → byte < 2 ^ 7 → last_of sign bits byte ≡ None
    → (7 < bits) ⊎ (bits ≤ 7) → RefusedNumber sign bits (byte ∷ bytes) SpareBits
spare_last sign bits byte bytes some last e (inl room) = absurd (last_fits sign bits byte last room e)
spare_last sign bits byte bytes some last e (inr full) =
    let P : ℕ → Type 0 = λ left. (number : ℕ) → IsLast sign left byte number → ⊥ in
    let none : P bits = λ number is. let found = last_only sign bits byte number is in cc in
    ([], byte, bytes, refl, omega arith, tt, last, subst P (sym (last_bits-over bits some full)) none)

refused_at
    : (sign : Sign) (bits byte : ℕ) (bytes : List ℕ) (fault : LebFault) → 0 < bits
    → (7 < bits → number_at sign (bits - 7) bytes ≡ Err fault → RefusedNumber sign (bits - 7) bytes fault)
    → number_at sign bits (byte ∷ bytes) ≡ Err fault → Byte bits byte → RefusedNumber sign bits (byte ∷ bytes) fault
refused_at sign bits byte bytes fault some further e (Last last) =
    let ends = ended_err (last_of sign bits byte) bytes fault (sym (number_at-last sign bits byte bytes last) ∙ e) in
    let P : LebFault → Type 0 = RefusedNumber sign bits (byte ∷ bytes) in
    subst P (sym ends.1) (spare_last sign bits byte bytes some last ends.0 (cases_lt 7 bits))
refused_at sign bits byte bytes fault some further e (More more room) =
    let goes = continued_err byte (number_at sign (bits - 7) bytes) fault (sym (number_at-more sign bits byte bytes more room) ∙ e) in
    refused_more sign bits byte bytes fault more room (further room goes)
refused_at sign bits byte bytes fault some further e (Over more full) =
    let over = number_at-over sign bits byte bytes more full in
    let same : TooLong ≡ fault = cc in
    let P : LebFault → Type 0 = RefusedNumber sign bits (byte ∷ bytes) in
    subst P same (byte ∷ [], bytes, refl, omega arith, (more, tt))

pub number_refused
    : (sign : Sign) (bits : ℕ) (bytes : List ℕ) (fault : LebFault) → 0 < bits
    → number_at sign bits bytes ≡ Err fault → RefusedNumber sign bits bytes fault
number_refused sign bits [] fault some e =
    let P : LebFault → Type 0 = RefusedNumber sign bits [] in
    let same : CutShort ≡ fault = cc in subst P same (omega arith, tt)
number_refused sign bits (byte ∷ bytes) fault some e =
    refused_at sign bits byte bytes fault some (λ room. number_refused sign (bits - 7) bytes fault (omega arith)) e (byte_of bits byte)

-- What is refused fails.

too_long_less
    : (bits byte : ℕ) (bytes : List ℕ) → most_bytes bits ≡ suc (most_bytes (bits - 7)) → (front rest : List ℕ)
    → byte ∷ bytes ≡ front ++ rest → length front ≡ most_bytes bits → Continues front → IsTooLong (bits - 7) bytes
too_long_less bits byte bytes most [] rest e long goes = let bad : ⊥ = omega arith in absurd bad
too_long_less bits byte bytes most (b ∷ front) rest e long goes = (front, rest, cc, omega arith, goes.1)

spare_less
    : (sign : Sign) (bits byte : ℕ) (bytes : List ℕ) → 7 < bits → most_bytes bits ≡ suc (most_bytes (bits - 7)) → (front : List ℕ) (last : ℕ) (rest : List ℕ)
    → byte ∷ bytes ≡ front ++ last ∷ rest → length front + 1 ≡ most_bytes bits → Continues front → last < 2 ^ 7
    → ((number : ℕ) → IsLast sign (last_bits bits) last number → ⊥) → HasSpareBits sign (bits - 7) bytes
spare_less sign bits byte bytes room most [] last rest e long goes ends none = let bad : ⊥ = omega arith in absurd bad
spare_less sign bits byte bytes room most (b ∷ front) last rest e long goes ends none =
    let P : ℕ → Type 0 = λ left. (number : ℕ) → IsLast sign left last number → ⊥ in
    (front, last, rest, cc, omega arith, goes.1, ends, subst P (sym (last_bits-more bits room)) none)

-- a refusal goes on to the bytes behind a byte that says so
refused_less
    : (sign : Sign) (bits byte : ℕ) (bytes : List ℕ) (fault : LebFault) → 2 ^ 7 ≤ byte → 7 < bits
    → RefusedNumber sign bits (byte ∷ bytes) fault → RefusedNumber sign (bits - 7) bytes fault
refused_less sign bits byte bytes CutShort more room refused =
    let most = most_bytes-more bits room in (omega arith, refused.1.1)
refused_less sign bits byte bytes TooLong more room refused =
    too_long_less bits byte bytes (most_bytes-more bits room) refused.0 refused.1 refused.2 refused.3 refused.4
refused_less sign bits byte bytes SpareBits more room refused =
    spare_less sign bits byte bytes room (most_bytes-more bits room) refused.0 refused.1 refused.2 refused.3 refused.4 refused.5 refused.6 refused.7

no_value : (o : Option ℕ) → ((number : ℕ) → o ≡ Some number → ⊥) → o ≡ None
no_value None none = refl
no_value (Some number) none = absurd (none number refl)

-- a last byte is refused for its spare bits alone
too_long_last
    : (bits byte : ℕ) (bytes : List ℕ) → 0 < bits → byte < 2 ^ 7 → (front rest : List ℕ)
    → byte ∷ bytes ≡ front ++ rest → length front ≡ most_bytes bits → Continues front → ⊥
too_long_last bits byte bytes some last [] rest e long goes = omega arith
too_long_last bits byte bytes some last (b ∷ front) rest e long goes =
    let same : byte ≡ b = cc in let high = goes.0 in omega arith

spare_fails
    : (sign : Sign) (bits byte : ℕ) (bytes : List ℕ) → 0 < bits → byte < 2 ^ 7 → (front : List ℕ) (last : ℕ) (rest : List ℕ)
    → byte ∷ bytes ≡ front ++ last ∷ rest → length front + 1 ≡ most_bytes bits → Continues front
    → ((number : ℕ) → IsLast sign (last_bits bits) last number → ⊥) → last_of sign bits byte ≡ None
spare_fails sign bits byte bytes some below [] last rest e long goes none =
    let same : last ≡ byte = cc in
    let P : ℕ → ℕ → Type 0 = λ left byte. (number : ℕ) → IsLast sign left byte number → ⊥ in
    let none_here : P bits byte = subst (λ (b : ℕ). P bits b) same (subst (λ (left : ℕ). P left last) (last_bits-over bits some (omega arith)) none) in
    no_value (last_of sign bits byte) (λ number found. none_here number (last_found sign bits byte number below found))
spare_fails sign bits byte bytes some below (b ∷ front) last rest e long goes none =
    let same : byte ≡ b = cc in let high = goes.0 in let bad : ⊥ = omega arith in absurd bad

fails_last
    : (sign : Sign) (bits byte : ℕ) (bytes : List ℕ) (fault : LebFault) → 0 < bits → byte < 2 ^ 7
    → RefusedNumber sign bits (byte ∷ bytes) fault → number_at sign bits (byte ∷ bytes) ≡ Err fault
fails_last sign bits byte bytes CutShort some last refused =
    let high = refused.1.0 in let bad : ⊥ = omega arith in absurd bad
fails_last sign bits byte bytes TooLong some last refused =
    absurd (too_long_last bits byte bytes some last refused.0 refused.1 refused.2 refused.3 refused.4)
fails_last sign bits byte bytes SpareBits some last refused =
    let none = spare_fails sign bits byte bytes some last refused.0 refused.1 refused.2 refused.3 refused.4 refused.5 refused.7 in
    let read = number_at-last sign bits byte bytes last in cc

-- a byte that says that one too many follows is refused as too long
spare_over
    : (bits byte : ℕ) (bytes : List ℕ) → 2 ^ 7 ≤ byte → bits ≤ 7 → (front : List ℕ) (last : ℕ) (rest : List ℕ)
    → byte ∷ bytes ≡ front ++ last ∷ rest → length front + 1 ≡ most_bytes bits → last < 2 ^ 7 → ⊥
spare_over bits byte bytes more full [] last rest e long ends = let same : last ≡ byte = cc in omega arith
spare_over bits byte bytes more full (b ∷ front) last rest e long ends = omega arith

fails_over
    : (sign : Sign) (bits byte : ℕ) (bytes : List ℕ) (fault : LebFault) → 2 ^ 7 ≤ byte → bits ≤ 7
    → RefusedNumber sign bits (byte ∷ bytes) fault → number_at sign bits (byte ∷ bytes) ≡ Err fault
fails_over sign bits byte bytes CutShort more full refused = let short = refused.0 in let bad : ⊥ = omega arith in absurd bad
fails_over sign bits byte bytes TooLong more full refused = number_at-over sign bits byte bytes more full
fails_over sign bits byte bytes SpareBits more full refused =
    absurd (spare_over bits byte bytes more full refused.0 refused.1 refused.2 refused.3 refused.4 refused.6)

fails_at
    : (sign : Sign) (bits byte : ℕ) (bytes : List ℕ) (fault : LebFault) → 0 < bits
    → (7 < bits → RefusedNumber sign (bits - 7) bytes fault → number_at sign (bits - 7) bytes ≡ Err fault)
    → RefusedNumber sign bits (byte ∷ bytes) fault → Byte bits byte → number_at sign bits (byte ∷ bytes) ≡ Err fault
fails_at sign bits byte bytes fault some further refused (Last last) = fails_last sign bits byte bytes fault some last refused
fails_at sign bits byte bytes fault some further refused (More more room) =
    let fails = further room (refused_less sign bits byte bytes fault more room refused) in
    let read = number_at-more sign bits byte bytes more room in cc
fails_at sign bits byte bytes fault some further refused (Over more full) = fails_over sign bits byte bytes fault more full refused

-- no bytes are only cut short
none_too_long : (bits : ℕ) → 0 < bits → (front rest : List ℕ) → [] ≡ front ++ rest → length front ≡ most_bytes bits → ⊥
none_too_long bits some [] rest e long = omega arith
none_too_long bits some (b ∷ front) rest e long = cc

none_spare : (front : List ℕ) (last : ℕ) (rest : List ℕ) → [] ≡ front ++ last ∷ rest → ⊥
none_spare [] last rest e = cc
none_spare (b ∷ front) last rest e = cc

fails_none
    : (sign : Sign) (bits : ℕ) (fault : LebFault) → 0 < bits → RefusedNumber sign bits [] fault → number_at sign bits [] ≡ Err fault
fails_none sign bits CutShort some refused = refl
fails_none sign bits TooLong some refused = absurd (none_too_long bits some refused.0 refused.1 refused.2 refused.3)
fails_none sign bits SpareBits some refused = absurd (none_spare refused.0 refused.1 refused.2 refused.3)

pub refused_number
    : (sign : Sign) (bits : ℕ) (bytes : List ℕ) (fault : LebFault) → 0 < bits
    → RefusedNumber sign bits bytes fault → number_at sign bits bytes ≡ Err fault
refused_number sign bits [] fault some refused = fails_none sign bits fault some refused
refused_number sign bits (byte ∷ bytes) fault some refused =
    fails_at sign bits byte bytes fault some (λ room. refused_number sign (bits - 7) bytes fault (omega arith)) refused (byte_of bits byte)
