-- What the first byte says of a number: of how it is read, and of why it is refused.
use Rattle.std.proofs.Common.{◌≡◌, ◌≢◌, ◌⊎◌, inl, inr, ℕ, suc, ◌-◌, ◌^◌, ◌<◌, ◌≤◌, List, ◌∷◌, Some, None, Err, refl, arith}
use Rattle.std.proofs.lemmas.Bool.{cases_lt, lt-ltb, le-ltb}
use Rattle.wasm_ops.specs.declared.numbers.Sign.{Sign}
use Rattle.wasm_ops.specs.declared.numbers.Sign.TheVariants.{Unsigned, Signed}
use Rattle.wasm_ops.specs.declared.numbers.LebFault.TheVariants.{TooLong}
use Rattle.wasm_ops.specs.Numbers.{IsLast, most_bytes, last_bits, last_of, ended, continued, number_at}
use Rattle.wasm_ops.proofs.Powers.{seven_within}

-- a byte ends a number, is followed by another byte of it, or is one too many
pub data Byte (bits byte : ℕ) : Type 0 where
  Last : (last : byte < 2 ^ 7) → Byte bits byte
  More : (more : 2 ^ 7 ≤ byte) (room : 7 < bits) → Byte bits byte
  Over : (more : 2 ^ 7 ≤ byte) (full : bits ≤ 7) → Byte bits byte

more_or_over : (bits byte : ℕ) → 2 ^ 7 ≤ byte → (7 < bits) ⊎ (bits ≤ 7) → Byte bits byte
more_or_over bits byte more (inl room) = More more room
more_or_over bits byte more (inr full) = Over more full

any_byte : (bits byte : ℕ) → (byte < 2 ^ 7) ⊎ (2 ^ 7 ≤ byte) → Byte bits byte
any_byte bits byte (inl last) = Last last
any_byte bits byte (inr more) = more_or_over bits byte more (cases_lt 7 bits)

pub byte_of : (bits byte : ℕ) → Byte bits byte
byte_of bits byte = any_byte bits byte (cases_lt byte (2 ^ 7))

-- how the reader goes on at each
pub number_at-last
    : (sign : Sign) (bits byte : ℕ) (bytes : List ℕ) → byte < 2 ^ 7
    → number_at sign bits (byte ∷ bytes) ≡ ended (last_of sign bits byte) bytes
number_at-last sign bits byte bytes last = rw (lt-ltb byte (2 ^ 7) last) refl

pub number_at-more
    : (sign : Sign) (bits byte : ℕ) (bytes : List ℕ) → 2 ^ 7 ≤ byte → 7 < bits
    → number_at sign bits (byte ∷ bytes) ≡ continued byte (number_at sign (bits - 7) bytes)
number_at-more sign bits byte bytes more room = rw (le-ltb byte (2 ^ 7) more, lt-ltb 7 bits room) refl

pub number_at-over
    : (sign : Sign) (bits byte : ℕ) (bytes : List ℕ) → 2 ^ 7 ≤ byte → bits ≤ 7
    → number_at sign bits (byte ∷ bytes) ≡ Err TooLong
number_at-over sign bits byte bytes more full = rw (le-ltb byte (2 ^ 7) more, le-ltb 7 bits full) refl

-- a last byte is what its number says
pub last_found : (sign : Sign) (bits byte number : ℕ) → byte < 2 ^ 7 → last_of sign bits byte ≡ Some number → IsLast sign bits byte number
last_found Unsigned bits byte number last e = grind arith
last_found Signed bits byte number last e = grind arith

pub last_only : (sign : Sign) (bits byte number : ℕ) → IsLast sign bits byte number → last_of sign bits byte ≡ Some number
last_only Unsigned bits byte number is = grind arith
last_only Signed bits byte number is = grind arith

-- with more than seven bits each byte below 2^7 ends a number
pub last_fits : (sign : Sign) (bits byte : ℕ) → byte < 2 ^ 7 → 7 < bits → last_of sign bits byte ≢ None
last_fits Unsigned bits byte last room e = let all = seven_within bits (omega arith) in grind arith
last_fits Signed bits byte last room e =
    let all = seven_within bits (omega arith) in let half = seven_within (bits - 1) (omega arith) in grind arith

-- seven bits fewer take a byte fewer, and the last one is the same
pub most_bytes-more : (bits : ℕ) → 7 < bits → most_bytes bits ≡ suc (most_bytes (bits - 7))
most_bytes-more bits room = omega arith

pub last_bits-more : (bits : ℕ) → 7 < bits → last_bits (bits - 7) ≡ last_bits bits
last_bits-more bits room = omega arith

pub last_bits-over : (bits : ℕ) → 0 < bits → bits ≤ 7 → last_bits bits ≡ bits
last_bits-over bits some full = omega arith
