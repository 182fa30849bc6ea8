-- Spellings of whole numbers in LEB128, and why bytes spell none (WebAssembly Core 1.0, section 5.2.2).
use Rattle.std.specs.Prelude.{◌≡◌, ◌⊎◌, ℕ, ◌+◌, ◌-◌, ◌*◌, ◌/◌, ◌^◌, ◌<◌, ◌≤◌, nat_lt, nat_le, if◌then◌else◌, List, [], ◌∷◌, ◌++◌, length, Option, Some, None, Result, Ok, Err}
use Rattle.std.specs.List.{AllByRecursion}
use Rattle.wasm_ops.specs.declared.numbers.Sign.{Sign}
use Rattle.wasm_ops.specs.declared.numbers.Sign.TheVariants.{Unsigned, Signed}
use Rattle.wasm_ops.specs.declared.numbers.LebFault.{LebFault}
use Rattle.wasm_ops.specs.declared.numbers.LebFault.TheVariants.{CutShort, TooLong, SpareBits}

-- The grammar. A number of so many bits is below 2 ^ bits: a negative one stands as its two's complement, 2 ^ bits more than it is.

-- the byte ends a number of so many bits, and spells this one
abbrev pub IsLast : Sign → (bits byte number : ℕ) → Type 0
IsLast Unsigned bits byte number = (byte < 2 ^ 7) × (byte < 2 ^ bits) × (number ≡ byte)
IsLast Signed bits byte number =
    ((byte < 2 ^ 6) × (byte < 2 ^ (bits - 1)) × (number ≡ byte))
    ⊎ ((2 ^ 6 ≤ byte) × (byte < 2 ^ 7) × (2 ^ 7 ≤ byte + 2 ^ (bits - 1)) × (number ≡ byte + 2 ^ bits - 2 ^ 7))

-- the bytes begin with a spelling of the number, and the rest follows it
abbrev pub SpellsNumber : Sign → (bits : ℕ) (bytes : List ℕ) (number : ℕ) (rest : List ℕ) → Type 0
SpellsNumber sign bits [] number rest = ⊥
SpellsNumber sign bits (byte ∷ bytes) number rest =
    (IsLast sign bits byte number × (bytes ≡ rest))
    ⊎ ((high : ℕ) × (2 ^ 7 ≤ byte) × (7 < bits) × (number ≡ 2 ^ 7 * high + (byte - 2 ^ 7)) × SpellsNumber sign (bits - 7) bytes high rest)

-- The refusals.

-- each byte says that another one follows
abbrev pub Continues : List ℕ → Type 0
Continues = AllByRecursion (λ byte. 2 ^ 7 ≤ byte)

-- how many bytes a spelling may have: each has seven of the bits
abbrev pub most_bytes : (bits : ℕ) → ℕ
most_bytes bits = (bits + 6) / 7

-- how many of the bits the last one of these has
abbrev pub last_bits : (bits : ℕ) → ℕ
last_bits bits = bits - 7 * (most_bytes bits - 1)

-- the bytes are no more than the front of a spelling
abbrev pub IsCutShort : (bits : ℕ) → List ℕ → Type 0
IsCutShort bits bytes = (length bytes < most_bytes bits) × Continues bytes

-- as many bytes as a spelling may have say that another one follows
abbrev pub IsTooLong : (bits : ℕ) → List ℕ → Type 0
IsTooLong bits bytes = (front : List ℕ) × (rest : List ℕ) × (bytes ≡ front ++ rest) × (length front ≡ most_bytes bits) × Continues front

-- the last byte that a spelling may have says that none follows, and ends no number
abbrev pub HasSpareBits : Sign → (bits : ℕ) → List ℕ → Type 0
HasSpareBits sign bits bytes =
    (front : List ℕ) × (last : ℕ) × (rest : List ℕ) × (bytes ≡ front ++ last ∷ rest)
    × (length front + 1 ≡ most_bytes bits) × Continues front × (last < 2 ^ 7)
    × ((number : ℕ) → IsLast sign (last_bits bits) last number → ⊥)

-- the bytes are refused as a number of so many bits
abbrev pub RefusedNumber : Sign → (bits : ℕ) → List ℕ → LebFault → Type 0
RefusedNumber sign bits bytes CutShort = IsCutShort bits bytes
RefusedNumber sign bits bytes TooLong = IsTooLong bits bytes
RefusedNumber sign bits bytes SpareBits = HasSpareBits sign bits bytes

-- The same as a function, which answers for all bytes.

-- the number that a last byte spells
abbrev pub last_of : Sign → (bits byte : ℕ) → Option ℕ
last_of Unsigned bits byte = if nat_lt byte (2 ^ bits) then Some byte else None
last_of Signed bits byte =
    if nat_lt byte (2 ^ 6) then (if nat_lt byte (2 ^ (bits - 1)) then Some byte else None)
    else (if nat_le (2 ^ 7) (byte + 2 ^ (bits - 1)) then Some (byte + 2 ^ bits - 2 ^ 7) else None)

-- a last byte, with the bytes after it
abbrev pub ended : Option ℕ → List ℕ → Result (ℕ × List ℕ) LebFault
ended None rest = Err SpareBits
ended (Some number) rest = Ok (number, rest)

-- a byte with a continuation bit, before the rest of its number
abbrev pub continued : (byte : ℕ) → Result (ℕ × List ℕ) LebFault → Result (ℕ × List ℕ) LebFault
continued byte (Err fault) = Err fault
continued byte (Ok read) = Ok (2 ^ 7 * read.0 + (byte - 2 ^ 7), read.1)

-- the number that the bytes begin with, and the bytes after it
abbrev pub number_at : Sign → (bits : ℕ) → List ℕ → Result (ℕ × List ℕ) LebFault
number_at sign bits [] = Err CutShort
number_at sign bits (byte ∷ bytes) =
    if nat_lt byte (2 ^ 7) then ended (last_of sign bits byte) bytes
    else (if nat_lt 7 bits then continued byte (number_at sign (bits - 7) bytes) else Err TooLong)
