-- The values of each type as numbers, and the signed numbers that stand for them (WebAssembly Core 1.0, sections 2.2.2 and 4.3.1).
use Rattle.std.specs.Prelude.{ℕ, ◌^◌, ◌<◌, ℤ}
use Rattle.std.specs.Int.{Width, w32, w64, cast_signed, cast_unsigned}
use Rattle.wasm_ops.specs.declared.types.ValType.{ValType}
use Rattle.wasm_ops.specs.declared.types.ValType.TheVariants.{I32, I64}

-- how many bits a value has
abbrev pub bits_of : ValType → ℕ
bits_of I32 = 32
bits_of I64 = 64

-- the same as the width of a machine word
abbrev pub width_of : ValType → Width
width_of I32 = w32
width_of I64 = w64

-- how many values there are
abbrev pub modulus : ValType → ℕ
modulus t = 2 ^ bits_of t

-- the number is a value of the type
abbrev pub IsOfType : ValType → ℕ → Type 0
IsOfType t n = n < modulus t

-- a value read in two's complement
abbrev pub signed : ValType → ℕ → ℤ
signed t n = cast_signed (width_of t) n

-- the value that is read so
abbrev pub unsigned : ValType → ℤ → ℕ
unsigned t z = cast_unsigned (width_of t) z
