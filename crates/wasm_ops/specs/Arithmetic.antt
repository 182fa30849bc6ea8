-- What the integer operators compute, as whole-number arithmetic (WebAssembly Core 1.0, section 4.3.2; for the sign extensions Core 2.0, the same section).
use Rattle.std.specs.Prelude.{◌≡◌, ℕ, ◌+◌, ◌-◌, ◌*◌, ◌/◌, ◌%◌, ◌^◌, ◌==◌, ◌&&◌, Bool, not, nat_lt, nat_le, pos, neg_ℤ, Option, Some, IfSome, option_map, Result, Ok, Err, bit_and, bit_or, bit_xor, count_ones, int_div, int_rem, int_lt, int_le, if◌then◌else◌}
use Rattle.std.specs.Int.{Width, w8, w16, w32, cast_signed, from_bool, int_shr, leading_zeros, trailing_zeros}
use Rattle.wasm_ops.specs.declared.types.ValType.{ValType}
use Rattle.wasm_ops.specs.declared.types.ValType.TheVariants.{I32, I64}
use Rattle.wasm_ops.specs.declared.traps.Trap.{Trap}
use Rattle.wasm_ops.specs.declared.traps.Trap.TheVariants.{DivideByZero, IntegerOverflow}
use Rattle.wasm_ops.specs.declared.operations.Relation.{Relation}
use Rattle.wasm_ops.specs.declared.operations.Relation.TheVariants.{Eq, Ne, LtS, LtU, GtS, GtU, LeS, LeU, GeS, GeU}
use Rattle.wasm_ops.specs.declared.operations.BitCount.{BitCount}
use Rattle.wasm_ops.specs.declared.operations.BitCount.TheVariants.{Clz, Ctz, Popcnt}
use Rattle.wasm_ops.specs.declared.operations.SignExtension.{SignExtension}
use Rattle.wasm_ops.specs.declared.operations.SignExtension.TheVariants.{Extend8S, Extend16S, Extend32S}
use Rattle.wasm_ops.specs.declared.operations.Arithmetic.{Arithmetic}
use Rattle.wasm_ops.specs.declared.operations.Arithmetic.TheVariants.{Add, Sub, Mul, DivS, DivU, RemS, RemU, And, Or, Xor, Shl, ShrS, ShrU, Rotl, Rotr}
use Rattle.wasm_ops.specs.declared.operations.Operation.{Operation}
use Rattle.wasm_ops.specs.declared.operations.Operation.TheVariants.{Eqz, Compare, Count, Extend, Compute, Wrap, ExtendS, ExtendU}
use Rattle.wasm_ops.specs.Operations.{operation_of, operand_of, result_of}
use Rattle.wasm_ops.specs.Values.{bits_of, width_of, modulus, signed, unsigned, IsOfType}

-- whether the comparison holds
abbrev pub holds : ValType → Relation → ℕ → ℕ → Bool
holds t Eq a b = a == b
holds t Ne a b = not (a == b)
holds t LtS a b = int_lt (signed t a) (signed t b)
holds t LtU a b = nat_lt a b
holds t GtS a b = int_lt (signed t b) (signed t a)
holds t GtU a b = nat_lt b a
holds t LeS a b = int_le (signed t a) (signed t b)
holds t LeU a b = nat_le a b
holds t GeS a b = int_le (signed t b) (signed t a)
holds t GeU a b = nat_le b a

-- how many bits are counted
abbrev pub bit_count : ValType → BitCount → ℕ → ℕ
bit_count t Clz a = leading_zeros (width_of t) a
bit_count t Ctz a = trailing_zeros (width_of t) a
bit_count t Popcnt a = count_ones a

-- how many low bits are read, and the same as the width of a machine word
abbrev pub low_bits_of : SignExtension → ℕ
low_bits_of Extend8S = 8
low_bits_of Extend16S = 16
low_bits_of Extend32S = 32

abbrev pub low_width_of : SignExtension → Width
low_width_of Extend8S = w8
low_width_of Extend16S = w16
low_width_of Extend32S = w32

-- the low bits read in two's complement, and the value of the type that is read so
abbrev pub sign_extended : ValType → SignExtension → ℕ → ℕ
sign_extended t extension a = unsigned t (cast_signed (low_width_of extension) (a % 2 ^ low_bits_of extension))

-- the quotient and the remainder, whose divisor is not 0; a signed quotient rounds toward 0, and its remainder has the dividend's sign
abbrev pub div_s : ValType → ℕ → ℕ → Result ℕ Trap
div_s t a b =
    if b == 0 then Err DivideByZero else (
    if (a == 2 ^ (bits_of t - 1)) && (b == modulus t - 1) then Err IntegerOverflow else
    Ok (unsigned t (int_div (signed t a) (signed t b))))

abbrev pub div_u : ℕ → ℕ → Result ℕ Trap
div_u a b = if b == 0 then Err DivideByZero else Ok (a / b)

abbrev pub rem_s : ValType → ℕ → ℕ → Result ℕ Trap
rem_s t a b = if b == 0 then Err DivideByZero else Ok (unsigned t (int_rem (signed t a) (signed t b)))

abbrev pub rem_u : ℕ → ℕ → Result ℕ Trap
rem_u a b = if b == 0 then Err DivideByZero else Ok (a % b)

-- the number with its bits moved left by k places, where the k highest come in from below
abbrev pub rotated_left : ValType → ℕ → ℕ → ℕ
rotated_left t a k = (a * 2 ^ k) % modulus t + a / 2 ^ (bits_of t - k)

-- the number with its bits moved right by k places, where the k lowest come in from above
abbrev pub rotated_right : ValType → ℕ → ℕ → ℕ
rotated_right t a k = a / 2 ^ k + (a * 2 ^ (bits_of t - k)) % modulus t

-- what is computed from two integers, or the trap
abbrev pub compute : ValType → Arithmetic → ℕ → ℕ → Result ℕ Trap
compute t Add a b = Ok ((a + b) % modulus t)
compute t Sub a b = Ok ((a + modulus t - b) % modulus t)
compute t Mul a b = Ok ((a * b) % modulus t)
compute t DivS a b = div_s t a b
compute t DivU a b = div_u a b
compute t RemS a b = rem_s t a b
compute t RemU a b = rem_u a b
compute t And a b = Ok (bit_and a b)
compute t Or a b = Ok (bit_or a b)
compute t Xor a b = Ok (bit_xor a b)
compute t Shl a b = Ok ((a * 2 ^ (b % bits_of t)) % modulus t)
compute t ShrS a b = Ok (unsigned t (int_shr (signed t a) (b % bits_of t)))
compute t ShrU a b = Ok (a / 2 ^ (b % bits_of t))
compute t Rotl a b = Ok (rotated_left t a (b % bits_of t))
compute t Rotr a b = Ok (rotated_right t a (b % bits_of t))

-- what an operation on one operand gives; the others have none to give, and 0 stands there
abbrev pub one_operand : Operation → ℕ → ℕ
one_operand (Eqz _) a = from_bool (a == 0)
one_operand (Count t count) a = bit_count t count a
one_operand (Extend t extension) a = sign_extended t extension a
one_operand Wrap a = a % modulus I32
one_operand ExtendS a = unsigned I64 (signed I32 a)
one_operand ExtendU a = a
one_operand (Compare _ _) _ = 0
one_operand (Compute _ _) _ = 0

-- what an operation on two operands gives; likewise
abbrev pub two_operands : Operation → ℕ → ℕ → Result ℕ Trap
two_operands (Compare t relation) a b = Ok (from_bool (holds t relation a b))
two_operands (Compute t arithmetic) a b = compute t arithmetic a b
two_operands (Eqz _) _ _ = Ok 0
two_operands (Count _ _) _ _ = Ok 0
two_operands (Extend _ _) _ _ = Ok 0
two_operands Wrap _ _ = Ok 0
two_operands ExtendS _ _ = Ok 0
two_operands ExtendU _ _ = Ok 0

-- a quotient or a remainder is computed
abbrev pub IsDivision : Option Operation → Type 0
IsDivision (Some (Compute _ DivS)) = Unit {0}
IsDivision (Some (Compute _ DivU)) = Unit {0}
IsDivision (Some (Compute _ RemS)) = Unit {0}
IsDivision (Some (Compute _ RemU)) = Unit {0}
IsDivision _ = ⊥

-- a signed quotient of the least number by -1, which would be one more than the greatest
abbrev pub Overflows : Option Operation → ℕ → ℕ → Type 0
Overflows (Some (Compute t DivS)) a b = (signed t a ≡ neg_ℤ (pos (2 ^ (bits_of t - 1)))) × (signed t b ≡ neg_ℤ (pos 1))
Overflows _ _ _ = ⊥

-- the number is an operand of the operator with this byte; it is a result of it
abbrev pub IsOperand : (byte n : ℕ) → Type 0
IsOperand byte n = IfSome (operation_of byte) (λ operation. IsOfType (operand_of operation) n)

abbrev pub IsResult : (byte n : ℕ) → Type 0
IsResult byte n = IfSome (operation_of byte) (λ operation. IsOfType (result_of operation) n)

-- what the operator with this byte gives; nothing where it is no integer operator
abbrev pub unary_result : (byte a : ℕ) → Option ℕ
unary_result byte a = option_map (λ operation. one_operand operation a) (operation_of byte)

abbrev pub binary_result : (byte a b : ℕ) → Option (Result ℕ Trap)
binary_result byte a b = option_map (λ operation. two_operands operation a b) (operation_of byte)
