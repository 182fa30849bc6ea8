-- Numeric operators: what each leaves on the operands, and what it costs.
use Rattle.std.proofs.Common.{◌≡◌, [], ◌∷◌, refl}
use Rattle.wasm_ops.specs.declared.operators.Op.TheVariants.{ConstI32, ConstI64, Unary, Binary}
use Rattle.wasm_ops.specs.declared.traps.Trap.TheVariants.{DivideByZero, IntegerOverflow}
use Rattle.wasm_meaning.proofs.Examples.{line, ran, each_paid}
use Rattle.wasm_meaning.specs.State.{Fell, Trapped, Stuck}
use Rattle.wasm_meaning.specs.Values.{Int32, Int64}

constants : ran (ConstI32 7 ∷ ConstI64 8 ∷ []) ≡ line Fell (Int64 8 ∷ Int32 7 ∷ []) (each_paid 2)
constants = refl

-- i32.sub takes the second operand from the first, modulo 2^32
difference : ran (ConstI32 5 ∷ ConstI32 7 ∷ Binary 0x6B ∷ []) ≡ line Fell (Int32 4294967294 ∷ []) (each_paid 3)
difference = refl

-- i64.mul, modulo 2^64
product : ran (ConstI64 4294967296 ∷ ConstI64 4294967297 ∷ Binary 0x7E ∷ []) ≡ line Fell (Int64 4294967296 ∷ []) (each_paid 3)
product = refl

-- i32.div_s of -7 by 2 is -3
quotient : ran (ConstI32 4294967289 ∷ ConstI32 2 ∷ Binary 0x6D ∷ []) ≡ line Fell (Int32 4294967293 ∷ []) (each_paid 3)
quotient = refl

-- i64.lt_u gives an i32
below : ran (ConstI64 1 ∷ ConstI64 2 ∷ Binary 0x54 ∷ []) ≡ line Fell (Int32 1 ∷ []) (each_paid 3)
below = refl

-- a trap is paid, and its operands are taken
by_zero : ran (ConstI32 1 ∷ ConstI32 0 ∷ Binary 0x6E ∷ []) ≡ line (Trapped DivideByZero) (Int32 0 ∷ Int32 1 ∷ []) (each_paid 3)
by_zero = refl

overflow : ran (ConstI32 2147483648 ∷ ConstI32 4294967295 ∷ Binary 0x6D ∷ []) ≡ line (Trapped IntegerOverflow) (Int32 4294967295 ∷ Int32 2147483648 ∷ []) (each_paid 3)
overflow = refl

-- i32.rem_s of the same two is 0
no_overflow : ran (ConstI32 2147483648 ∷ ConstI32 4294967295 ∷ Binary 0x6F ∷ []) ≡ line Fell (Int32 0 ∷ []) (each_paid 3)
no_overflow = refl

-- i32.eqz, i64.clz
tests_and_counts : ran (ConstI64 1 ∷ Unary 0x79 ∷ ConstI32 0 ∷ Unary 0x45 ∷ []) ≡ line Fell (Int32 1 ∷ Int64 63 ∷ []) (each_paid 4)
unfolding lib.Count.count_leading_zeros
tests_and_counts = refl

-- i32.wrap_i64, i64.extend_i32_s, i64.extend_i32_u
wrapped : ran (ConstI64 4294967298 ∷ Unary 0xA7 ∷ []) ≡ line Fell (Int32 2 ∷ []) (each_paid 2)
wrapped = refl

extended : ran (ConstI32 4294967295 ∷ Unary 0xAC ∷ ConstI32 4294967295 ∷ Unary 0xAD ∷ []) ≡ line Fell (Int64 4294967295 ∷ Int64 18446744073709551615 ∷ []) (each_paid 4)
extended = refl

-- i32.extend8_s, i32.extend16_s and i64.extend32_s: what stands above the low bits counts for nothing
sign_of_low_bits
    : ran (ConstI32 128 ∷ Unary 0xC0 ∷ ConstI32 98303 ∷ Unary 0xC1 ∷ ConstI64 6442450944 ∷ Unary 0xC4 ∷ [])
    ≡ line Fell (Int64 18446744071562067968 ∷ Int32 32767 ∷ Int32 4294967168 ∷ []) (each_paid 6)
sign_of_low_bits = refl

-- an operand is missing, or of another type
missing : ran (ConstI32 1 ∷ Binary 0x6A ∷ []) ≡ line Stuck (Int32 1 ∷ []) (each_paid 2)
missing = refl

another_type : ran (ConstI64 1 ∷ Unary 0x45 ∷ []) ≡ line Stuck (Int64 1 ∷ []) (each_paid 2)
another_type = refl
