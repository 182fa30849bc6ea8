-- What each integer operator does, from its byte, and which types it takes and gives (WebAssembly Core 1.0, sections 2.4.1, 3.3.1 and 5.4.5;
-- for the sign extensions Core 2.0, sections 2.4.1, 3.3.1 and 5.4.8).
use Rattle.std.specs.Prelude.{◌≡◌, ℕ, ◌+◌, Bool, true, false, ◌==◌, nat_lt, if◌then◌else◌, List, [], ◌∷◌, ◌++◌, Option, Some, None, option_map}
use Rattle.wasm_ops.specs.declared.types.ValType.{ValType}
use Rattle.wasm_ops.specs.declared.types.ValType.TheVariants.{I32, I64}
use Rattle.wasm_ops.specs.declared.operations.Relation.TheVariants.{Eq, Ne, LtS, LtU, GtS, GtU, LeS, LeU, GeS, GeU}
use Rattle.wasm_ops.specs.declared.operations.BitCount.TheVariants.{Clz, Ctz, Popcnt}
use Rattle.wasm_ops.specs.declared.operations.SignExtension.TheVariants.{Extend8S, Extend16S, Extend32S}
use Rattle.wasm_ops.specs.declared.operations.Arithmetic.TheVariants.{Add, Sub, Mul, DivS, DivU, RemS, RemU, And, Or, Xor, Shl, ShrS, ShrU, Rotl, Rotr}
use Rattle.wasm_ops.specs.declared.operations.Operation.{Operation}
use Rattle.wasm_ops.specs.declared.operations.Operation.TheVariants.{Eqz, Compare, Count, Extend, Compute, Wrap, ExtendS, ExtendU}

-- The one table of the integer operators, in the standard's order. Which bytes they are, how many operands they take, and of which types, follows from it.

-- a row: a byte, and what its operator does
abbrev pub Rows : Type 0
Rows = List (ℕ × Operation)

-- rows of bytes that follow one another, from the first byte on
abbrev pub rows_from : (byte : ℕ) → List Operation → Rows
rows_from byte [] = []
rows_from byte (operation ∷ operations) = (byte, operation) ∷ rows_from (byte + 1) operations

-- the test for 0 and the comparisons
abbrev pub comparisons : ValType → List Operation
comparisons t =
    Eqz t ∷ Compare t Eq ∷ Compare t Ne ∷ Compare t LtS ∷ Compare t LtU ∷ Compare t GtS ∷ Compare t GtU
    ∷ Compare t LeS ∷ Compare t LeU ∷ Compare t GeS ∷ Compare t GeU ∷ []

-- the operations whose result is of the type of their operands
abbrev pub computations : ValType → List Operation
computations t =
    Count t Clz ∷ Count t Ctz ∷ Count t Popcnt ∷ Compute t Add ∷ Compute t Sub ∷ Compute t Mul
    ∷ Compute t DivS ∷ Compute t DivU ∷ Compute t RemS ∷ Compute t RemU ∷ Compute t And ∷ Compute t Or ∷ Compute t Xor
    ∷ Compute t Shl ∷ Compute t ShrS ∷ Compute t ShrU ∷ Compute t Rotl ∷ Compute t Rotr ∷ []

abbrev pub i32_comparisons : Rows
i32_comparisons = rows_from 0x45 (comparisons I32)

abbrev pub i64_comparisons : Rows
i64_comparisons = rows_from 0x50 (comparisons I64)

abbrev pub i32_computations : Rows
i32_computations = rows_from 0x67 (computations I32)

abbrev pub i64_computations : Rows
i64_computations = rows_from 0x79 (computations I64)

-- the operations that widen an integer's low bits with their sign
abbrev pub sign_extensions : List Operation
sign_extensions =
    Extend I32 Extend8S ∷ Extend I32 Extend16S ∷ Extend I64 Extend8S ∷ Extend I64 Extend16S ∷ Extend I64 Extend32S ∷ []

-- between the two types, and within one
abbrev pub conversions : Rows
conversions = (0xA7, Wrap) ∷ (0xAC, ExtendS) ∷ (0xAD, ExtendU) ∷ rows_from 0xC0 sign_extensions

abbrev pub all_rows : Rows
all_rows = i32_comparisons ++ i64_comparisons ++ i32_computations ++ i64_computations ++ conversions

-- what stands in the rows for the byte
abbrev pub look_up : Rows → (byte : ℕ) → Option Operation
look_up [] byte = None
look_up (row ∷ rows) byte = if byte == row.0 then Some row.1 else look_up rows byte

-- what the operator with this byte does, if the byte is that of an integer operator
abbrev pub operation_of : (byte : ℕ) → Option Operation
operation_of byte =
    if nat_lt byte 0x50 then look_up i32_comparisons byte else (
    if nat_lt byte 0x67 then look_up i64_comparisons byte else (
    if nat_lt byte 0x79 then look_up i32_computations byte else (
    if nat_lt byte 0xA7 then look_up i64_computations byte else
    look_up conversions byte)))

-- the operation takes one operand; every other one takes two
abbrev pub takes_one : Operation → Bool
takes_one (Eqz _) = true
takes_one (Count _ _) = true
takes_one (Extend _ _) = true
takes_one (Compare _ _) = false
takes_one (Compute _ _) = false
takes_one Wrap = true
takes_one ExtendS = true
takes_one ExtendU = true

-- the byte is that of an integer operator of one operand; of two
abbrev pub IsOfOne : (byte : ℕ) → Type 0
IsOfOne byte = option_map takes_one (operation_of byte) ≡ Some true

abbrev pub IsOfTwo : (byte : ℕ) → Type 0
IsOfTwo byte = option_map takes_one (operation_of byte) ≡ Some false

-- the type of each operand
abbrev pub operand_of : Operation → ValType
operand_of (Eqz t) = t
operand_of (Count t _) = t
operand_of (Extend t _) = t
operand_of (Compare t _) = t
operand_of (Compute t _) = t
operand_of Wrap = I64
operand_of ExtendS = I32
operand_of ExtendU = I32

-- the type of the result
abbrev pub result_of : Operation → ValType
result_of (Eqz _) = I32
result_of (Count t _) = t
result_of (Extend t _) = t
result_of (Compare _ _) = I32
result_of (Compute t _) = t
result_of Wrap = I32
result_of ExtendS = I64
result_of ExtendU = I64
