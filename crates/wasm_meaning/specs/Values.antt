-- Values, which carry their type (WebAssembly Core 1.0, section 4.2.1).
use Rattle.std.specs.Prelude.{ℕ, Bool, true, false, List, map, Option, Some, None}
use Rattle.wasm_ops.specs.declared.types.ValType.{ValType}
use Rattle.wasm_ops.specs.declared.types.ValType.TheVariants.{I32, I64}

-- an integer of 32 or of 64 bits
pub data Value : Type 0 where
  Int32 : (number : ℕ) → Value
  Int64 : (number : ℕ) → Value

abbrev pub type_of : Value → ValType
type_of (Int32 n) = I32
type_of (Int64 n) = I64

-- the value of this type with this number
abbrev pub value_of : ValType → ℕ → Value
value_of I32 n = Int32 n
value_of I64 n = Int64 n

-- the number of a value, whatever its type; a machine's cell holds no more
abbrev pub number_in : Value → ℕ
number_in (Int32 n) = n
number_in (Int64 n) = n

abbrev pub numbers : List Value → List ℕ
numbers values = map number_in values

-- the number of a value that is of this type
abbrev pub number_of : ValType → Value → Option ℕ
number_of I32 (Int32 n) = Some n
number_of I64 (Int64 n) = Some n
number_of I32 (Int64 n) = None
number_of I64 (Int32 n) = None

-- the value is of this type
abbrev pub has_type : ValType → Value → Bool
has_type I32 (Int32 n) = true
has_type I64 (Int64 n) = true
has_type I32 (Int64 n) = false
has_type I64 (Int32 n) = false

-- what a declared local begins with
abbrev pub zero_of : ValType → Value
zero_of t = value_of t 0
