-- Value types and block types (WebAssembly Core 1.0, sections 5.3.1 and 5.3.2).
use Rattle.std.specs.Prelude.{◌≡◌, ◌⊎◌, ℕ, ◌==◌, ◌||◌, Option, Some, None, if◌then◌else◌, Ok, Err}
use Rattle.wasm_ops.specs.declared.faults.Fault.{Fault}
use Rattle.wasm_ops.specs.declared.types.ValType.{ValType}
use Rattle.wasm_ops.specs.declared.types.ValType.TheVariants.{I32, I64}
use Rattle.wasm_ops.specs.Input.{Input, byte_from}
use Rattle.wasm_ops.specs.declared.faults.Refusal.{Refusal}
use Rattle.wasm_ops.specs.declared.faults.Refusal.TheVariants as refusal
use Rattle.wasm_ops.specs.Refusals.{fault_at}
use Rattle.wasm_code.specs.Reading.{Read, and_then, ReadsByte, LacksByte}

-- the type that a byte is
abbrev pub type_of : ℕ → Option ValType
type_of byte = if byte == 0x7F then Some I32 else (if byte == 0x7E then Some I64 else None)

-- the result that a byte gives to a block: none, or a value of a type
abbrev pub block_type_of : ℕ → Option (Option ValType)
block_type_of byte =
    if byte == 0x40 then Some None
    else (if byte == 0x7F then Some (Some I32) else (if byte == 0x7E then Some (Some I64) else None))

-- why a byte that is neither is refused: it is a float type, or no type at all
abbrev pub no_type : ℕ → Refusal
no_type byte = if byte == 0x7D || byte == 0x7C then refusal.FloatType else refusal.BadType

-- a byte, and what it is
abbrev pub ReadsAs : {A : Type 0} → (of : ℕ → Option A) (before : Input) (x : A) (after : Input) → Type 0
ReadsAs of before x after =
    (byte : ℕ) × (there : Input) × ReadsByte before byte there × ((of byte ≡ Some x) × (after ≡ there))

-- no byte is left, or the next one is no type
abbrev pub RefusesAs : {A : Type 0} → (of : ℕ → Option A) (before : Input) (fault : Fault) → Type 0
RefusesAs of before fault =
    LacksByte before fault
    ⊎ ((byte : ℕ) × (there : Input) × ReadsByte before byte there
    × ((of byte ≡ None) × (fault ≡ fault_at (no_type byte) before.at)))

abbrev pub ReadsType : (before : Input) (value : ValType) (after : Input) → Type 0
ReadsType = ReadsAs type_of

abbrev pub RefusesType : (before : Input) (fault : Fault) → Type 0
RefusesType = RefusesAs type_of

abbrev pub ReadsBlockType : (before : Input) (result : Option ValType) (after : Input) → Type 0
ReadsBlockType = ReadsAs block_type_of

abbrev pub RefusesBlockType : (before : Input) (fault : Fault) → Type 0
RefusesBlockType = RefusesAs block_type_of

-- where a byte was read, the place behind it, else this one
abbrev pub read_behind : Input → Read ℕ → Input
read_behind before (Ok read) = read.1
read_behind before (Err fault) = before

-- behind the byte that comes next, if there is one
abbrev pub behind_byte : Input → Input
behind_byte before = read_behind before (byte_from before)

-- The same as functions.

abbrev pub typed : {A : Type 0} → (at byte : ℕ) → Option A → Input → Read A
typed at byte (Some x) after = Ok (x, after)
typed at byte None after = Err (fault_at (no_type byte) at)

abbrev pub as_from : {A : Type 0} → (of : ℕ → Option A) → Input → Read A
as_from of before = and_then (byte_from before) (λ byte after. typed before.at byte (of byte) after)

abbrev pub type_from : Input → Read ValType
type_from before = as_from type_of before

abbrev pub block_type_from : Input → Read (Option ValType)
block_type_from before = as_from block_type_of before
