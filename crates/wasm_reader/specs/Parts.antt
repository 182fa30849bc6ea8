-- What the parts of a module are spelt with: names, limits, constants and function types (WebAssembly Core 1.0, sections 5.2.4 and 5.3).
use Rattle.std.specs.Prelude.{ℕ, suc, zero, Bool, true, false, ◌==◌, ◌||◌, if◌then◌else◌, List, Option, Some, None}
use Rattle.wasm_ops.specs.declared.faults.Refusal.{Refusal}
use Rattle.wasm_ops.specs.declared.faults.Refusal.TheVariants.{FloatOperator, BadType, BadKind, BadLimits, BadConstant}
use Rattle.wasm_ops.specs.declared.modules.Constant.{Constant}
use Rattle.wasm_ops.specs.declared.numbers.Sign.TheVariants.{Signed}
use Rattle.wasm_ops.specs.declared.types.FuncType.{FuncType}
use Rattle.wasm_ops.specs.declared.types.Limits.{Limits}
use Rattle.wasm_ops.specs.declared.types.ValType.{ValType}
use Rattle.wasm_ops.specs.declared.types.ValType.TheVariants.{I32, I64}
use Rattle.wasm_ops.specs.Limits.{most_elements, most_parameters, most_results}
use Rattle.wasm_ops.specs.NameInput.{ReadsText, RefusesName, text_from}
use Rattle.wasm_code.specs.Types.{ReadsType, RefusesType, type_from}
use Rattle.wasm_reader.specs.Syntax.{Syntax, byte, integer, number, pure, map, checked, or_fault, limited, vector_within, ◌⨾◌}

-- just this byte
abbrev pub this : (wanted found : ℕ) → Option ℕ
this wanted found = if found == wanted then Some found else None

-- a byte that has to stand there; another one is no type
abbrev pub tag : (wanted : ℕ) → Syntax ℕ
tag wanted = checked (this wanted) (or_fault BadType) byte

-- a name: the length of its text in bytes, and the text in UTF-8
abbrev pub name : Syntax (List ℕ)
name = record { Reads = ReadsText; Refuses = RefusesName; read = text_from }

-- a value type
abbrev pub value_type : Syntax ValType
value_type = record { Reads = ReadsType; Refuses = RefusesType; read = type_from }

-- a byte that says no or yes
abbrev pub flag_of : ℕ → Option Bool
flag_of b = if b == 0 then Some false else (if b == 1 then Some true else None)

-- whether a global may be set
abbrev pub mutability : Syntax Bool
mutability = checked flag_of (or_fault BadKind) byte

-- limits: whether they have a greatest size, the least one, and the greatest
abbrev pub greatest : Bool → Syntax (Option ℕ)
greatest false = pure None
greatest true = map (λ most. Some most) number

abbrev pub bounds : ℕ → Option ℕ → Limits
bounds least most = record { least = least; most = most }

abbrev pub limits : (least_size : Syntax ℕ) → Syntax Limits
limits least_size = checked flag_of (or_fault BadLimits) byte ⨾ λ has_most. least_size ⨾ λ least. map (bounds least) (greatest has_most)

abbrev pub table : Syntax Limits
table = tag 0x70 ⨾ λ kind. limits (limited 0 most_elements)

abbrev pub memory : Syntax Limits
memory = limits number

-- a constant: the operator `i32.const` or `i64.const` with its number, and `end`
abbrev pub constant_of : ℕ → Option ValType
constant_of b = if b == 0x41 then Some I32 else (if b == 0x42 then Some I64 else None)

-- a constant of a float type has the refusal of a float operator
abbrev pub no_constant : ℕ → Refusal
no_constant b = if b == 0x43 || b == 0x44 then FloatOperator else BadConstant

abbrev pub constant_bits : ValType → Syntax ℕ
constant_bits I32 = integer Signed 32
constant_bits I64 = integer Signed 64

abbrev pub as_constant : ValType → ℕ → Constant
as_constant value bits = record { value = value; bits = bits }

abbrev pub constant : Syntax Constant
constant =
    checked constant_of (λ at b. or_fault (no_constant b) at b) byte ⨾ λ value. constant_bits value ⨾ λ bits.
    checked (this 0x0B) (or_fault BadConstant) byte ⨾ λ end. pure (as_constant value bits)

-- the result, where there is one
abbrev pub result_type : (count : ℕ) → Syntax (Option ValType)
result_type zero = pure None
result_type (suc count) = map (λ value. Some value) value_type

abbrev pub as_function_type : List ValType → Option ValType → FuncType
as_function_type params result = record { params = params; result = result }

abbrev pub function_type : Syntax FuncType
function_type =
    tag 0x60 ⨾ λ form. vector_within 0 most_parameters value_type ⨾ λ params. limited 0 most_results ⨾ λ count.
    map (as_function_type params) (result_type count)
