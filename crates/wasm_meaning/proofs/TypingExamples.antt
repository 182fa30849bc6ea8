-- Small bodies: the greatest height of each that is typed, or the rule that it breaks first and the place of the operator.
use Rattle.std.proofs.Common.{◌≡◌, ℕ, List, [], ◌∷◌, Option, Some, None, Result, Ok, Err, refl}
use Rattle.std.specs.Prelude.{true, false}
use Rattle.wasm_ops.specs.declared.types.ValType.{ValType}
use Rattle.wasm_ops.specs.declared.types.ValType.TheVariants.{I32, I64}
use Rattle.wasm_ops.specs.declared.types.Access.{Access}
use Rattle.wasm_ops.specs.declared.operators.Op.{Op}
use Rattle.wasm_ops.specs.declared.operators.Op.TheVariants.{Unreachable, Block, Loop, If, Else, End, Br, BrIf, BrTable, Return, Call, CallIndirect, Drop, Select, LocalGet, LocalSet, LocalTee, GlobalGet, GlobalSet, Load, Store, MemorySize, MemoryGrow, ConstI32, ConstI64, Unary, Binary}
use Rattle.wasm_ops.specs.declared.modules.Module.{Module}
use Rattle.wasm_meaning.specs.declared.violations.Rule.{Rule}
use Rattle.wasm_meaning.specs.declared.violations.Rule.TheVariants.{UnknownIndex, OperandType, StackHeight, BadAlign, LabelDepth, IfWithoutElse, ImmutableGlobal, BranchTypes}
use Rattle.wasm_meaning.specs.declared.violations.Violation.{Violation}
use Rattle.wasm_meaning.specs.Typing.{body_typed, nest_of}
use Rattle.wasm_meaning.specs.TypingOperands.{Walk}

-- The module: two function types and a function of each, a memory, an i32 that is mutable and an i64 that is not, and no table.

abbrev example : Module
example = record {
  types = record { params = []; result = None } ∷ record { params = I32 ∷ I64 ∷ []; result = Some I64 } ∷ [];
  imports = [];
  functions = 0 ∷ 1 ∷ [];
  tables = [];
  memories = record { least = 1; most = None } ∷ [];
  globals =
      record { value = I32; mutable = true; first = record { value = I32; bits = 0 } }
      ∷ record { value = I64; mutable = false; first = record { value = I64; bits = 0 } }
      ∷ [];
  exports = [];
  start = None;
  elements = [];
  bodies = [];
  segments = [];
}

-- what a walk tells here
abbrev heights : Result Walk Violation → Result ℕ Violation
heights (Ok walk) = Ok walk.most
heights (Err violation) = Err violation

-- A function with this result, an i32 as its parameter, an i64 as its local, and the labels 0 and 1 with 0 as the default.
abbrev outcome : Option ValType → List Op → Result ℕ Violation
outcome result ops =
    heights (body_typed example (record { params = I32 ∷ []; result = result }) (record { locals = I64 ∷ []; ops = ops; targets = 0 ∷ 1 ∷ 0 ∷ [] }))

abbrev breaks_at : Rule → ℕ → Result ℕ Violation
breaks_at rule place = Err (record { rule = rule; place = place })

abbrev word : Access
word = record { value = I32; width = 4; signed = false }

nothing : outcome None (End ∷ []) ≡ Ok 0
nothing = refl

add_on_nothing : outcome None (Binary 0x6A ∷ End ∷ []) ≡ breaks_at StackHeight 0
add_on_nothing = refl

eqz_of_an_i64 : outcome None (ConstI64 0 ∷ Unary 0x45 ∷ Drop ∷ End ∷ []) ≡ breaks_at OperandType 1
eqz_of_an_i64 = refl

-- the operand on top is looked at first
second_operand_missing : outcome None (ConstI64 0 ∷ Binary 0x6A ∷ End ∷ []) ≡ breaks_at OperandType 1
second_operand_missing = refl

if_without_else : outcome None (ConstI32 1 ∷ If (Some I32) None 3 ∷ ConstI32 7 ∷ End ∷ Drop ∷ End ∷ []) ≡ breaks_at IfWithoutElse 3
if_without_else = refl

-- before anything else there
if_without_else_or_result : outcome None (ConstI32 1 ∷ If (Some I32) None 2 ∷ End ∷ Drop ∷ End ∷ []) ≡ breaks_at IfWithoutElse 2
if_without_else_or_result = refl

both_branches
    : outcome (Some I32) (ConstI32 1 ∷ If (Some I32) (Some 3) 5 ∷ ConstI32 7 ∷ Else 5 ∷ ConstI32 8 ∷ End ∷ End ∷ []) ≡ Ok 1
both_branches = refl

first_branch_of_another_type
    : outcome (Some I32) (ConstI32 1 ∷ If (Some I32) (Some 3) 5 ∷ ConstI64 7 ∷ Else 5 ∷ ConstI32 8 ∷ End ∷ End ∷ []) ≡ breaks_at OperandType 3
first_branch_of_another_type = refl

operand_left_over : outcome None (ConstI32 1 ∷ End ∷ []) ≡ breaks_at StackHeight 1
operand_left_over = refl

operand_left_over_in_a_block : outcome None (Block None 2 ∷ ConstI32 1 ∷ End ∷ End ∷ []) ≡ breaks_at StackHeight 2
operand_left_over_in_a_block = refl

-- a block does not reach under its base
operand_under_a_block : outcome None (ConstI32 1 ∷ Block None 3 ∷ Drop ∷ End ∷ Drop ∷ End ∷ []) ≡ breaks_at StackHeight 2
operand_under_a_block = refl

-- the label of a block takes its result, that of a loop nothing
out_of_a_block : outcome None (Block (Some I64) 3 ∷ ConstI64 1 ∷ Br 0 ∷ End ∷ Drop ∷ End ∷ []) ≡ Ok 1
out_of_a_block = refl

out_of_a_block_with_nothing : outcome None (Block (Some I64) 2 ∷ Br 0 ∷ End ∷ Drop ∷ End ∷ []) ≡ breaks_at StackHeight 1
out_of_a_block_with_nothing = refl

back_to_a_loop : outcome None (Loop (Some I64) 2 ∷ Br 0 ∷ End ∷ Drop ∷ End ∷ []) ≡ Ok 1
back_to_a_loop = refl

unknown_label : outcome None (Block None 2 ∷ BrIf 2 ∷ End ∷ End ∷ []) ≡ breaks_at LabelDepth 1
unknown_label = refl

-- behind an operator that never goes on, a missing operand is of any type; what is laid has its own
never_reached : outcome (Some I32) (Unreachable ∷ End ∷ []) ≡ Ok 0
never_reached = refl

never_reached_select : outcome (Some I64) (Unreachable ∷ Select ∷ End ∷ []) ≡ Ok 1
never_reached_select = refl

never_reached_of_another_type : outcome (Some I32) (Return ∷ End ∷ []) ≡ breaks_at StackHeight 0
never_reached_of_another_type = refl

laid_behind_unreachable : outcome (Some I32) (Unreachable ∷ ConstI64 1 ∷ End ∷ []) ≡ breaks_at OperandType 2
laid_behind_unreachable = refl

-- a block that is never reached says nothing of what is behind it
reached_again : outcome None (Block None 2 ∷ Unreachable ∷ End ∷ Drop ∷ End ∷ []) ≡ breaks_at StackHeight 3
reached_again = refl

select_of_two_types : outcome None (ConstI32 1 ∷ ConstI64 1 ∷ ConstI32 0 ∷ Select ∷ Drop ∷ End ∷ []) ≡ breaks_at OperandType 3
select_of_two_types = refl

-- the labels 0 and 1 take the same, or not
table_of_labels : outcome None (Block None 3 ∷ ConstI32 0 ∷ BrTable 0 2 ∷ End ∷ End ∷ []) ≡ Ok 1
table_of_labels = refl

table_of_two_types : outcome None (Block (Some I32) 3 ∷ ConstI32 0 ∷ BrTable 0 2 ∷ End ∷ Drop ∷ End ∷ []) ≡ breaks_at BranchTypes 2
table_of_two_types = refl

-- locals and globals
locals : outcome (Some I64) (LocalGet 0 ∷ LocalSet 0 ∷ LocalGet 1 ∷ LocalTee 1 ∷ End ∷ []) ≡ Ok 1
locals = refl

unknown_local : outcome None (LocalGet 2 ∷ Drop ∷ End ∷ []) ≡ breaks_at UnknownIndex 0
unknown_local = refl

globals : outcome (Some I64) (GlobalGet 0 ∷ GlobalSet 0 ∷ GlobalGet 1 ∷ End ∷ []) ≡ Ok 1
globals = refl

immutable_global : outcome None (GlobalSet 1 ∷ End ∷ []) ≡ breaks_at ImmutableGlobal 0
immutable_global = refl

-- a call takes the last parameter first
call : outcome (Some I64) (ConstI32 1 ∷ ConstI64 2 ∷ Call 1 ∷ Call 0 ∷ End ∷ []) ≡ Ok 2
call = refl

call_with_operands_turned : outcome (Some I64) (ConstI64 2 ∷ ConstI32 1 ∷ Call 1 ∷ End ∷ []) ≡ breaks_at OperandType 2
call_with_operands_turned = refl

call_without_a_table : outcome None (ConstI32 1 ∷ CallIndirect 0 ∷ End ∷ []) ≡ breaks_at UnknownIndex 1
call_without_a_table = refl

-- memory
store_and_load
    : outcome (Some I32) (ConstI32 8 ∷ ConstI32 7 ∷ Store word 2 0 ∷ ConstI32 8 ∷ Load word 0 0 ∷ End ∷ []) ≡ Ok 2
store_and_load = refl

aligned_above_the_width : outcome None (Load word 3 0 ∷ Drop ∷ End ∷ []) ≡ breaks_at BadAlign 0
aligned_above_the_width = refl

grown : outcome (Some I32) (MemorySize ∷ MemoryGrow ∷ End ∷ []) ≡ Ok 1
grown = refl

-- the greatest number of open blocks
depths : nest_of (record { locals = []; ops = Loop None 5 ∷ Block None 2 ∷ End ∷ Block None 4 ∷ End ∷ End ∷ Block None 7 ∷ End ∷ End ∷ []; targets = [] }) ≡ 2
depths = refl

-- the list of a block stands on those around it
height_in_a_block
    : outcome None (ConstI32 1 ∷ Block (Some I32) 5 ∷ ConstI32 2 ∷ ConstI32 3 ∷ Drop ∷ End ∷ Drop ∷ Drop ∷ End ∷ []) ≡ Ok 3
height_in_a_block = refl
