-- Numeric operators (WebAssembly Core 1.0, section 4.4.1).
use Rattle.std.specs.Prelude.{ℕ, Bool, true, false, Option, Some, None, Result, Ok, Err}
use Rattle.wasm_ops.specs.Arithmetic.{one_operand, two_operands}
use Rattle.wasm_ops.specs.Operations.{operand_of, result_of, takes_one}
use Rattle.wasm_ops.specs.declared.operations.Operation.{Operation}
use Rattle.wasm_ops.specs.declared.traps.Trap.{Trap}
use Rattle.wasm_meaning.specs.Effects.{Effect, Goes, Traps, Breaks, Taken, take_off}
use Rattle.wasm_meaning.specs.State.{State, push, with_operands}
use Rattle.wasm_meaning.specs.Values.{value_of}

-- t.unop, t.testop and conversions
abbrev pub unary_on : Operation → Option Taken → State → Effect
unary_on o None st = Breaks
unary_on o (Some a) st = Goes (push (value_of (result_of o) (one_operand o a.number)) (with_operands st a.under))

abbrev pub unary_of : (one : Bool) → Operation → State → Effect
unary_of false o st = Breaks
unary_of true o st = unary_on o (take_off (operand_of o) st.operands) st

abbrev pub unary_effect : Option Operation → State → Effect
unary_effect None st = Breaks
unary_effect (Some o) st = unary_of (takes_one o) o st

-- t.binop and t.relop
abbrev pub computed : Operation → Result ℕ Trap → State → Effect
computed o (Ok n) st = Goes (push (value_of (result_of o) n) st)
computed o (Err why) st = Traps why

abbrev pub binary_first : Operation → Option Taken → (b : ℕ) → State → Effect
binary_first o None b st = Breaks
binary_first o (Some a) b st = computed o (two_operands o a.number b) (with_operands st a.under)

-- the second operand is taken first
abbrev pub binary_on : Operation → Option Taken → State → Effect
binary_on o None st = Breaks
binary_on o (Some b) st = binary_first o (take_off (operand_of o) b.under) b.number st

abbrev pub binary_of : (one : Bool) → Operation → State → Effect
binary_of true o st = Breaks
binary_of false o st = binary_on o (take_off (operand_of o) st.operands) st

abbrev pub binary_effect : Option Operation → State → Effect
binary_effect None st = Breaks
binary_effect (Some o) st = binary_of (takes_one o) o st
