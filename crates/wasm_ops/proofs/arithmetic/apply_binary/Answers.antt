-- The laws of traps, at what the operator's byte names.
use Rattle.std.proofs.Common.{ℕ, sym, subst}
use Rattle.wasm_ops.specs.Operations.{operation_of}
use Rattle.wasm_ops.specs.Arithmetic.{IsOperand}
use Rattle.wasm_ops.proofs.TrapLaws.{found-by_zero, found-overflow, found-traps}
use Rattle.wasm_ops.proofs.arithmetic.apply_binary.Goals as goal

pub returns-clause-by_zero : goal.returns-clause-by_zero
returns-clause-by_zero c =
    rw (← c.byte.ensures)
    (found-by_zero (operation_of c.byte.result) c.args.a c.args.b c.combine.result c.combine.ensures.value)

pub returns-clause-overflow : goal.returns-clause-overflow
returns-clause-overflow c =
    let InA : ℕ → Type 0 = λ byte. IsOperand byte c.args.a in
    let InB : ℕ → Type 0 = λ byte. IsOperand byte c.args.b in
    rw (← c.byte.ensures)
    (found-overflow (operation_of c.byte.result) c.args.a c.args.b c.combine.result c.combine.ensures.value
    (subst InA (sym c.byte.ensures) c.requires.a_of_its_type) (subst InB (sym c.byte.ensures) c.requires.b_of_its_type))

pub returns-clause-no_other : goal.returns-clause-no_other
returns-clause-no_other c =
    found-traps (operation_of c.byte.result) c.args.a c.args.b c.combine.result c.combine.ensures.value
