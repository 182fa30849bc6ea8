-- No other byte is that of an operator of one operand.
use Rattle.std.proofs.Common.{rules, ℕ, true, sym, subst}
use Rattle.wasm_ops.specs.Operations.{IsOfOne}
use Rattle.wasm_ops.proofs.OperandCounts.{none_takes}
use Rattle.wasm_ops.proofs.arithmetic.apply_unary.Goals as goal

pub unreachable-requires : goal.unreachable-requires
unreachable-requires c =
    let P : ℕ → Type 0 = IsOfOne in
    none_takes true c.byte.result (search rules) (search rules) (search rules) (search rules) (search rules)
    (subst P (sym c.byte.ensures) c.requires.takes_one)
