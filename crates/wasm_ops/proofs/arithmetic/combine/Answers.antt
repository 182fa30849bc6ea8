-- No other byte is that of an operator of two operands.
use Rattle.std.proofs.Common.{rules, false}
use Rattle.wasm_ops.proofs.OperandCounts.{none_takes}
use Rattle.wasm_ops.proofs.arithmetic.combine.Goals as goal

pub unreachable-requires : goal.unreachable-requires
unreachable-requires c =
    none_takes false c.args.byte (search rules) (search rules) (search rules) (search rules) (search rules) c.requires.takes_two
