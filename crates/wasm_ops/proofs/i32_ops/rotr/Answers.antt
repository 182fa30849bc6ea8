use Rattle.std.proofs.Common.{◌%◌, ◌∙◌, arith}
use Rattle.wasm_ops.proofs.Rotations.{or-rotated_right}
use Rattle.wasm_ops.proofs.i32_ops.rotr.Goals as goal

pub returns : goal.returns
returns c = c.rotate_right.ensures ∙ or-rotated_right 32 (c.args.b % 32) c.args.a (omega arith) (omega arith)
