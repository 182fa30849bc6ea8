use Rattle.std.proofs.Common.{◌%◌, ◌∙◌, arith}
use Rattle.wasm_ops.proofs.Rotations.{or-rotated_left}
use Rattle.wasm_ops.proofs.i32_ops.rotl.Goals as goal

pub returns : goal.returns
returns c = c.rotate_left.ensures ∙ or-rotated_left 32 (c.args.b % 32) c.args.a (omega arith) (omega arith)
