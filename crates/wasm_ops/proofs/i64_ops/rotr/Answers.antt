use Rattle.std.proofs.Common.{◌≡◌, ◌%◌, ◌∙◌, arith}
use Rattle.wasm_ops.proofs.Rotations.{or-rotated_right}
use Rattle.wasm_ops.proofs.i64_ops.rotr.Goals as goal

pub returns : goal.returns
returns c =
    let once : c.args.b % 64 % 64 ≡ c.args.b % 64 = omega arith in
    c.rotate_right.ensures ∙ rw once (or-rotated_right 64 (c.args.b % 64) c.args.a (omega arith) (omega arith))
