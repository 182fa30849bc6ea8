use Rattle.std.proofs.Common.{◌≡◌, ◌%◌, ◌∙◌, arith}
use Rattle.wasm_ops.proofs.Rotations.{or-rotated_left}
use Rattle.wasm_ops.proofs.i64_ops.rotl.Goals as goal

pub returns : goal.returns
returns c =
    let once : c.args.b % 64 % 64 ≡ c.args.b % 64 = omega arith in
    c.rotate_left.ensures ∙ rw once (or-rotated_left 64 (c.args.b % 64) c.args.a (omega arith) (omega arith))
