-- An alignment of 2^8 or more is above each width.
use Rattle.std.proofs.Common.{◌≡◌, ◌^◌, ◌<◌, ◌≤◌, false, nat_lt, nat_le, sym, ◌∙◌, arith}
use Rattle.std.proofs.lemmas.Bool.{lt-leb, le-ltb}
use Rattle.std.proofs.Math.Nat.{pow-le-pow_right}
use Rattle.wasm_typing.proofs.operators.is_aligned.Goals as goal

pub returns-else-align-lt8 : goal.returns-else-align-lt8
returns-else-align-lt8 c =
    let large : 2 ^ 8 ≤ 2 ^ c.args.align = pow-le-pow_right {n = 2} (omega arith) {i = 8} {j = c.args.align} c.if-align-lt8.false in
    let above : c.args.width < 2 ^ c.args.align = omega arith in
    let one : nat_lt c.args.align 8 ≡ false = le-ltb c.args.align 8 c.if-align-lt8.false in
    let other : nat_le (2 ^ c.args.align) c.args.width ≡ false = lt-leb (2 ^ c.args.align) c.args.width above in
    one ∙ sym other
