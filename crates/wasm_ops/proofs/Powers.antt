-- Powers of two at the widths of numbers.
use Rattle.std.proofs.Common.{◌≡◌, ℕ, ◌+◌, ◌-◌, ◌*◌, ◌^◌, ◌<◌, ◌≤◌, ◌∙◌, ap, arith}
use Rattle.std.proofs.lemmas.Nat.{pow-add}
use Rattle.std.proofs.Math.Nat.{pow-le-pow_right}

-- seven bits fewer
pub seven_fewer : (bits : ℕ) → 7 ≤ bits → 2 ^ bits ≡ 2 ^ 7 * 2 ^ (bits - 7)
seven_fewer bits h = let e : bits ≡ 7 + (bits - 7) = omega arith in ap (λ n. 2 ^ n) e ∙ pow-add 2 7 (bits - 7)

-- seven low bits below a number of seven bits fewer
pub seven_lower : (bits high low : ℕ) → 7 < bits → high < 2 ^ (bits - 7) → low < 2 ^ 7 → high * 128 + low < 2 ^ bits
seven_lower bits high low h above below = let e = seven_fewer bits (omega arith) in omega arith

-- a number of at most 64 bits
pub fits_64 : (bits n : ℕ) → bits ≤ 64 → n < 2 ^ bits → n < 2 ^ 64
fits_64 bits n h below =
    let within : 2 ^ bits ≤ 2 ^ 64 = pow-le-pow_right {n = 2} (omega arith) {i = bits} {j = 64} h in omega arith

-- seven bits or more
pub seven_within : (bits : ℕ) → 7 ≤ bits → 2 ^ 7 ≤ 2 ^ bits
seven_within bits h = pow-le-pow_right {n = 2} (omega arith) {i = 7} {j = bits} h
