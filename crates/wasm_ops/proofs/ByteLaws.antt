-- What bytes spell is a number of so many bits, and what is behind it are bytes again.
use Rattle.std.proofs.Common.{inl, inr, ℕ, suc, ◌-◌, ◌^◌, ◌<◌, ◌≤◌, List, [], ◌∷◌, slice_index, subst, arith}
use Rattle.std.proofs.Math.Nat.{pow-le-pow_right}
use Rattle.wasm_ops.specs.declared.numbers.Sign.{Sign}
use Rattle.wasm_ops.specs.declared.numbers.Sign.TheVariants.{Unsigned, Signed}
use Rattle.wasm_ops.specs.Bytes.{AreBytes}
use Rattle.wasm_ops.specs.Numbers.{IsLast, SpellsNumber}
use Rattle.wasm_ops.proofs.Powers.{seven_fewer}

-- what a slice of bytes holds
pub all_bytes : (xs : List ℕ) → ((i : ℕ) → slice_index xs i < 2 ^ 8) → AreBytes xs
all_bytes [] each = tt
all_bytes (x ∷ xs) each = (each 0, all_bytes xs (λ i. each (suc i)))

half_within : (bits : ℕ) → 2 ^ (bits - 1) ≤ 2 ^ bits
half_within bits = pow-le-pow_right {n = 2} (omega arith) {i = bits - 1} {j = bits} (omega arith)

last_within : (sign : Sign) (bits byte number : ℕ) → IsLast sign bits byte number → number < 2 ^ bits
last_within Unsigned bits byte number is = let below = is.1 in let same = is.2 in omega arith
last_within Signed bits byte number (inl is) = let below = is.1 in let same = is.2 in let half = half_within bits in omega arith
last_within Signed bits byte number (inr is) =
    let below = is.1 in let reaches = is.2 in let same = is.3 in let half = half_within bits in omega arith

pub spelt_below
    : (sign : Sign) (bits : ℕ) (bytes : List ℕ) (number : ℕ) (rest : List ℕ) → AreBytes bytes → SpellsNumber sign bits bytes number rest
    → number < 2 ^ bits
spelt_below sign bits [] number rest are spelt = absurd spelt
spelt_below sign bits (byte ∷ bytes) number rest are (inl ends) = last_within sign bits byte number ends.0
spelt_below sign bits (byte ∷ bytes) number rest are (inr goes) =
    let high = spelt_below sign (bits - 7) bytes goes.0 rest are.1 goes.4 in
    let room = goes.2 in
    let more = goes.1 in
    let same = goes.3 in
    let fits = are.0 in
    let wider = seven_fewer bits (omega arith) in omega arith

pub spelt_bytes
    : (sign : Sign) (bits : ℕ) (bytes : List ℕ) (number : ℕ) (rest : List ℕ) → AreBytes bytes → SpellsNumber sign bits bytes number rest
    → AreBytes rest
spelt_bytes sign bits [] number rest are spelt = absurd spelt
spelt_bytes sign bits (byte ∷ bytes) number rest are (inl ends) = subst AreBytes ends.1 are.1
spelt_bytes sign bits (byte ∷ bytes) number rest are (inr goes) = spelt_bytes sign (bits - 7) bytes goes.0 rest are.1 goes.4
