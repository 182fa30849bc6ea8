-- A rotation joins two parts of which no bit stands in both, so it is their sum.
use Rattle.std.proofs.Common.{◌≡◌, ℕ, zero, suc, ◌+◌, ◌-◌, ◌*◌, ◌/◌, ◌%◌, ◌^◌, ◌<◌, bit_or, ◌∙◌, subst, arith, add-zero}
use Rattle.std.proofs.Math.Nat.{mod-eq_of_lt, div-eq_of_lt, div-one, mod_self, mul-one, mul-mod_left, mul-div_cancel, div-lt_iff_lt-mul, sub-zero, mul_comm}
use Rattle.std.proofs.lemmas.Nat.{pow-add, pow_pos, mod-pow-add, or_shifted}
use Rattle.std.specs.Int.Bits.{or_self, or_shifted_r}

-- what a shift to the left by k places keeps, of j + k bits
shifted : (x j k : ℕ) → (x * 2 ^ k) % 2 ^ (j + k) ≡ (x % 2 ^ j) * 2 ^ k
shifted x j k =
    rw (mod-pow-add (x * 2 ^ k) j k, mul-mod_left x (2 ^ k), mul-div_cancel x (pow_pos k), add-zero)

-- the k highest of j + k bits are a number of k bits
highest_lt : (x j k : ℕ) → x < 2 ^ (j + k) → x / 2 ^ j < 2 ^ k
highest_lt x j k h =
    (div-lt_iff_lt-mul (pow_pos j)).1 (subst (λ (n : ℕ). x < n) (pow-add 2 j k ∙ mul_comm (2 ^ j) (2 ^ k)) h)

-- std joins the parts of a rotation by `or`: those of n bits, split into j and k
joined : (x n j k : ℕ) → n ≡ j + k → x < 2 ^ n →
    bit_or ((x * 2 ^ k) % 2 ^ n) (x / 2 ^ j) ≡ (x * 2 ^ k) % 2 ^ n + x / 2 ^ j
joined x n j k e h =
    let within : x < 2 ^ (j + k) = subst (λ (m : ℕ). x < 2 ^ m) e h in
    rw (e, shifted x j k) (or_shifted (x % 2 ^ j) k (x / 2 ^ j) (highest_lt x j k within))

joined_r : (x n j k : ℕ) → n ≡ j + k → x < 2 ^ n →
    bit_or (x / 2 ^ j) ((x * 2 ^ k) % 2 ^ n) ≡ x / 2 ^ j + (x * 2 ^ k) % 2 ^ n
joined_r x n j k e h =
    let within : x < 2 ^ (j + k) = subst (λ (m : ℕ). x < 2 ^ m) e h in
    rw (e, shifted x j k) (or_shifted_r (x % 2 ^ j) k (x / 2 ^ j) (highest_lt x j k within) ∙ omega arith)

-- by 0 places std joins the number with itself
unmoved : (n x : ℕ) → x < 2 ^ n →
    bit_or ((x * 2 ^ 0) % 2 ^ n) (x / 2 ^ ((n - 0) % n)) ≡ (x * 2 ^ 0) % 2 ^ n + x / 2 ^ (n - 0)
unmoved n x h = rw (mul-one, mod-eq_of_lt h, sub-zero, mod_self n, div-one, or_self, div-eq_of_lt h) (omega arith)

unmoved_r : (n x : ℕ) → x < 2 ^ n →
    bit_or (x / 2 ^ 0) ((x * 2 ^ ((n - 0) % n)) % 2 ^ n) ≡ x / 2 ^ 0 + (x * 2 ^ (n - 0)) % 2 ^ n
unmoved_r n x h = rw (sub-zero, mod_self n, div-one, mul-one, mod-eq_of_lt h, or_self, mul-mod_left) (omega arith)

-- std's rotations of n bits by k places are the sums of their parts
pub or-rotated_left : (n k x : ℕ) → k < n → x < 2 ^ n →
    bit_or ((x * 2 ^ k) % 2 ^ n) (x / 2 ^ ((n - k) % n)) ≡ (x * 2 ^ k) % 2 ^ n + x / 2 ^ (n - k)
or-rotated_left n zero x below h = unmoved n x h
or-rotated_left n (suc k) x below h =
    let part : (n - suc k) % n ≡ n - suc k = mod-eq_of_lt (omega arith) in
    rw part (joined x n (n - suc k) (suc k) (omega arith) h)

pub or-rotated_right : (n k x : ℕ) → k < n → x < 2 ^ n →
    bit_or (x / 2 ^ k) ((x * 2 ^ ((n - k) % n)) % 2 ^ n) ≡ x / 2 ^ k + (x * 2 ^ (n - k)) % 2 ^ n
or-rotated_right n zero x below h = unmoved_r n x h
or-rotated_right n (suc k) x below h =
    let part : (n - suc k) % n ≡ n - suc k = mod-eq_of_lt (omega arith) in
    rw part (joined_r x n (suc k) (n - suc k) (omega arith) h)
