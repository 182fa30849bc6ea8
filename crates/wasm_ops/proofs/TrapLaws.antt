-- When the integer operators trap.
use Rattle.std.proofs.Common.{◌≡◌, ◌≢◌, ℕ, ◌-◌, ◌^◌, ◌<◌, ◌↔◌, ◌⊎◌, ◌==◌, ◌&&◌, Bool, true, false, Option, Some, None, IfSome, option_map, Result, Ok, Err, IfErr, if◌then◌else◌, int_div, int_rem, ◌/◌, ◌%◌, refl, subst, inl, inr, arith, pos, neg_ℤ}
use Rattle.std.proofs.lemmas.Bool.Decides.{nat_tests}
use Rattle.std.proofs.lemmas.Int.{ints}
use Rattle.wasm_ops.specs.declared.types.ValType.{ValType}
use Rattle.wasm_ops.specs.declared.types.ValType.TheVariants.{I32, I64}
use Rattle.wasm_ops.specs.declared.traps.Trap.{Trap}
use Rattle.wasm_ops.specs.declared.traps.Trap.TheVariants.{DivideByZero, IntegerOverflow}
use Rattle.wasm_ops.specs.declared.operations.Arithmetic.TheVariants.{DivS, DivU, RemS, RemU}
use Rattle.wasm_ops.specs.declared.operations.Operation.{Operation}
use Rattle.wasm_ops.specs.declared.operations.Operation.TheVariants.{Compute}
use Rattle.wasm_ops.specs.Operations.{operand_of}
use Rattle.wasm_ops.specs.Values.{bits_of, modulus, signed, unsigned, IsOfType}
use Rattle.wasm_ops.specs.Arithmetic.{two_operands, IsDivision, Overflows}

-- a number is no trap
ok_never : (x : ℕ) (trap : Trap) (P : Type 0) → Ok x ≡ Err trap → P
ok_never x trap P h = absurd (cc)

-- a test of the divisor comes first
tested : (b : ℕ) (r : Result ℕ Trap) → r ≢ Err DivideByZero →
    ((if b == 0 then Err DivideByZero else r) ≡ Err DivideByZero) ↔ (b ≡ 0)
tested b r h = grind (arith, nat_tests)

-- a second test, of another trap
overflow_tested : (test : Bool) (x : ℕ) → (if test then Err IntegerOverflow else Ok x) ≢ Err DivideByZero
overflow_tested true x h = absurd (cc)
overflow_tested false x h = absurd (cc)

never_by_zero : (x b : ℕ) → (Ok x ≡ Err DivideByZero) ↔ (⊥ × (b ≡ 0))
never_by_zero x b = (ok_never x DivideByZero _, λ h. absurd h.0)

division_by_zero : (b : ℕ) (r : Result ℕ Trap) → r ≢ Err DivideByZero →
    ((if b == 0 then Err DivideByZero else r) ≡ Err DivideByZero) ↔ (Unit {0} × (b ≡ 0))
division_by_zero b r ne = let t = tested b r ne in (λ h. (tt, t.0 h), λ h. t.1 h.1)

two_operands-by_zero : (o : Operation) (a b : ℕ) →
    (two_operands o a b ≡ Err DivideByZero) ↔ (IsDivision (Some o) × (b ≡ 0))
two_operands-by_zero (Compute t DivS) a b = division_by_zero b _ (overflow_tested _ _)
two_operands-by_zero (Compute t DivU) a b = division_by_zero b _ (ok_never _ _ _)
two_operands-by_zero (Compute t RemS) a b = division_by_zero b _ (ok_never _ _ _)
two_operands-by_zero (Compute t RemU) a b = division_by_zero b _ (ok_never _ _ _)
two_operands-by_zero _ a b = never_by_zero _ b

-- which numbers are read as the least one and as -1
least_is : (t : ValType) (a : ℕ) → a < modulus t →
    (signed t a ≡ neg_ℤ (pos (2 ^ (bits_of t - 1)))) ↔ (a ≡ 2 ^ (bits_of t - 1))
least_is I32 a h = grind (arith, ints)
least_is I64 a h = grind (arith, ints)

minus_one_is : (t : ValType) (b : ℕ) → b < modulus t →
    (signed t b ≡ neg_ℤ (pos 1)) ↔ (b ≡ modulus t - 1)
minus_one_is I32 b h = grind (arith, ints)
minus_one_is I64 b h = grind (arith, ints)

overflow_of_quotient : (t : ValType) (a b x : ℕ) →
    ((if b == 0 then Err DivideByZero else (
    if (a == 2 ^ (bits_of t - 1)) && (b == modulus t - 1) then Err IntegerOverflow else Ok x)) ≡ Err IntegerOverflow)
    ↔ ((a ≡ 2 ^ (bits_of t - 1)) × (b ≡ modulus t - 1))
overflow_of_quotient I32 a b x = grind (arith, nat_tests)
overflow_of_quotient I64 a b x = grind (arith, nat_tests)

divided : (test : Bool) (x : ℕ) → (if test then Err DivideByZero else Ok x) ≢ Err IntegerOverflow
divided true x h = absurd (cc)
divided false x h = absurd (cc)

-- a division with the one test has the one trap
no_overflow : (b x : ℕ) → (if b == 0 then Err DivideByZero else Ok x) ≢ Err IntegerOverflow
no_overflow b x = divided (b == 0) x

never_overflows : (x : ℕ) → (Ok x ≡ Err IntegerOverflow) ↔ ⊥
never_overflows x = (ok_never x IntegerOverflow _, λ h. absurd h)

two_operands-overflow : (o : Operation) (a b : ℕ) → IsOfType (operand_of o) a → IsOfType (operand_of o) b →
    (two_operands o a b ≡ Err IntegerOverflow) ↔ Overflows (Some o) a b
two_operands-overflow (Compute t DivS) a b in_a in_b =
    let q = overflow_of_quotient t a b (unsigned t (int_div (signed t a) (signed t b))) in
    let l = least_is t a in_a in
    let m = minus_one_is t b in_b in
    (λ h. let p = q.0 h in (l.1 p.0, m.1 p.1), λ p. q.1 (l.0 p.0, m.0 p.1))
two_operands-overflow (Compute t DivU) a b _ _ = (no_overflow b (a / b), λ h. absurd h)
two_operands-overflow (Compute t RemS) a b _ _ = (no_overflow b _, λ h. absurd h)
two_operands-overflow (Compute t RemU) a b _ _ = (no_overflow b (a % b), λ h. absurd h)
two_operands-overflow _ a b _ _ = never_overflows _

tested_trap : (test : Bool) (trap : Trap) (P : Trap → Type 0) (r : Result ℕ Trap) → P trap → IfErr r P →
    IfErr (if test then Err trap else r) P
tested_trap true trap P r h k = h
tested_trap false trap P r h k = k

abbrev IsOfDivision : Trap → Type 0
IsOfDivision trap = (trap ≡ DivideByZero) ⊎ (trap ≡ IntegerOverflow)

two_operands-traps : (o : Operation) (a b : ℕ) →
    IfErr (two_operands o a b) (λ trap. (trap ≡ DivideByZero) ⊎ (trap ≡ IntegerOverflow))
two_operands-traps (Compute t DivS) a b =
    let quotient : Result ℕ Trap = Ok (unsigned t (int_div (signed t a) (signed t b))) in
    tested_trap (b == 0) DivideByZero IsOfDivision
    (if (a == 2 ^ (bits_of t - 1)) && (b == modulus t - 1) then Err IntegerOverflow else quotient)
    (inl refl)
    (tested_trap ((a == 2 ^ (bits_of t - 1)) && (b == modulus t - 1)) IntegerOverflow IsOfDivision quotient (inr refl) tt)
two_operands-traps (Compute t DivU) a b = tested_trap (b == 0) DivideByZero IsOfDivision (Ok (a / b)) (inl refl) tt
two_operands-traps (Compute t RemS) a b =
    tested_trap (b == 0) DivideByZero IsOfDivision (Ok (unsigned t (int_rem (signed t a) (signed t b)))) (inl refl) tt
two_operands-traps (Compute t RemU) a b = tested_trap (b == 0) DivideByZero IsOfDivision (Ok (a % b)) (inl refl) tt
two_operands-traps _ a b = tt

-- The same of what the operator found for a byte gives.

given : (o : Operation) (a b : ℕ) (r : Result ℕ Trap) → option_map (λ p. two_operands p a b) (Some o) ≡ Some r → two_operands o a b ≡ r
given o a b r e = cc

pub found-by_zero
    : (found : Option Operation) (a b : ℕ) (r : Result ℕ Trap) → option_map (λ o. two_operands o a b) found ≡ Some r
    → (r ≡ Err DivideByZero) ↔ (IsDivision found × (b ≡ 0))
found-by_zero None a b r e = let bad : ⊥ = cc in absurd bad
found-by_zero (Some o) a b r e =
    let P : Result ℕ Trap → Type 0 = λ x. (x ≡ Err DivideByZero) ↔ (IsDivision (Some o) × (b ≡ 0)) in
    subst P (given o a b r e) (two_operands-by_zero o a b)

pub found-overflow
    : (found : Option Operation) (a b : ℕ) (r : Result ℕ Trap) → option_map (λ o. two_operands o a b) found ≡ Some r
    → IfSome found (λ o. IsOfType (operand_of o) a) → IfSome found (λ o. IsOfType (operand_of o) b)
    → (r ≡ Err IntegerOverflow) ↔ Overflows found a b
found-overflow None a b r e in_a in_b = let bad : ⊥ = cc in absurd bad
found-overflow (Some o) a b r e in_a in_b =
    let P : Result ℕ Trap → Type 0 = λ x. (x ≡ Err IntegerOverflow) ↔ Overflows (Some o) a b in
    subst P (given o a b r e) (two_operands-overflow o a b in_a in_b)

pub found-traps
    : (found : Option Operation) (a b : ℕ) (r : Result ℕ Trap) → option_map (λ o. two_operands o a b) found ≡ Some r
    → IfErr r (λ trap. (trap ≡ DivideByZero) ⊎ (trap ≡ IntegerOverflow))
found-traps None a b r e = let bad : ⊥ = cc in absurd bad
found-traps (Some o) a b r e =
    let P : Result ℕ Trap → Type 0 = λ x. IfErr x IsOfDivision in
    subst P (given o a b r e) (two_operands-traps o a b)
