-- What `parse` reads of a word of decimal digits.
use Rattle.std.proofs.Common.{◌≡◌, ◌∙◌, ap, ℕ, ◌<◌, ◌^◌, Bool, cond, true, false, List, length, None, Some, Result, Ok, Err, nat_le, nat_lt, ◌&&◌, arith, refl, rules}
use Rattle.std.proofs.lemmas.Bool.Decides.{nat_tests}
use Rattle.std.proofs.lemmas.Str.Parse.{IsNumeralModel, numerals_by_value, parse_digits}
use Rattle.std.specs.Char.{is_ascii_digit}
use Rattle.std.specs.List.{list_all}
use Rattle.std.specs.Result.{result_ok}
use Rattle.std.specs.Str.Parse.{ParsesUnsigned, digits_value}
use Rattle.commands.specs.CommandLine.{is_decimal, number_within, within}

own : IsNumeralModel (λ ds. list_all is_ascii_digit ds ≡ true) (digits_value 10)
own = numerals_by_value _ (search rules)

-- the parts of the test of a decimal word
tests_told : (a b c : Bool) → (a && b && c) ≡ true → (a ≡ true) × (c ≡ true)
tests_told true true true h = (refl, refl)
tests_told true true false h = cc
tests_told true false c h = cc
tests_told false b c h = cc

is_positive : (n : ℕ) → nat_lt 0 n ≡ true → 0 < n
is_positive n h = grind (arith, nat_tests)

-- a word of digits that `parse` refuses writes a number that is in no range of numbers that it reads

is_beyond : (most n : ℕ) → most < 2 ^ 64 → ¬ (n < 2 ^ 64) → nat_lt most n ≡ true
is_beyond most n small h = grind (arith, nat_tests)

is_outside : (least most n : ℕ) → nat_lt most n ≡ true → within least most n ≡ None
is_outside least most n beyond = at (nat_lt n least)
  where
    at : (b : Bool) → cond b None (cond (nat_lt most n) None (Some n)) ≡ None
    at true = refl
    at false = ap (λ b. cond b None (Some n)) beyond

pub refused_is_outside : {E : Type 0} (least most : ℕ) (word : List ℕ) (r : Result ℕ E) → most < 2 ^ 64 → ParsesUnsigned 64 10 word r → is_decimal word ≡ true → result_ok r ≡ None → number_within least most word ≡ None
refused_is_outside least most word (Ok x) small h d e = cc
refused_is_outside least most word (Err x) small h d e =
    let t = tests_told (nat_lt 0 (length word)) (nat_le (length word) 20) (list_all is_ascii_digit word) d in
    let n : ¬ ((0 < length word) × (digits_value 10 word < 2 ^ 64)) = parse_digits own 64 word (Err x) h t.1 in
    let beyond = is_beyond most (digits_value 10 word) small (λ below. n (is_positive (length word) t.0, below)) in
    ap (λ b. cond b (within least most (digits_value 10 word)) None) d ∙ is_outside least most (digits_value 10 word) beyond
