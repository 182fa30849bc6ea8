-- What follows for each item of a module from the walk that finds it valid, and from linking.
use Rattle.std.proofs.Common.{◌≡◌, ℕ, zero, suc, ◌+◌, ◌<◌, ◌≤◌, ◌==◌, Bool, true, false, not, ◌&&◌, nat_lt, nat_le, List, [], ◌∷◌, ◌++◌, length, take, drop, Option, Some, None, Ok, Err, slice_get, is_some, refl, sym, ap, subst, ◌∙◌, arith, length-append}
use Rattle.std.proofs.lemmas.Bool.Decides.{nat_tests}
use Rattle.std.specs.List.{AllByRecursion, cons_option}
use Rattle.wasm_ops.specs.Limits.{counts_function, imported_functions}
use Rattle.wasm_ops.specs.declared.modules.Import.{Import}
use Rattle.wasm_ops.specs.declared.modules.ImportItem.{ImportItem}
use Rattle.wasm_ops.specs.declared.modules.ImportItem.TheVariants as import_item
use Rattle.wasm_ops.specs.declared.modules.Module.{Module}
use Rattle.wasm_ops.specs.declared.types.FuncType.{FuncType}
use Rattle.wasm_ops.specs.declared.types.ValType.{ValType}
use Rattle.wasm_meaning.specs.declared.links.LinkRule.{LinkRule}
use Rattle.wasm_meaning.specs.declared.links.Unlinked.{Unlinked}
use Rattle.wasm_meaning.specs.declared.violations.Rule.{Rule}
use Rattle.wasm_meaning.specs.Linking.{first_of_all, told_at, first_refused, broken_unless}
use Rattle.wasm_meaning.proofs.Fits.{went}
use Rattle.wasm_meaning.specs.Validity.{is_bare}
use Rattle.wasm_meaning.specs.ValidityChecks.{Check, in_order, each_behind, first_rule, broken_at, each_item}
use Rattle.wasm_meaning.specs.ValiditySpaces.{as_function, imported, functions}

-- Places in lists.

pub get_behind : {A : Type 0} (xs ys : List A) (j : ℕ) → slice_get (xs ++ ys) (length xs + j) ≡ slice_get ys j
get_behind [] ys j = let same : 0 + j ≡ j = omega arith in ap (λ (k : ℕ). slice_get ys k) same
get_behind (x ∷ xs) ys j =
    let same : suc (length xs) + j ≡ suc (length xs + j) = omega arith in
    ap (λ (k : ℕ). slice_get (x ∷ (xs ++ ys)) k) same ∙ get_behind xs ys j

pub get_past : {A : Type 0} (xs : List A) (j : ℕ) → length xs ≤ j → slice_get xs j ≡ None
get_past [] j e = refl
get_past (x ∷ xs) zero e = let bad : ⊥ = omega (arith, e) in absurd bad
get_past (x ∷ xs) (suc j) e = get_past xs j (omega (arith, e))

pub record At {A : Type 0} (xs : List A) (j : ℕ) : Type 0 where
  pub item : A
  pub is : slice_get xs j ≡ Some item

pub get_at : {A : Type 0} (xs : List A) (j : ℕ) → j < length xs → At xs j
get_at [] j e = let bad : ⊥ = omega (arith, e) in absurd bad
get_at (x ∷ xs) zero e = record { item = x; is = refl }
get_at (x ∷ xs) (suc j) e = let more = get_at xs j (omega (arith, e)) in record { item = more.item; is = more.is }

pub is_within : {A : Type 0} (xs : List A) (j : ℕ) (x : A) → slice_get xs j ≡ Some x → j < length xs
is_within [] j x e = let bad : ⊥ = cc in absurd bad
is_within (y ∷ xs) zero x e = omega arith
is_within (y ∷ xs) (suc j) x e = let more = is_within xs j x e in omega (arith, more)

pub all_at : {A : Type 0} (P : A → Type 0) (xs : List A) (j : ℕ) (x : A) → AllByRecursion P xs → slice_get xs j ≡ Some x → P x
all_at P [] j x all e = let bad : ⊥ = cc in absurd bad
all_at P (y ∷ xs) zero x all e = let same : y ≡ x = cc in subst P same all.0
all_at P (y ∷ xs) (suc j) x all e = all_at P xs j x all.1 e

pub all_joined : {A : Type 0} (P : A → Type 0) (xs ys : List A) → AllByRecursion P xs → AllByRecursion P ys → AllByRecursion P (xs ++ ys)
all_joined P [] ys all more = more
all_joined P (x ∷ xs) ys all more = (all.0, all_joined P xs ys all.1 more)

pub all_front : {A : Type 0} (P : A → Type 0) (xs ys : List A) → AllByRecursion P (xs ++ ys) → AllByRecursion P xs
all_front P [] ys all = tt
all_front P (x ∷ xs) ys all = (all.0, all_front P xs ys all.1)

pub all_rest : {A : Type 0} (P : A → Type 0) (xs ys : List A) → AllByRecursion P (xs ++ ys) → AllByRecursion P ys
all_rest P [] ys all = all
all_rest P (x ∷ xs) ys all = all_rest P xs ys all.1

pub all_taken : {A : Type 0} (P : A → Type 0) (n : ℕ) (xs : List A) → AllByRecursion P xs → AllByRecursion P (take n xs)
all_taken P zero xs all = tt
all_taken P (suc n) [] all = tt
all_taken P (suc n) (x ∷ xs) all = (all.0, all_taken P n xs all.1)

pub all_dropped : {A : Type 0} (P : A → Type 0) (n : ℕ) (xs : List A) → AllByRecursion P xs → AllByRecursion P (drop n xs)
all_dropped P zero xs all = all
all_dropped P (suc n) [] all = tt
all_dropped P (suc n) (x ∷ xs) all = all_dropped P n xs all.1

-- Imported functions.

count_more : (item : ImportItem) (found : List ℕ) → length (cons_option (as_function item) found) ≡ counts_function item + length found
count_more (import_item.Function type) found = omega arith
count_more (import_item.Table limits) found = omega arith
count_more (import_item.Memory limits) found = omega arith
count_more (import_item.Global value mutable) found = omega arith

-- the functions found in the imports are as many as are counted there
pub imported_count : (imports : List Import) → length (imported as_function imports) ≡ imported_functions imports
imported_count [] = refl
imported_count (i ∷ imports) =
    count_more i.item (imported as_function imports) ∙ ap (λ (n : ℕ). counts_function i.item + n) (imported_count imports)

-- behind the imported functions come those that the module defines
pub get_defined : (m : Module) (j : ℕ) → slice_get (functions m) (imported_functions m.imports + j) ≡ slice_get m.functions j
get_defined m j =
    ap (λ (n : ℕ). slice_get (functions m) (n + j)) (sym (imported_count m.imports)) ∙ get_behind (imported as_function m.imports) m.functions j

-- Tests.

pub and_both : (b c : Bool) → b && c ≡ true → (b ≡ true) × (c ≡ true)
and_both true c e = (refl, e)
and_both false c e = let bad : ⊥ = cc in absurd bad

pub not_false : (b : Bool) → not b ≡ false → b ≡ true
not_false true e = refl
not_false false e = let bad : ⊥ = cc in absurd bad

pub below_of : (count index : ℕ) → nat_le count index ≡ false → index < count
below_of count index e = grind (arith, nat_tests)

pub is_less : (index count : ℕ) → nat_lt index count ≡ true → index < count
is_less index count e = grind (arith, nat_tests)

-- The walk.

-- both checks pass
pub passes_both : (check : Check) (checks : List Check) → in_order (check ∷ checks) ≡ Ok tt → (check ≡ Ok tt) × (in_order checks ≡ Ok tt)
passes_both (Ok u) checks e = (refl, e)
passes_both (Err why) checks e = let bad : ⊥ = cc in absurd bad

pub record Checked {A : Type 0} (check : List A → A → Check) (at : ℕ) (x : A) : Type 0 where
  pub before : List A
  pub place : length before ≡ at
  pub passes : check before x ≡ Ok tt

each_passes
    : {A : Type 0} (check : List A → A → Check) (before xs : List A) (j : ℕ) (x : A) → each_behind check before xs ≡ Ok tt → slice_get xs j ≡ Some x
    → Checked check (length before + j) x
each_passes check before [] j x e is = let bad : ⊥ = cc in absurd bad
each_passes {A} check before (y ∷ xs) zero x e is =
    let w = went (check before y) (λ passed. each_behind check (before ++ y ∷ []) xs) tt e in
    let same : y ≡ x = cc in
    subst (λ (z : A). Checked check (length before + zero) z) same (record { before = before; place = omega arith; passes = w.first })
each_passes check before (y ∷ xs) (suc j) x e is =
    let w = went (check before y) (λ passed. each_behind check (before ++ y ∷ []) xs) tt e in
    let more = each_passes check (before ++ y ∷ []) xs j x w.second is in
    record { before = more.before; place = omega (arith, more.place, length-append before (y ∷ [])); passes = more.passes }

pub each_checked
    : {A : Type 0} (check : List A → A → Check) (xs : List A) (j : ℕ) (x : A) → each_behind check [] xs ≡ Ok tt → slice_get xs j ≡ Some x
    → Checked check j x
each_checked check xs j x e is =
    let c = each_passes check [] xs j x e is in record { before = c.before; place = omega (arith, c.place); passes = c.passes }

pub no_rule : (item : ℕ) (rule : Option Rule) → broken_at item rule ≡ Ok tt → rule ≡ None
no_rule item None e = refl
no_rule item (Some rule) e = let bad : ⊥ = cc in absurd bad

pub keeps_rule : (c : Bool) (rule : Rule) (cs : List (Bool × Rule)) → first_rule ((c, rule) ∷ cs) ≡ None → (c ≡ false) × (first_rule cs ≡ None)
keeps_rule true rule cs e = let bad : ⊥ = cc in absurd bad
keeps_rule false rule cs e = (refl, e)

-- no item of the list breaks a rule
pub record KeepsRule {A : Type 0} (broken : List A → A → Option Rule) (x : A) : Type 0 where
  pub before : List A
  pub none : broken before x ≡ None

pub each_keeps
    : {A : Type 0} (broken : List A → A → Option Rule) (xs : List A) (j : ℕ) (x : A) → each_item broken xs ≡ Ok tt → slice_get xs j ≡ Some x
    → KeepsRule broken x
each_keeps {A} broken xs j x e is =
    let c = each_checked (λ (before : List A) (y : A). broken_at (length before) (broken before y)) xs j x e is in
    record { before = c.before; none = no_rule (length c.before) (broken c.before x) c.passes }

-- Linking.

pub none_of_all : (o : Option Unlinked) (os : List (Option Unlinked)) → first_of_all (o ∷ os) ≡ None → (o ≡ None) × (first_of_all os ≡ None)
none_of_all None os e = (refl, e)
none_of_all (Some why) os e = let bad : ⊥ = cc in absurd bad

pub not_told : (at : ℕ) (number : Option LinkRule) → told_at at number ≡ None → number ≡ None
not_told at None e = refl
not_told at (Some n) e = let bad : ⊥ = cc in absurd bad

pub first_is_fine
    : {A : Type 0} (refuses : A → Option LinkRule) (at : ℕ) (x : A) (xs : List A) → first_refused refuses at (x ∷ xs) ≡ None
    → (refuses x ≡ None) × (first_refused refuses (at + 1) xs ≡ None)
first_is_fine refuses at x xs e =
    let both = none_of_all (told_at at (refuses x)) (first_refused refuses (at + 1) xs ∷ []) e in
    let rest = none_of_all (first_refused refuses (at + 1) xs) [] both.1 in
    (not_told at (refuses x) both.0, rest.0)

pub holds_unless : (number : LinkRule) (b : Bool) → broken_unless number b ≡ None → b ≡ true
holds_unless number true e = refl
holds_unless number false e = let bad : ⊥ = cc in absurd bad

-- Functions that take and give nothing.

is_zero : (n : ℕ) → n == 0 ≡ true → n ≡ 0
is_zero n e = grind (arith, nat_tests)

pub nothing_taken : (t : FuncType) → is_bare t ≡ true → t ≡ record { params = []; result = None }
nothing_taken t e = by t.params t.result (and_both (length t.params == 0) (not (is_some t.result)) e)
  where
    by
        : (ps : List ValType) (r : Option ValType) → (length ps == 0 ≡ true) × (not (is_some r) ≡ true)
        → ◌≡◌ {A = FuncType} (record { params = ps; result = r }) (record { params = []; result = None })
    by [] None both = refl
    by [] (Some r) both = let has = both.1 in let bad : ⊥ = cc in absurd bad
    by (p ∷ ps) r both =
        let none = is_zero (suc (length ps)) both.0 in
        let bad : ⊥ = omega (arith, none) in absurd bad
