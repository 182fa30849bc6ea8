-- What is left of a list's walk before an item.
use Rattle.std.proofs.Common.{◌≡◌, ℕ, suc, ◌+◌, ◌<◌, List, [], ◌∷◌, ◌++◌, length, get_or, take, drop, Option, Some, None, Err, ap, sym, ◌∙◌, add-one, arith}
use Rattle.std.proofs.Math.Seq.{drop-cons}
use Rattle.std.proofs.lemmas.List.{take_more, length-take-le}
use Rattle.wasm_meaning.specs.declared.violations.Rule.{Rule}
use Rattle.wasm_meaning.specs.ValidityRules.{rule_number}
use Rattle.wasm_meaning.specs.ValidityChecks.{Check, go_on, each_behind, broken_at}

abbrev pub left_from : {A : Type 0} → (List A → A → Option Rule) → (item : ℕ) → List A → Check
left_from broken item xs = each_behind (λ before x. broken_at (length before) (broken before x)) (take item xs) (drop item xs)

-- the item that comes next, and those behind it
pub next_item
    : {A : Type 0} (check : List A → A → Check) (xs : List A) (i : ℕ) (x : A) → i < length xs → x ≡ get_or xs i x
    → each_behind check (take i xs) (drop i xs)
    ≡ go_on (check (take i xs) x) (λ passed. each_behind check (take (i + 1) xs) (drop (i + 1) xs))
next_item {A} check xs i x lt at =
    let more : take (i + 1) xs ≡ take i xs ++ x ∷ [] = take_more xs i x lt ∙ ap (λ (y : A). take i xs ++ y ∷ []) (sym at) in
    let cut : drop i xs ≡ x ∷ drop (i + 1) xs = rw (add-one, drop-cons xs i x lt) (ap (λ (y : A). y ∷ drop (suc i) xs) (sym at)) in
    ap (λ (rest : List A). each_behind check (take i xs) rest) cut
    ∙ ap (λ (before : List A). go_on (check (take i xs) x) (λ passed. each_behind check before (drop (i + 1) xs))) (sym more)

-- it breaks no rule
pub item_goes
    : {A : Type 0} (broken : List A → A → Option Rule) (xs : List A) (i : ℕ) (x : A) → i < length xs → x ≡ get_or xs i x
    → broken (take i xs) x ≡ None → left_from broken (i + 1) xs ≡ left_from broken i xs
item_goes broken xs i x lt at fine =
    let next = next_item (λ before y. broken_at (length before) (broken before y)) xs i x lt at in
    sym (next ∙ ap (λ (found : Option Rule). go_on (broken_at (length (take i xs)) found) (λ passed. left_from broken (i + 1) xs)) fine)

-- it breaks one
pub item_stops
    : {A : Type 0} (broken : List A → A → Option Rule) (xs : List A) (i : ℕ) (x : A) (rule : Rule) (number item : ℕ) (function : Option ℕ) → i < length xs
    → x ≡ get_or xs i x → broken (take i xs) x ≡ Some rule → number ≡ rule_number rule → function ≡ None → item ≡ i
    → left_from broken i xs ≡ Err (record { number = number; function = function; item = item })
item_stops broken xs i x rule number item function lt at found numbered outside here =
    let next = next_item (λ before y. broken_at (length before) (broken before y)) xs i x lt at in
    let place : length (take i xs) ≡ i = length-take-le i xs (omega arith) in
    rw (numbered, outside, here)
    (next
    ∙ (ap (λ (f : Option Rule). go_on (broken_at (length (take i xs)) f) (λ passed. left_from broken (i + 1) xs)) found
    ∙ ap (λ (n : ℕ). Err (record { number = rule_number rule; function = None; item = n })) place))
