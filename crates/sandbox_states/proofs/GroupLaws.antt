-- Lists of prices that are cut by a quantum, and what is left of them.
use Rattle.std.proofs.Common.{◌≡◌, ◌≢◌, ◌⊎◌, inl, inr, ℕ, zero, suc, ◌+◌, ◌-◌, ◌≤◌, ◌<◌, Bool, true, false, cond, max, nat_lt, List, [], ◌∷◌, ◌++◌, length, sum, refl, sym, ap, subst, ◌∙◌, append_assoc, append-nil, arith}
use Rattle.std.proofs.lemmas.Bool.Decides.{nat_tests}
use Rattle.std.proofs.lemmas.List.Sums.{sum_by-cons, sum_by-append}
use Rattle.wasm_meaning.specs.Turns.{joins, groups_after, groups, turns, IsShortest}
use Rattle.sandbox_states.specs.Rests.{prices_after, ArePaid}

pub sum_cons : (price : ℕ) (prices : List ℕ) → sum (price ∷ prices) ≡ price + sum prices
sum_cons price prices = let all = sum_by-cons (λ x. x) price prices in omega (arith, all)

pub sum_join : (front rest : List ℕ) → sum (front ++ rest) ≡ sum front + sum rest
sum_join front rest = let all = sum_by-append (λ x. x) front rest in omega (arith, all)

pub sum_one : (price : ℕ) → sum (price ∷ []) ≡ price
sum_one price = let one = sum_cons price [] in omega (arith, one)

-- Prices that are left.

passes_price : (price n : ℕ) (prices : List ℕ) → 1 ≤ price → prices_after (price + n) (price ∷ prices) ≡ prices_after n prices
passes_price zero n prices least = let bad : ⊥ = omega (arith, least) in absurd bad
passes_price (suc k) n prices least =
    let first : suc k + n ≡ suc (k + n) = omega arith in
    let second : suc (k + n) - suc k ≡ n = omega arith in
    ap (λ (m : ℕ). prices_after m (suc k ∷ prices)) first ∙ ap (λ (m : ℕ). prices_after m prices) second

pub rest_is : (front rest : List ℕ) → ArePaid front → prices_after (sum front) (front ++ rest) ≡ rest
rest_is [] rest least = refl
rest_is (price ∷ front) rest least =
    ap (λ (n : ℕ). prices_after n (price ∷ (front ++ rest))) (sum_cons price front)
    ∙ passes_price price (sum front) (front ++ rest) least.0 ∙ rest_is front rest least.1

pub all_paid : (front rest : List ℕ) → ArePaid front → ArePaid rest → ArePaid (front ++ rest)
all_paid [] rest a b = b
all_paid (price ∷ front) rest a b = (a.0, all_paid front rest a.1 b)

-- Groups.

joins_front : (price : ℕ) (group : List ℕ) (gs : List (List ℕ)) → joins price (group ∷ gs) ≡ (price ∷ group) ∷ gs
joins_front price group gs = refl

split_off
    : (q got : ℕ) (front : List ℕ) (last : ℕ) (rest : List ℕ) → got + sum front < q → q ≤ got + sum front + last
    → groups_after q got (front ++ (last ∷ rest)) ≡ (front ++ (last ∷ [])) ∷ groups_after q 0 rest
split_off q got [] last rest below reaches =
    let nothing : sum [] ≡ 0 = refl in
    let no : nat_lt (got + last) q ≡ false = not_below (got + last) q (omega (arith, reaches, nothing)) in
    ap (λ (b : Bool). cond b (joins last (groups_after q (got + last) rest)) ((last ∷ []) ∷ groups_after q 0 rest)) no
  where
    not_below : (a b : ℕ) → b ≤ a → nat_lt a b ≡ false
    not_below a b le = grind (arith, nat_tests)
split_off q got (price ∷ front) last rest below reaches =
    let all = sum_cons price front in
    let yes : nat_lt (got + price) q ≡ true = is_below (got + price) q (omega (arith, below, all)) in
    let more = split_off q (got + price) front last rest (omega (arith, below, all)) (omega (arith, reaches, all)) in
    ap (λ (b : Bool). cond b (joins price (groups_after q (got + price) (front ++ (last ∷ rest)))) ((price ∷ []) ∷ groups_after q 0 (front ++ (last ∷ rest)))) yes
    ∙ ap (λ (gs : List (List ℕ)). joins price gs) more
  where
    is_below : (a b : ℕ) → a < b → nat_lt a b ≡ true
    is_below a b lt = grind (arith, nat_tests)

joined_once : (price : ℕ) (gs : List (List ℕ)) → length gs ≤ 1 → length (joins price gs) ≤ 1
joined_once price [] few = omega arith
joined_once price (g ∷ gs) few = omega (arith, few)

one_more : (q got : ℕ) (front : List ℕ) (last : ℕ) → got + sum front < q → length (groups_after q got (front ++ (last ∷ []))) ≤ 1
one_more q got [] last below = by (nat_lt (got + last) q)
  where
    by : (b : Bool) → length (cond b (joins last (groups_after q (got + last) [])) ((last ∷ []) ∷ groups_after q 0 [])) ≤ 1
    by true = omega arith
    by false = omega arith
one_more q got (price ∷ front) last below =
    let all = sum_cons price front in
    let yes : nat_lt (got + price) q ≡ true = is_below (got + price) q (omega (arith, below, all)) in
    subst (λ (b : Bool). length (cond b (joins price (groups_after q (got + price) (front ++ (last ∷ [])))) ((price ∷ []) ∷ groups_after q 0 (front ++ (last ∷ [])))) ≤ 1) (sym yes)
    (joined_once price (groups_after q (got + price) (front ++ (last ∷ []))) (one_more q (got + price) front last (omega (arith, below, all))))
  where
    is_below : (a b : ℕ) → a < b → nat_lt a b ≡ true
    is_below a b lt = grind (arith, nat_tests)

one_below : (q got : ℕ) (prices : List ℕ) → got + sum prices < q → length (groups_after q got prices) ≤ 1
one_below q got [] below = omega arith
one_below q got (price ∷ prices) below =
    let all = sum_cons price prices in
    let yes : nat_lt (got + price) q ≡ true = is_below (got + price) q (omega (arith, below, all)) in
    subst (λ (b : Bool). length (cond b (joins price (groups_after q (got + price) prices)) ((price ∷ []) ∷ groups_after q 0 prices)) ≤ 1) (sym yes)
    (joined_once price (groups_after q (got + price) prices) (one_below q (got + price) prices (omega (arith, below, all))))
  where
    is_below : (a b : ℕ) → a < b → nat_lt a b ≡ true
    is_below a b lt = grind (arith, nat_tests)

at_most_one : (n : ℕ) → n ≤ 1 → max 1 n ≡ 1
at_most_one n few = omega (arith, few)

pub turn_below : (q : ℕ) (prices : List ℕ) → sum prices < q → turns prices q ≡ 1
turn_below q prices below = at_most_one (length (groups prices q)) (one_below q 0 prices (omega (arith, below)))

pub turn_with : (q : ℕ) (prices : List ℕ) (last : ℕ) → sum prices < q → turns (prices ++ (last ∷ [])) q ≡ 1
turn_with q prices last below = at_most_one (length (groups (prices ++ (last ∷ [])) q)) (one_more q 0 prices last (omega (arith, below)))

pub first_group : (q : ℕ) (group rest : List ℕ) → IsShortest q group → groups (group ++ rest) q ≡ group ∷ groups rest q
first_group q group rest s =
    let whole : group ++ rest ≡ s.front ++ (s.last ∷ rest) = ap (λ (ps : List ℕ). ps ++ rest) s.is ∙ append_assoc s.front (s.last ∷ []) rest in
    let below = s.below in
    let reaches = s.reaches in
    ap (λ (ps : List ℕ). groups_after q 0 ps) whole
    ∙ split_off q 0 s.front s.last rest (omega (arith, below)) (omega (arith, reaches))
    ∙ ap (λ (g : List ℕ). g ∷ groups_after q 0 rest) (sym s.is)

pub last_group : (q : ℕ) (group : List ℕ) → IsShortest q group → turns group q ≡ 1
last_group q group s =
    let cut = ap (λ (ps : List ℕ). groups ps q) (sym (append-nil group)) ∙ first_group q group [] s in
    let long : length (groups group q) ≡ 1 = ap (λ (gs : List (List ℕ)). length gs) cut in
    at_most_one (length (groups group q)) (omega (arith, long))

some_groups : (q got price : ℕ) (prices : List ℕ) → 1 ≤ length (groups_after q got (price ∷ prices))
some_groups q got price prices = by (nat_lt (got + price) q) (groups_after q (got + price) prices)
  where
    by : (b : Bool) (gs : List (List ℕ)) → 1 ≤ length (cond b (joins price gs) ((price ∷ []) ∷ groups_after q 0 prices))
    by false gs = omega arith
    by true [] = omega arith
    by true (g ∷ gs) = omega arith

pub turns_left : (q : ℕ) (all group rest : List ℕ) → groups all q ≡ group ∷ groups rest q → rest ≢ [] → turns all q ≡ 1 + turns rest q
turns_left q all group [] cut some = absurd (some refl)
turns_left q all group (price ∷ rest) cut some =
    let long : length (groups all q) ≡ suc (length (groups (price ∷ rest) q)) = ap (λ (gs : List (List ℕ)). length gs) cut in
    let least = some_groups q 0 price rest in
    omega (arith, long, least)

-- A cut goes on.

pub cut_then
    : (q m : ℕ) (front group : List ℕ) → sum front < q → sum front + m ≤ q → (sum group < m) ⊎ IsShortest m group
    → (sum (front ++ group) < q) ⊎ IsShortest q (front ++ group)
cut_then q m front group below within (inl less) = inl (omega (arith, less, within, sum_join front group))
cut_then q m front group below within (inr s) = by (nat_lt (sum (front ++ group)) q) refl
  where
    by : (b : Bool) → nat_lt (sum (front ++ group)) q ≡ b → (sum (front ++ group) < q) ⊎ IsShortest q (front ++ group)
    by true e = inl (grind (arith, nat_tests))
    by false e =
        let reached : q ≤ sum (front ++ group) = grind (arith, nat_tests) in
        let under = s.below in
        let whole : front ++ group ≡ (front ++ s.front) ++ (s.last ∷ []) = ap (λ (ps : List ℕ). front ++ ps) s.is ∙ sym (append_assoc front s.front (s.last ∷ [])) in
        let total : sum group ≡ sum s.front + s.last = ap (λ (ps : List ℕ). sum ps) s.is ∙ sum_join s.front (s.last ∷ []) ∙ ap (λ (n : ℕ). sum s.front + n) (sum_one s.last) in
        inr (record {
          front = front ++ s.front;
          last = s.last;
          is = whole;
          below = omega (arith, under, within, sum_join front s.front);
          reaches = omega (arith, reached, total, sum_join front s.front, sum_join front group);
        })

pub one_cut : (q price : ℕ) → 1 ≤ q → (sum (price ∷ []) < q) ⊎ IsShortest q (price ∷ [])
one_cut q price least = by (nat_lt price q) refl
  where
    by : (b : Bool) → nat_lt price q ≡ b → (sum (price ∷ []) < q) ⊎ IsShortest q (price ∷ [])
    by true e = let lt : price < q = grind (arith, nat_tests) in inl (omega (arith, lt, sum_one price))
    by false e =
        let le : q ≤ price = grind (arith, nat_tests) in
        let nothing : sum [] ≡ 0 = refl in
        inr (record { front = []; last = price; is = refl; below = omega (arith, least, nothing); reaches = omega (arith, le, nothing) })

pub reached_cut : (q : ℕ) (group : List ℕ) → (sum group < q) ⊎ IsShortest q group → q ≤ sum group → IsShortest q group
reached_cut q group (inl less) reached = let bad : ⊥ = omega (arith, less, reached) in absurd bad
reached_cut q group (inr s) reached = s
