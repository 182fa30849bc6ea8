-- The order of keys: by their numbers, then by their names, then by their places.
use Rattle.std.proofs.Common.{◌≡◌, ℕ, ◌+◌, ◌<◌, ◌≤◌, true, false, List, length, get_or, refl, ap, sym, ◌∙◌, subst, bytes_eq, nat_eq, IsPermutation, IsSorted, Ordering, Less, Equal, Greater, nat_cmp, is_eq, is_lt, is_le, arith}
use Rattle.std.specs.Cmp.{IsTotalOrder, nat_cmp_is, ranks, Equal-is}
use Rattle.std.specs.Cmp.Lexicographic.{slice_cmp}
use Rattle.std.specs.List.{IsDistinct}
use Rattle.std.specs.List.Sorted.{IsStrictlySortedBy}
use Rattle.std.specs.Ordering.{ordering_then, ordering_reverse, MatchOrdering}
use Rattle.std.proofs.lemmas.Bool.{eq-eqb, ne_eqb, eqb-false}
use Rattle.std.proofs.lemmas.Cmp.{nat_cmp_total, nat_list_cmp_total, nat_eq_equiv, on_total, then_total}
use Rattle.std.proofs.lemmas.Map.Keys.{IsDistinct-from_apart, IsDistinct-IsPermutation, apart_from_distinct, sorted_from_all_adjacent, Less-from_sorted, le_from_is_le}
use Rattle.std.proofs.lemmas.Map.Text.{is_eq-slice_cmp}
use Rattle.wasm_validate.specs.declared.exports.Key.{Key}
use Rattle.wasm_validate.specs.Names.{are_twins}

abbrev pub by_key : Key → Key → Ordering
by_key x y = ordering_then (nat_cmp x.number y.number) (ordering_then (slice_cmp nat_cmp x.name.now y.name.now) (nat_cmp x.place y.place))

pub by_key_total : IsTotalOrder by_key
by_key_total =
    then_total (on_total (λ (k : Key). k.number) nat_cmp_total)
    (then_total (on_total (λ (k : Key). k.name.now) nat_list_cmp_total) (on_total (λ (k : Key). k.place) nat_cmp_total))

-- what comes first decides, or it is a tie
first_at_most : (o p : Ordering) → ordering_then o p ≡ Less → is_le o ≡ true
first_at_most Less p less = refl
first_at_most Equal p less = refl
first_at_most Greater p less = let no : ⊥ = cc in absurd no

after_tie : (o p : Ordering) → o ≡ Equal → ordering_then o p ≡ Less → p ≡ Less
after_tie o p tied less = subst (λ (it : Ordering). ordering_then it p ≡ Less) tied less

tie : (a b : ℕ) → a ≡ b → nat_cmp a b ≡ Equal
tie a b same = sym (nat_cmp_is a b Equal same)

text_tie : (a b : List ℕ) → bytes_eq a b ≡ true → slice_cmp nat_cmp a b ≡ Equal
text_tie a b same = (Equal-is (slice_cmp nat_cmp a b)).0 (is_eq-slice_cmp a b ∙ same)

neither : (o p : Ordering) → p ≡ ordering_reverse o → is_le o ≡ true → is_le p ≡ true → is_eq o ≡ true
neither Less p back here there = let no : ⊥ = cc in absurd no
neither Equal p back here there = refl
neither Greater p back here there = let no : ⊥ = cc in absurd no

less_place : (a b : ℕ) → nat_cmp a b ≡ Less → a < b
less_place a b less = subst (λ (it : Ordering). MatchOrdering it (a < b) (a ≡ b) (b < a)) less (ranks a b)

pub twins_of : (x y : Key) → x.number ≡ y.number → bytes_eq x.name.now y.name.now ≡ true → are_twins x y ≡ true
twins_of x y numbers names = rw (eq-eqb x.number y.number numbers) names

-- of two twins, the lesser one has the lesser place
pub twins_by_place : (x y : Key) → x.number ≡ y.number → bytes_eq x.name.now y.name.now ≡ true → by_key x y ≡ nat_cmp x.place y.place
twins_by_place x y numbers names =
    ap (λ (it : Ordering). ordering_then it (ordering_then (slice_cmp nat_cmp x.name.now y.name.now) (nat_cmp x.place y.place))) (tie x.number y.number numbers)
    ∙ ap (λ (it : Ordering). ordering_then it (nat_cmp x.place y.place)) (text_tie x.name.now y.name.now names)

pub place_below : (x y : Key) → x.number ≡ y.number → bytes_eq x.name.now y.name.now ≡ true → by_key x y ≡ Less → x.place < y.place
place_below x y numbers names less = less_place x.place y.place (sym (twins_by_place x y numbers names) ∙ less)

pub below_by_place : (x y : Key) → x.number ≡ y.number → bytes_eq x.name.now y.name.now ≡ true → x.place < y.place → by_key x y ≡ Less
below_by_place x y numbers names less = twins_by_place x y numbers names ∙ sym (nat_cmp_is x.place y.place Less less)

-- what stands between two twins is one of them
pub between : (low x high : Key) → low.number ≡ high.number → low.name.now ≡ high.name.now → by_key low x ≡ Less → by_key x high ≡ Less → are_twins x high ≡ true
between low x high numbers names above below =
    let up : low.number ≤ x.number = le_from_is_le low.number x.number (first_at_most (nat_cmp low.number x.number) (ordering_then (slice_cmp nat_cmp low.name.now x.name.now) (nat_cmp low.place x.place)) above) in
    let down : x.number ≤ high.number = le_from_is_le x.number high.number (first_at_most (nat_cmp x.number high.number) (ordering_then (slice_cmp nat_cmp x.name.now high.name.now) (nat_cmp x.place high.place)) below) in
    let same : x.number ≡ high.number = omega arith in
    let same_low : low.number ≡ x.number = omega arith in
    let text_up = first_at_most (slice_cmp nat_cmp low.name.now x.name.now) (nat_cmp low.place x.place) (after_tie (nat_cmp low.number x.number) (ordering_then (slice_cmp nat_cmp low.name.now x.name.now) (nat_cmp low.place x.place)) (tie low.number x.number same_low) above) in
    let text_down = first_at_most (slice_cmp nat_cmp x.name.now high.name.now) (nat_cmp x.place high.place) (after_tie (nat_cmp x.number high.number) (ordering_then (slice_cmp nat_cmp x.name.now high.name.now) (nat_cmp x.place high.place)) (tie x.number high.number same) below) in
    let back = nat_list_cmp_total.antisymm high.name.now x.name.now in
    let text_up' : is_le (slice_cmp nat_cmp high.name.now x.name.now) ≡ true = subst (λ (it : List ℕ). is_le (slice_cmp nat_cmp it x.name.now) ≡ true) names text_up in
    let equal = neither (slice_cmp nat_cmp x.name.now high.name.now) (slice_cmp nat_cmp high.name.now x.name.now) back text_down text_up' in
    twins_of x high same (sym (is_eq-slice_cmp x.name.now high.name.now) ∙ equal)

-- of two keys, not each is less than the other
pub not_both : (x y : Key) → by_key x y ≡ Less → by_key y x ≡ Less → ⊥
not_both x y one other =
    let turned : Greater ≡ Less = sym (ap ordering_reverse other) ∙ (sym (by_key_total.antisymm x y) ∙ one) in cc

not_equal : (o p : Ordering) → p ≡ ordering_reverse o → is_lt p ≡ false → (o ≡ Equal → ⊥) → o ≡ Less
not_equal Less p back above apart = refl
not_equal Equal p back above apart = absurd (apart refl)
not_equal Greater p back above apart = let never : ⊥ = cc in absurd never

-- two keys of different places are no tie
places_differ : (x y : Key) → nat_eq x.place y.place ≡ false → by_key x y ≡ Equal → ⊥
places_differ x y apart tied =
    let places = last_tie (nat_cmp x.number y.number) (slice_cmp nat_cmp x.name.now y.name.now) (nat_cmp x.place y.place) tied in
    let same : x.place ≡ y.place = subst (λ (it : Ordering). MatchOrdering it (x.place < y.place) (x.place ≡ y.place) (y.place < x.place)) places (ranks x.place y.place) in
    eqb-false x.place y.place apart same
  where
    last_tie : (o p r : Ordering) → ordering_then o (ordering_then p r) ≡ Equal → r ≡ Equal
    last_tie Less p r tied = let never : ⊥ = cc in absurd never
    last_tie Greater p r tied = let never : ⊥ = cc in absurd never
    last_tie Equal Less r tied = let never : ⊥ = cc in absurd never
    last_tie Equal Greater r tied = let never : ⊥ = cc in absurd never
    last_tie Equal Equal r tied = tied

-- keys whose places differ rise strictly once they are sorted
pub rising
    : (keys sorted : List Key) → ((i : ℕ) (d : Key) → i < length keys → (get_or keys i d).place ≡ i) → IsPermutation keys sorted → IsSorted by_key sorted
    → (i j : ℕ) (d : Key) → i < j → j < length sorted → by_key (get_or sorted i d) (get_or sorted j d) ≡ Less
rising keys sorted places moved up i j d less within =
    let apart : IsDistinct (λ x y. nat_eq x.place y.place) keys =
    IsDistinct-from_apart (λ (x y : Key). nat_eq x.place y.place) keys (λ m n e mn nl. rw (places m e (omega arith), places n e nl) (ne_eqb m n (λ same. omega arith))) in
    let still = IsDistinct-IsPermutation (λ (x y : Key). nat_eq x.place y.place) (λ x y. flips x.place y.place) keys sorted moved apart in
    let strict : IsStrictlySortedBy by_key sorted =
    sorted_from_all_adjacent by_key_total sorted d (λ k l.
    let x = get_or sorted k d in
    let y = get_or sorted (k + 1) d in
    not_equal (by_key x y) (by_key y x) (by_key_total.antisymm y x) (up k d (omega arith) l)
    (places_differ x y (apart_from_distinct (λ (x y : Key). nat_eq x.place y.place) sorted k (k + 1) d still (omega arith) l))) in
    Less-from_sorted by_key sorted i j d strict less within
  where
    flips : (a b : ℕ) → nat_eq a b ≡ nat_eq b a
    flips a b = nat_eq_equiv.symm a b
