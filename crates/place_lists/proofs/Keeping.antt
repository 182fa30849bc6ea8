-- Each step on the vacant places keeps their rule.
use Rattle.std.proofs.Common.{◌≡◌, ℕ, zero, suc, ◌+◌, ◌-◌, ◌<◌, ◌≤◌, ◌==◌, eq-eqb, nat_lt, Bool, true, false, List, [], ◌∷◌, ◌++◌, if◌then◌else◌, length, refl, sym, ap, ◌∙◌, subst, arith, length-append}
use Rattle.std.proofs.lemmas.Bool.Decides.{nat_tests}
use Rattle.atomic_table.proofs.Lists.{set_again}
use Rattle.crossbeam_queue.specs.Fifo.{Pushes, Pops, Forks, Learns}
use Rattle.view_totals.proofs.Sums.{total-push, total-set, term_le}
use Rattle.place_lists.proofs.Handing.{times-append}
use Rattle.place_lists.specs.Keeping.{keeper, once, counted_from, maker, EachOnce, took, gave, HasRoom}
use Rattle.place_lists.specs.Places.{IsPlace, times}
use Rattle.place_lists.specs.Vacating.{HasLast}
use Rattle.place_lists.specs.declared.keepers.Keeper.{Keeper}

times_here : (n : ℕ) (xs : List ℕ) → times n (n ∷ xs) ≡ 1 + times n xs
times_here n xs = ap (λ (b : Bool). (if b then 1 else 0) + times n xs) (eq-eqb n n refl)

is_place : (n : ℕ) → 1 ≤ once n → IsPlace n
is_place n few = grind (arith, nat_tests)

-- what is counted from a later number has not this one
times_before : (n first many : ℕ) → n < first → times n (counted_from first many) ≡ 0
times_before n first zero before = refl
times_before n first (suc many) before =
    let rest = times_before n (suc first) many (omega (arith, before)) in
    let apart : (first == n) ≡ false = grind (arith, nat_tests) in
    ap (λ (b : Bool). (if b then 1 else 0) + times n (counted_from (suc first) many)) apart ∙ ap (λ (k : ℕ). 0 + k) rest

counted_either : (n first many : ℕ) → first ≤ n → (suc first ≤ n → times n (counted_from (suc first) many) ≡ (if nat_lt n (suc first + many) then 1 else 0))
    → (b : Bool) → (first == n) ≡ b → (if b then 1 else 0) + times n (counted_from (suc first) many) ≡ (if nat_lt n (first + suc many) then 1 else 0)
counted_either n first many from again true is =
    let same : first ≡ n = grind (arith, nat_tests) in
    let within : nat_lt n (first + suc many) ≡ true = grind (arith, nat_tests) in
    ap (λ (k : ℕ). 1 + k) (times_before n (suc first) many (omega (arith, same))) ∙ ap (λ (b : Bool). if b then 1 else 0) (sym within)
counted_either n first many from again false is =
    let later : suc first ≤ n = grind (arith, nat_tests) in
    let rest = again later in
    let sums : suc first + many ≡ first + suc many = omega arith in
    let none : 0 + times n (counted_from (suc first) many) ≡ times n (counted_from (suc first) many) = omega arith in
    none ∙ (rest ∙ ap (λ (k : ℕ). if nat_lt n k then 1 else 0) sums)

times_counted : (n first many : ℕ) → first ≤ n → times n (counted_from first many) ≡ (if nat_lt n (first + many) then 1 else 0)
times_counted n first zero from =
    let past : nat_lt n (first + 0) ≡ false = grind (arith, nat_tests) in
    ap (λ (b : Bool). if b then 1 else 0) (sym past)
times_counted n first (suc many) from =
    ap (λ (b : Bool). (if b then 1 else 0) + times n (counted_from (suc first) many)) refl ∙ counted_either n first many from (λ later. times_counted n (suc first) many later) (first == n) refl

length_counted : (first many : ℕ) → length (counted_from first many) ≡ many
length_counted first zero = refl
length_counted first (suc many) = ap suc (length_counted (suc first) many)

pub begins : EachOnce [] (maker ∷ [])
begins =
    record {
      each = λ n. omega (arith, times_counted n 0 256 (omega arith));
      all = omega (arith, length_counted 0 256);
    }

-- what is left to be given begins with the next place
pub next_counted : (place : ℕ) → place < 256 → counted_from place (256 - place) ≡ place ∷ counted_from (suc place) (256 - suc place)
next_counted place within =
    let many : 256 - place ≡ suc (256 - suc place) = omega arith in
    ap (counted_from place) many

last_of : (place : ℕ) (out : List ℕ) → HasLast place out → (rest : List ℕ) × (out ≡ place ∷ rest)
last_of place [] last = absurd last
last_of place (x ∷ rest) last = (rest, ap (λ (y : ℕ). y ∷ rest) last)

pub gives : (room pass : ℕ) (v : Keeper) (place : ℕ) → HasLast place v.out → Pushes EachOnce room pass v place (gave v place)
gives room pass v place last items views few rule at =
    let cut = last_of place v.out last in
    let w = keeper cut.0 in (
      w,
      record {
        each = λ n. omega (arith, total-set (λ (u : Keeper). times n u.out) views pass v w at, rule.each n, times-append n items (place ∷ []), ap (times n) cut.1);
        all = omega (arith, total-set (λ (u : Keeper). length u.out) views pass v w at, rule.all, length-append items (place ∷ []), ap (λ (l : List ℕ). length l) cut.1);
      },
      cut.1,
    )

pub some_out : (place : ℕ) (out : List ℕ) → HasLast place out → 0 < length out
some_out place out last =
    let cut = last_of place out last in
    omega (arith, ap (λ (l : List ℕ). length l) cut.1)

-- the loop over all places: the next one is the last that was taken, and behind its return the others are left
pub last_counted : (place : ℕ) (out : List ℕ) → place < 256 → out ≡ counted_from place (256 - place) → HasLast place out
last_counted place out within is = subst (HasLast place) (sym (is ∙ next_counted place within)) refl

pub left_counted : (place : ℕ) (out left : List ℕ) → place < 256 → out ≡ counted_from place (256 - place) → out ≡ place ∷ left → left ≡ counted_from (place + 1) (256 - (place + 1))
left_counted place out left within is cut =
    let same : place ∷ left ≡ place ∷ counted_from (suc place) (256 - suc place) = sym cut ∙ (is ∙ next_counted place within) in
    let tail : left ≡ counted_from (suc place) (256 - suc place) = cc in
    let more : suc place ≡ place + 1 = omega arith in
    tail ∙ ap (λ (k : ℕ). counted_from k (256 - k)) more

pub takes : (pass : ℕ) (v : Keeper) → Pops EachOnce pass v (took v)
takes pass v place items views rule at =
    let w = keeper (place ∷ v.out) in (
      w,
      record {
        each = λ n. omega (arith, total-set (λ (u : Keeper). times n u.out) views pass v w at, rule.each n);
        all = omega (arith, total-set (λ (u : Keeper). length u.out) views pass v w at, rule.all);
      },
      (is_place place (omega (arith, rule.each place, times_here place items)), refl),
    )

pub splits : (pass : ℕ) (v : Keeper) → Forks EachOnce pass v v (keeper [])
splits pass v items views rule at =
    subst (λ (l : List Keeper). EachOnce items (l ++ keeper [] ∷ [])) (sym (set_again views pass v at)) (
    record {
      each = λ n. omega (arith, rule.each n, total-push (λ (u : Keeper). times n u.out) views (keeper []));
      all = omega (arith, rule.all, total-push (λ (u : Keeper). length u.out) views (keeper []));
    })

pub has_room : (pass : ℕ) (v : Keeper) → Learns EachOnce pass v (HasRoom v)
has_room pass v items views rule at out = omega (arith, rule.all, out, term_le (λ (u : Keeper). length u.out) views pass v at)
