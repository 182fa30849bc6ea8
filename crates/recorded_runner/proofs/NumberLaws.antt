-- The new numbers of a tenant's connections: no two have one, and what stands at one is the tenant's; and what belongs to one connection.
use Rattle.std.proofs.Common.{◌≡◌, ◌≢◌, ℕ, zero, suc, ◌+◌, ◌<◌, ◌≤◌, Bool, true, false, cond, ◌==◌, if◌then◌else◌, List, [], ◌∷◌, ◌++◌, length, filter, take, get_or, nat_lt, refl, sym, ap, ap₂, ◌∙◌, arith, eq-eqb, eqb-true, ne_eqb, true≢false}
use Rattle.std.specs.List.{flat_map, AllByRecursion}
use Rattle.std.proofs.lemmas.Bool.Decides.{nat_tests}
use Rattle.std.proofs.lemmas.List.Filters.{length-filter_more}
use Rattle.recorded_runner.proofs.KeptLaws.{kept, kept_here, kept_other}

abbrev pub of_tenant : (tenant : ℕ) → ℕ → Bool
of_tenant tenant owner = owner == tenant

-- how many of the tenant's stand before this place
abbrev pub among : (owners : List ℕ) (tenant link : ℕ) → ℕ
among owners tenant link = length (filter (of_tenant tenant) (take link owners))

count_one : (tenant o : ℕ) (os : List ℕ) (b : Bool) → (o == tenant) ≡ b → length (filter (of_tenant tenant) (o ∷ os)) ≡ (if b then 1 else 0) + length (filter (of_tenant tenant) os)
count_one tenant o os true e = ap (λ (b : Bool). length (cond b (o ∷ filter (of_tenant tenant) os) (filter (of_tenant tenant) os))) e ∙ omega arith
count_one tenant o os false e = ap (λ (b : Bool). length (cond b (o ∷ filter (of_tenant tenant) os) (filter (of_tenant tenant) os))) e ∙ omega arith

-- a later connection has a greater number
pub among_less : (owners : List ℕ) (tenant k l : ℕ) → k < l → k < length owners → (get_or owners k 0 == tenant) ≡ true → among owners tenant k < among owners tenant l
among_less [] tenant k l lt below e = absurd (omega (arith, below))
among_less (o ∷ os) tenant k zero lt below e = absurd (omega (arith, lt))
among_less (o ∷ os) tenant zero (suc l) lt below e = omega (arith, count_one tenant o (take l os) true e)
among_less (o ∷ os) tenant (suc k) (suc l) lt below e =
    omega (arith, among_less os tenant k l (omega (arith, lt)) (omega (arith, below)) e, count_one tenant o (take k os) (o == tenant) refl, count_one tenant o (take l os) (o == tenant) refl)

is_below : (n m : ℕ) → nat_lt n m ≡ true → n < m
is_below n m e = grind (arith, nat_tests)

not_below : (n m : ℕ) → nat_lt n m ≡ false → m ≤ n
not_below n m e = grind (arith, nat_tests)

unlike : (owners : List ℕ) (tenant k l : ℕ) → k < length owners → l < length owners → (get_or owners k 0 == tenant) ≡ true → (get_or owners l 0 == tenant) ≡ true → k ≢ l
    → (b : Bool) → nat_lt k l ≡ b → among owners tenant k ≡ among owners tenant l → ⊥
unlike owners tenant k l kb lb ke le ne true t same = omega (arith, among_less owners tenant k l (is_below k l t) kb ke, same)
unlike owners tenant k l kb lb ke le ne false t same = omega (arith, among_less owners tenant l k (omega (arith, not_below k l t, ne)) lb le, same)

-- so two of the tenant's connections with one number are one
pub among_same : (owners : List ℕ) (tenant k l : ℕ) → k < length owners → l < length owners → (get_or owners k 0 == tenant) ≡ true → (get_or owners l 0 == tenant) ≡ true
    → (b : Bool) → (k == l) ≡ b → (among owners tenant k == among owners tenant l) ≡ b
among_same owners tenant k l kb lb ke le true e = eq-eqb (among owners tenant k) (among owners tenant l) (ap (λ (n : ℕ). among owners tenant n) (eqb-true k l e))
among_same owners tenant k l kb lb ke le false e =
    ne_eqb (among owners tenant k) (among owners tenant l)
    (unlike owners tenant k l kb lb ke le (λ (same : k ≡ l). true≢false (sym (eq-eqb k l same) ∙ e)) (nat_lt k l) refl)

-- what stands at the new number is the tenant
owner_next : (o : ℕ) (os : List ℕ) (tenant link : ℕ) (b : Bool) → (o == tenant) ≡ b → get_or (filter (of_tenant tenant) os) (among os tenant link) 0 ≡ tenant
    → get_or (filter (of_tenant tenant) (o ∷ os)) (among (o ∷ os) tenant (suc link)) 0 ≡ tenant
owner_next o os tenant link true e more =
    ap (λ (b : Bool). get_or (cond b (o ∷ filter (of_tenant tenant) os) (filter (of_tenant tenant) os)) (length (cond b (o ∷ filter (of_tenant tenant) (take link os)) (filter (of_tenant tenant) (take link os)))) 0) e ∙ more
owner_next o os tenant link false e more =
    ap (λ (b : Bool). get_or (cond b (o ∷ filter (of_tenant tenant) os) (filter (of_tenant tenant) os)) (length (cond b (o ∷ filter (of_tenant tenant) (take link os)) (filter (of_tenant tenant) (take link os)))) 0) e ∙ more

pub owner_among : (owners : List ℕ) (tenant link : ℕ) → link < length owners → (get_or owners link 0 == tenant) ≡ true → get_or (filter (of_tenant tenant) owners) (among owners tenant link) 0 ≡ tenant
owner_among [] tenant link below e = absurd (omega (arith, below))
owner_among (o ∷ os) tenant zero below e =
    ap (λ (b : Bool). get_or (cond b (o ∷ filter (of_tenant tenant) os) (filter (of_tenant tenant) os)) 0 0) e ∙ eqb-true o tenant e
owner_among (o ∷ os) tenant (suc link) below e =
    owner_next o os tenant link (o == tenant) refl (owner_among os tenant link (omega (arith, below)) e)

-- the next connection's number
pub among_next : (owners : List ℕ) (tenant link : ℕ) → link < length owners → among owners tenant (suc link) ≡ among owners tenant link + (if get_or owners link 0 == tenant then 1 else 0)
among_next owners tenant link below =
    let next : suc link ≡ link + 1 = omega arith in
    ap (λ (n : ℕ). among owners tenant n) next ∙ length-filter_more (of_tenant tenant) owners link 0 below

-- ---- what belongs to one connection

other_link : (owners : List ℕ) (tenant n link : ℕ) → (get_or owners n 0 == tenant) ≡ false → (get_or owners link 0 == tenant) ≡ true → (n == link) ≡ false
other_link owners tenant n link e le =
    ne_eqb n link (λ (same : n ≡ link). true≢false (sym le ∙ ap (λ (k : ℕ). get_or owners k 0 == tenant) (sym same) ∙ e))

-- what is brought to a connection of the tenant is brought to the one with its new number
module _ {A B : Type 0} (owners : List ℕ) (tenant : ℕ) (link_of : A → ℕ) (change : A → A) (bring : A → List B) (link : ℕ) where
  on_here : ((x : A) → link_of (change x) ≡ among owners tenant (link_of x)) → ((x : A) → bring (change x) ≡ bring x)
      → link < length owners → (get_or owners link 0 == tenant) ≡ true → (x : A) (xs : List A) → link_of x < length owners
      → (b : Bool) → (get_or owners (link_of x) 0 == tenant) ≡ b
      → flat_map (λ y. if link_of y == among owners tenant link then bring y else []) (kept (λ y. get_or owners (link_of y) 0 == tenant) change xs) ≡ flat_map (λ y. if link_of y == link then bring y else []) xs
      → flat_map (λ y. if link_of y == among owners tenant link then bring y else []) (kept (λ y. get_or owners (link_of y) 0 == tenant) change (x ∷ xs)) ≡ flat_map (λ y. if link_of y == link then bring y else []) (x ∷ xs)
  on_here moves keeps below owned x xs known true e more =
      ap (λ (l : List A). flat_map (λ y. if link_of y == among owners tenant link then bring y else []) l) (kept_here (λ y. get_or owners (link_of y) 0 == tenant) change x xs e)
      ∙ ap₂ (λ (front others : List B). front ++ others)
      (ap (λ (n : ℕ). if n == among owners tenant link then bring (change x) else []) (moves x)
      ∙ ap (λ (b : Bool). if b then bring (change x) else []) (among_same owners tenant (link_of x) link known below e owned (link_of x == link) refl)
      ∙ ap (λ (l : List B). if link_of x == link then l else []) (keeps x)) more
  on_here moves keeps below owned x xs known false e more =
      ap (λ (l : List A). flat_map (λ y. if link_of y == among owners tenant link then bring y else []) l) (kept_other (λ y. get_or owners (link_of y) 0 == tenant) change x xs e)
      ∙ more
      ∙ sym (ap (λ (b : Bool). (if b then bring x else []) ++ flat_map (λ y. if link_of y == link then bring y else []) xs) (other_link owners tenant (link_of x) link e owned))

  pub kept_on : ((x : A) → link_of (change x) ≡ among owners tenant (link_of x)) → ((x : A) → bring (change x) ≡ bring x)
      → link < length owners → (get_or owners link 0 == tenant) ≡ true → (xs : List A) → AllByRecursion (λ x. link_of x < length owners) xs
      → flat_map (λ y. if link_of y == among owners tenant link then bring y else []) (kept (λ y. get_or owners (link_of y) 0 == tenant) change xs) ≡ flat_map (λ y. if link_of y == link then bring y else []) xs
  kept_on moves keeps below owned [] all = refl
  kept_on moves keeps below owned (x ∷ xs) all =
      on_here moves keeps below owned x xs all.0 (get_or owners (link_of x) 0 == tenant) refl (kept_on moves keeps below owned xs all.1)
