-- Exports of one name have keys that stand beside each other once all keys are sorted.
use Rattle.std.proofs.Common.{◌≡◌, ℕ, ◌+◌, ◌-◌, ◌<◌, ◌≤◌, Bool, true, false, List, [], ◌∷◌, length, get_or, take, Option, None, Some, refl, ap, sym, ◌∙◌, subst, subst₂, ⊎_elim, bytes_eq, nat_eq, Contains, IsPermutation, IsSorted, Less, arith}
use Rattle.std.proofs.lemmas.Bool.{cases_lt, eqb-true, and_parts}
use Rattle.std.proofs.lemmas.List.{get_or_default, get_or-take, length-take-le}
use Rattle.std.proofs.lemmas.List.Folds.{list_any_none, list_any_at}
use Rattle.std.proofs.lemmas.List.Sorted.{Contains-permutation, IsPermutation-sym}
use Rattle.std.proofs.lemmas.Slice.Eq.{bytes_eq-Decides}
use Rattle.wasm_ops.specs.declared.modules.Export.{Export}
use Rattle.wasm_validate.specs.declared.exports.Key.{Key}
use Rattle.wasm_validate.specs.Names.{fingerprint_of, IsKey, AreKeys, are_twins, IsUsedAt, IsFirstUsed, IsLeastTwin}
use Rattle.wasm_validate.proofs.Keys.{by_key, twins_of, place_below, below_by_place, between, rising, not_both}

-- the key where there is none
none : Key
none = record { number = 0; name = record { ref_ptr = (0, 0); now = [] }; place = 0 }

-- the element at a place is one of the list
contained : {X : Type 0} (xs : List X) (i : ℕ) (d : X) → i < length xs → Contains xs (get_or xs i d)
contained xs i d lt = (i, lt, get_or_default xs i (get_or xs i d) d lt)

-- where there is a place, there is an export
one_of : (exports : List Export) (i : ℕ) → i < length exports → Export
one_of [] i lt = let never : ⊥ = omega arith in absurd never
one_of (x ∷ xs) i lt = x

module _ (exports : List Export) (keys sorted : List Key) (are : AreKeys exports keys) (moved : IsPermutation keys sorted) (up : IsSorted by_key sorted) where
  places : (i : ℕ) (d : Key) → i < length keys → (get_or keys i d).place ≡ i
  places i d lt =
      let long = are.all in
      let within : i < length exports = omega arith in
      (are.each i (one_of exports i within) d within).place

  rise : (i j : ℕ) → i < j → j < length sorted → by_key (get_or sorted i none) (get_or sorted j none) ≡ Less
  rise i j less within = rising keys sorted places moved up i j none less within

  -- the place where a key stands once they are sorted
  stands : (i : ℕ) → i < length keys → (p : ℕ) × (p < length sorted) × (get_or sorted p none ≡ get_or keys i none)
  stands i lt =
      let found = Contains-permutation keys sorted (get_or keys i none) moved (contained keys i none lt) in
      (found.0, found.1, get_or_default sorted found.0 none (get_or keys i none) found.1 ∙ found.2)

  -- and the export of a key that stands there
  comes : (p : ℕ) → p < length sorted → (i : ℕ) × (i < length exports) × ((e : Export) → IsKey (get_or exports i e) i (get_or sorted p none))
  comes p lt =
      let found = Contains-permutation sorted keys (get_or sorted p none) (IsPermutation-sym keys sorted moved) (contained sorted p none lt) in
      let long = are.all in
      let lt' : found.0 < length keys = found.1 in
      let within : found.0 < length exports = omega arith in
      (found.0, within, λ e. subst (λ (it : Key). IsKey (get_or exports found.0 e) found.0 it) found.2 (are.each found.0 e (get_or sorted p none) within))

  abbrev HasTwin : ℕ → Type 0
  HasTwin i = (k : ℕ) × (k + 1 < length sorted) × (are_twins (get_or sorted k none) (get_or sorted (k + 1) none) ≡ true) × ((get_or sorted (k + 1) none).place ≡ i)

  -- an export with the name of one before it has a key behind a twin
  used_has_twin : (j i : ℕ) (e : Export) → j < i → i < length exports → bytes_eq (get_or exports j e).name (get_or exports i e).name ≡ true → HasTwin i
  used_has_twin j i e less within same =
      let long = are.all in
      let a = get_or keys j none in
      let b = get_or keys i none in
      let ka = are.each j e none (omega arith) in
      let kb = are.each i e none within in
      let names : (get_or exports j e).name ≡ (get_or exports i e).name = (bytes_eq-Decides (get_or exports j e).name (get_or exports i e).name).0 same in
      let texts : a.name.now ≡ b.name.now = ka.name ∙ (names ∙ sym kb.name) in
      let numbers : a.number ≡ b.number = ka.number ∙ (ap fingerprint_of names ∙ sym kb.number) in
      let texts_eq : bytes_eq a.name.now b.name.now ≡ true = (bytes_eq-Decides a.name.now b.name.now).1 texts in
      let at_a = ka.place in
      let at_b = kb.place in
      let ab : by_key a b ≡ Less = below_by_place a b numbers texts_eq (omega arith) in
      let (p, lp, sp) = stands j (omega arith) in
      let (q, lq, sq) = stands i (omega arith) in
      let behind : q ≤ p → ⊥ = λ le. ⊎_elim
      (λ lt. let ba : by_key b a ≡ Less = subst₂ (λ (x y : Key). by_key x y ≡ Less) sq sp (rise q p lt lp) in not_both a b ab ba)
      (λ ge. let pq : p ≡ q = omega arith in
      let alike : a ≡ b = sym sp ∙ (ap (λ (n : ℕ). get_or sorted n none) pq ∙ sq) in
      let level : a.place ≡ b.place = ap (λ (it : Key). it.place) alike in omega arith)
      (cases_lt q p) in
      ⊎_elim
      (λ pq.
      let k = q - 1 in
      let next : k + 1 ≡ q = omega arith in
      let sk : get_or sorted (k + 1) none ≡ b = ap (λ (n : ℕ). get_or sorted n none) next ∙ sq in
      let x = get_or sorted k none in
      let twins : are_twins x b ≡ true = ⊎_elim
      (λ pk. between a x b numbers texts (subst (λ (it : Key). by_key it x ≡ Less) sp (rise p k pk (omega arith))) (subst (λ (it : Key). by_key x it ≡ Less) sk (rise k (k + 1) (omega arith) (omega arith))))
      (λ kp. let here : k ≡ p = omega arith in
      let alike : x ≡ a = ap (λ (n : ℕ). get_or sorted n none) here ∙ sp in
      subst (λ (it : Key). are_twins it b ≡ true) (sym alike) (twins_of a b numbers texts_eq))
      (cases_lt p k) in
      (k, omega arith, subst (λ (it : Key). are_twins x it ≡ true) (sym sk) twins, ap (λ (it : Key). it.place) sk ∙ kb.place))
      (λ qp. absurd (behind qp))
      (cases_lt p q)

  -- the greater one of two twins is the key of an export with the name of one before it
  twin_is_used
      : (k : ℕ) → k + 1 < length sorted → are_twins (get_or sorted k none) (get_or sorted (k + 1) none) ≡ true
      → ((get_or sorted (k + 1) none).place < length exports) × IsUsedAt exports (get_or sorted (k + 1) none).place true
  twin_is_used k lt twins =
      let x = get_or sorted k none in
      let y = get_or sorted (k + 1) none in
      let (numbers_eq, texts_eq) = and_parts (nat_eq x.number y.number) (bytes_eq x.name.now y.name.now) twins in
      let numbers = eqb-true x.number y.number numbers_eq in
      let (j, lj, jx) = comes k (omega arith) in
      let (i, li, iy) = comes (k + 1) lt in
      let less : x.place < y.place = place_below x y numbers texts_eq (rise k (k + 1) (omega arith) lt) in
      let one = one_of exports i li in
      let at_x = (jx one).place in
      let at_y = (iy one).place in
      let ahead : j < i = omega arith in (
        omega arith,
        subst (λ (n : ℕ). IsUsedAt exports n true) (sym at_y) (λ e.
            let name = (get_or exports i e).name in
            let names : (get_or exports j e).name ≡ name = sym (jx e).name ∙ ((bytes_eq-Decides x.name.now y.name.now).0 texts_eq ∙ (iy e).name) in
            let short : length (take i exports) ≡ i = length-take-le i exports (omega arith) in
            list_any_at (λ (it : Export). bytes_eq it.name name) (take i exports) j e (omega arith)
            (ap (λ (it : Export). bytes_eq it.name name) (get_or-take i exports j e ahead) ∙ (bytes_eq-Decides (get_or exports j e).name name).1 names)),
      )

  -- an export whose key is behind no twin has a new name
  no_twin_is_new : (i : ℕ) → i < length exports → (HasTwin i → ⊥) → IsUsedAt exports i false
  no_twin_is_new i within none_there e =
      let name = (get_or exports i e).name in
      let short : length (take i exports) ≡ i = length-take-le i exports (omega arith) in
      list_any_none (λ (it : Export). bytes_eq it.name name) (take i exports) (λ j d lt.
      let ahead : j < i = omega arith in
      let same : get_or (take i exports) j d ≡ get_or exports j e = get_or-take i exports j d ahead ∙ get_or_default exports j d e (omega arith) in
      ap (λ (it : Export). bytes_eq it.name name) same ∙ apart j ahead (bytes_eq (get_or exports j e).name name) refl)
    where
      apart : (j : ℕ) → j < i → (same : Bool) → bytes_eq (get_or exports j e).name (get_or exports i e).name ≡ same → bytes_eq (get_or exports j e).name (get_or exports i e).name ≡ false
      apart j ahead true same = absurd (none_there (used_has_twin j i e ahead within same))
      apart j ahead false same = same

  pub first_used_from_least : (least : Option ℕ) → IsLeastTwin sorted least → IsFirstUsed exports least
  first_used_from_least None fine = λ i within. no_twin_is_new i within (λ twin. let never : true ≡ false = sym twin.2 ∙ fine twin.0 none twin.1 in cc)
  first_used_from_least (Some first) (there, below) =
      let (k, lt, twins) = there in
      let at = (twins none).1 in
      let used = twin_is_used k lt (twins none).0 in (
        subst (λ (n : ℕ). n < length exports) at used.0,
        subst (λ (n : ℕ). IsUsedAt exports n true) at used.1,
        λ i less.
            no_twin_is_new i (within i less (subst (λ (n : ℕ). n < length exports) at used.0)) (λ twin.
            let least = below twin.0 none twin.1 twin.2 in
            let place = twin.3 in omega arith),
      )
    where
      within : (i : ℕ) → i < first → first < length exports → i < length exports
      within i less lt = omega arith
