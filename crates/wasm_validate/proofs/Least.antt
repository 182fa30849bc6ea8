-- The least place behind a twin, as it is found key by key; and the keys, as they are made.
use Rattle.std.proofs.Common.{◌≡◌, ℕ, ◌+◌, ◌-◌, ◌<◌, ◌≤◌, min, Bool, true, false, List, [], ◌∷◌, ◌++◌, length, get_or, take, Option, None, Some, unwrap_or, refl, ap, sym, ◌∙◌, subst, ⊎_elim, arith}
use Rattle.std.proofs.Math.ListN.{get_or-append}
use Rattle.std.proofs.Math.Seq.{get_or-append_seam}
use Rattle.std.proofs.lemmas.Bool.{cases_lt}
use Rattle.std.proofs.lemmas.List.{get_or_default, get_or-take, length-append, length-take-le, take_all}
use Rattle.wasm_ops.specs.declared.modules.Export.{Export}
use Rattle.wasm_validate.specs.declared.exports.Key.{Key}
use Rattle.wasm_validate.specs.Names.{IsKey, AreKeys, are_twins, IsLeastTwin, IsLeastTwinBelow}

-- two keys beside each other, read at any default
pub beside
    : (keys : List Key) (n : ℕ) (e : Key) (same : Bool) → 1 ≤ n → n < length keys → are_twins (get_or keys (n - 1) e) (get_or keys n e) ≡ same
    → (d : Key) → are_twins (get_or keys (n - 1) d) (get_or keys n d) ≡ same
beside keys n e same some lt at d =
    subst (λ (it : Key). are_twins it (get_or keys n d) ≡ same) (get_or_default keys (n - 1) e d (omega arith))
    (subst (λ (it : Key). are_twins (get_or keys (n - 1) e) it ≡ same) (get_or_default keys n e d lt) at)

pub least_of_one : (keys : List Key) → IsLeastTwinBelow 1 keys None
least_of_one keys k d lt = let never : ⊥ = omega arith in absurd never

-- the next key is no twin of the one before it
pub least_stays
    : (n : ℕ) (keys : List Key) (least : Option ℕ) → IsLeastTwinBelow n keys least → 1 ≤ n → ((d : Key) → are_twins (get_or keys (n - 1) d) (get_or keys n d) ≡ false)
    → IsLeastTwinBelow (n + 1) keys least
least_stays n keys None old some apart = λ k d lt. ⊎_elim
    (λ less. old k d less)
    (λ more.
    let here : n ≡ k + 1 = omega arith in
    let there : n - 1 ≡ k = omega arith in
    subst (λ (m : ℕ). are_twins (get_or keys k d) (get_or keys m d) ≡ false) here (subst (λ (m : ℕ). are_twins (get_or keys m d) (get_or keys n d) ≡ false) there (apart d)))
    (cases_lt (k + 1) n)
least_stays n keys (Some least) ((k, lt, twins), below) some apart = (
  (k, omega arith, twins),
  λ m d less same. ⊎_elim
      (λ old. below m d old same)
      (λ new.
      let here : n ≡ m + 1 = omega arith in
      let there : n - 1 ≡ m = omega arith in
      let other : are_twins (get_or keys m d) (get_or keys (m + 1) d) ≡ false =
      subst (λ (i : ℕ). are_twins (get_or keys m d) (get_or keys i d) ≡ false) here (subst (λ (i : ℕ). are_twins (get_or keys i d) (get_or keys n d) ≡ false) there (apart d)) in
      let never : true ≡ false = sym same ∙ other in cc)
      (cases_lt (m + 1) n),
)

-- it is one
pub least_changes
    : (n : ℕ) (keys : List Key) (least : Option ℕ) (place : ℕ) → IsLeastTwinBelow n keys least → 1 ≤ n
    → ((d : Key) → (are_twins (get_or keys (n - 1) d) (get_or keys n d) ≡ true) × ((get_or keys n d).place ≡ place))
    → IsLeastTwinBelow (n + 1) keys (Some (min (unwrap_or least place) place))
least_changes n keys None place old some twins =
    let next : n - 1 + 1 ≡ n = omega arith in (
      (
        n - 1,
        omega arith,
        λ d. (
          subst (λ (i : ℕ). are_twins (get_or keys (n - 1) d) (get_or keys i d) ≡ true) (sym next) (twins d).0,
          subst (λ (i : ℕ). (get_or keys i d).place ≡ min place place) (sym next) ((twins d).1 ∙ omega arith),
        ),
      ),
      λ m d less same. ⊎_elim
          (λ older. let never : true ≡ false = sym same ∙ old m d older in cc)
          (λ newer.
          let here : n ≡ m + 1 = omega arith in
          let at : (get_or keys (m + 1) d).place ≡ place = subst (λ (i : ℕ). (get_or keys i d).place ≡ place) here (twins d).1 in
          omega arith)
          (cases_lt (m + 1) n),
    )
least_changes n keys (Some least) place ((k, lt, there), below) some twins = (
  ⊎_elim
      (λ less.
      let is : least ≡ min least place = omega arith in
      (k, omega arith, λ d. ((there d).0, (there d).1 ∙ is)))
      (λ more.
      let next : n - 1 + 1 ≡ n = omega arith in
      let is : place ≡ min least place = omega arith in (
        n - 1,
        omega arith,
        λ d. (
          subst (λ (i : ℕ). are_twins (get_or keys (n - 1) d) (get_or keys i d) ≡ true) (sym next) (twins d).0,
          subst (λ (i : ℕ). (get_or keys i d).place ≡ min least place) (sym next) ((twins d).1 ∙ is),
        ),
      ))
      (cases_lt least place),
  λ m d less same. ⊎_elim
      (λ older. let bound = below m d older same in omega arith)
      (λ newer.
      let here : n ≡ m + 1 = omega arith in
      let at : (get_or keys (m + 1) d).place ≡ place = subst (λ (i : ℕ). (get_or keys i d).place ≡ place) here (twins d).1 in
      omega arith)
      (cases_lt (m + 1) n),
)

pub least_of_all
    : (n : ℕ) (keys : List Key) (least : Option ℕ) → IsLeastTwinBelow n keys least → length keys ≤ n → (1 < n → n ≤ length keys) → IsLeastTwin keys least
least_of_all n keys None old long most = λ k d lt. old k d (omega arith)
least_of_all n keys (Some least) ((k, lt, twins), below) long most =
    let more = most (omega arith) in
    ((k, omega arith, twins), λ m d less same. below m d (omega arith) same)

pub no_keys : (exports : List Export) → AreKeys (take 0 exports) []
no_keys exports = record { all = refl; each = λ i e d lt. let never : ⊥ = omega arith in absurd never }

-- one more key
pub keys_more
    : (exports : List Export) (keys : List Key) (i : ℕ) (e : Export) (key : Key) → AreKeys (take i exports) keys → i < length exports → e ≡ get_or exports i e
    → IsKey e i key → AreKeys (take (i + 1) exports) (keys ++ key ∷ [])
keys_more exports keys i e key are lt at is =
    let short : length (take i exports) ≡ i = length-take-le i exports (omega arith) in
    let long : length (take (i + 1) exports) ≡ i + 1 = length-take-le (i + 1) exports (omega arith) in
    let count = are.all in
    let more : length (keys ++ key ∷ []) ≡ length keys + 1 = length-append keys (key ∷ []) in
    record {
      all = omega arith;
      each = λ m x d less. ⊎_elim
          (λ old.
          let from : get_or (take i exports) m x ≡ get_or (take (i + 1) exports) m x = get_or-take i exports m x old ∙ sym (get_or-take (i + 1) exports m x (omega arith)) in
          let key_from : get_or keys m d ≡ get_or (keys ++ key ∷ []) m d = sym (get_or-append keys (key ∷ []) d m (omega arith)) in
          subst (λ (it : Export). IsKey it m (get_or (keys ++ key ∷ []) m d)) from (subst (λ (it : Key). IsKey (get_or (take i exports) m x) m it) key_from (are.each m x d (omega arith))))
          (λ new.
          let here : i ≡ m = omega arith in
          let last : m ≡ length keys = omega arith in
          let from : e ≡ get_or (take (i + 1) exports) m x =
          at ∙ (get_or_default exports i e x lt ∙ (ap (λ (n : ℕ). get_or exports n x) here ∙ sym (get_or-take (i + 1) exports m x (omega arith)))) in
          let key_from : key ≡ get_or (keys ++ key ∷ []) m d = sym (ap (λ (n : ℕ). get_or (keys ++ key ∷ []) n d) last ∙ get_or-append_seam keys key [] d) in
          subst (λ (it : Export). IsKey it m (get_or (keys ++ key ∷ []) m d)) from (subst (λ (it : Key). IsKey e m it) key_from (subst (λ (n : ℕ). IsKey e n key) here is)))
          (cases_lt m i);
    }

pub keys_of_all : (exports : List Export) (keys : List Key) (n : ℕ) → AreKeys (take n exports) keys → length exports ≤ n → AreKeys exports keys
keys_of_all exports keys n are long = subst (λ (es : List Export). AreKeys es keys) (take_all n exports long) are
