-- What is kept of a list, each member changed: one member more, two lists, and how many there are.
use Rattle.std.proofs.Common.{◌≡◌, ◌≤◌, suc, Bool, true, false, cond, List, [], ◌∷◌, ◌++◌, length, map, filter, refl, ap, ◌∙◌, arith, append-nil}
use Rattle.std.proofs.lemmas.List.{map-append}
use Rattle.std.proofs.lemmas.List.Elements.{filter-append}

-- those that are here, each changed
abbrev pub kept : {A : Type 0} → (here : A → Bool) → (change : A → A) → List A → List A
kept here change xs = map change (filter here xs)

pub kept_here : {A : Type 0} (here : A → Bool) (change : A → A) (x : A) (xs : List A) → here x ≡ true → kept here change (x ∷ xs) ≡ change x ∷ kept here change xs
kept_here here change x xs e = ap (λ (b : Bool). map change (cond b (x ∷ filter here xs) (filter here xs))) e

pub kept_other : {A : Type 0} (here : A → Bool) (change : A → A) (x : A) (xs : List A) → here x ≡ false → kept here change (x ∷ xs) ≡ kept here change xs
kept_other here change x xs e = ap (λ (b : Bool). map change (cond b (x ∷ filter here xs) (filter here xs))) e

pub kept_both : {A : Type 0} (here : A → Bool) (change : A → A) (xs ys : List A) → kept here change (xs ++ ys) ≡ kept here change xs ++ kept here change ys
kept_both {A} here change xs ys = ap (λ (zs : List A). map change zs) (filter-append here xs ys) ∙ map-append change (filter here xs) (filter here ys)

pub kept_push : {A : Type 0} (here : A → Bool) (change : A → A) (xs : List A) (x : A) → here x ≡ true → kept here change (xs ++ x ∷ []) ≡ kept here change xs ++ change x ∷ []
kept_push {A} here change xs x e = kept_both here change xs (x ∷ []) ∙ ap (λ (l : List A). kept here change xs ++ l) (kept_here here change x [] e)

pub kept_pass : {A : Type 0} (here : A → Bool) (change : A → A) (xs : List A) (x : A) → here x ≡ false → kept here change (xs ++ x ∷ []) ≡ kept here change xs
kept_pass {A} here change xs x e = kept_both here change xs (x ∷ []) ∙ ap (λ (l : List A). kept here change xs ++ l) (kept_other here change x [] e) ∙ append-nil (kept here change xs)

pub kept_few : {A : Type 0} (here : A → Bool) (change : A → A) (xs : List A) → length (kept here change xs) ≤ length xs
kept_few {A} here change [] = omega arith
kept_few {A} here change (x ∷ xs) = by (here x) refl (kept_few here change xs)
  where
    by : (b : Bool) → here x ≡ b → length (kept here change xs) ≤ length xs → length (kept here change (x ∷ xs)) ≤ suc (length xs)
    by true e few = omega (arith, ap (λ (l : List A). length l) (kept_here here change x xs e), few)
    by false e few = omega (arith, ap (λ (l : List A). length l) (kept_other here change x xs e), few)
