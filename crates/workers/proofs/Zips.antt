-- Lists of the same length, item by item.
use Rattle.std.proofs.Common.{◌≡◌, ℕ, zero, suc, List, [], ◌∷◌, ◌++◌, length, slice_get, Some, refl, subst, arith}
use Rattle.std.specs.List.{AllZip}

pub zip_push : {A B : Type 0} (R : A → B → Type 0) (xs : List A) (ys : List B) (x : A) (y : B) → AllZip R xs ys → R x y → AllZip R (xs ++ x ∷ []) (ys ++ y ∷ [])
zip_push R [] [] x y zs r = (r, tt)
zip_push R [] (b ∷ ys) x y zs r = absurd zs
zip_push R (a ∷ xs) [] x y zs r = absurd zs
zip_push R (a ∷ xs) (b ∷ ys) x y zs r = (zs.0, zip_push R xs ys x y zs.1 r)

-- what holds at each number holds item by item
pub zip_by_number : {A B : Type 0} (R : A → B → Type 0) (xs : List A) (ys : List B) → length ys ≡ length xs
    → ((k : ℕ) (x : A) (y : B) → slice_get xs k ≡ Some x → slice_get ys k ≡ Some y → R x y) → AllZip R xs ys
zip_by_number R [] [] same each = tt
zip_by_number R [] (y ∷ ys) same each = absurd (omega (arith, same))
zip_by_number R (x ∷ xs) [] same each = absurd (omega (arith, same))
zip_by_number R (x ∷ xs) (y ∷ ys) same each = (each 0 x y refl refl, zip_by_number R xs ys (omega (arith, same)) (λ k a b at at'. each (suc k) a b at at'))

-- two in a row
pub zip_through : {A B C : Type 0} (R : A → B → Type 0) (S : B → C → Type 0) (T : A → C → Type 0) (xs : List A) (ys : List B) (zs : List C) → ((x : A) (y : B) (z : C) → R x y → S y z → T x z)
    → AllZip R xs ys → AllZip S ys zs → AllZip T xs zs
zip_through R S T [] [] [] join rs ss = tt
zip_through R S T [] [] (z ∷ zs) join rs ss = absurd ss
zip_through R S T [] (y ∷ ys) zs join rs ss = absurd rs
zip_through R S T (x ∷ xs) [] zs join rs ss = absurd rs
zip_through R S T (x ∷ xs) (y ∷ ys) [] join rs ss = absurd ss
zip_through R S T (x ∷ xs) (y ∷ ys) (z ∷ zs) join rs ss = (join x y z rs.0 ss.0, zip_through R S T xs ys zs join rs.1 ss.1)

-- and the other way round
pub zip_at : {A B : Type 0} (R : A → B → Type 0) (xs : List A) (ys : List B) (k : ℕ) (x : A) (y : B) → AllZip R xs ys → slice_get xs k ≡ Some x → slice_get ys k ≡ Some y → R x y
zip_at R [] ys k x y zs at at' = absurd cc
zip_at R (a ∷ xs) [] k x y zs at at' = absurd zs
zip_at {A} {B} R (a ∷ xs) (b ∷ ys) zero x y zs at at' =
    let left : a ≡ x = cc in
    let right : b ≡ y = cc in
    subst (λ (v : A). R v y) left (subst (λ (v : B). R a v) right zs.0)
zip_at R (a ∷ xs) (b ∷ ys) (suc k) x y zs at at' = zip_at R xs ys k x y zs.1 at at'
