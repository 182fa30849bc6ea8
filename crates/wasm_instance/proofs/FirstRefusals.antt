-- What refuses a list first, from an item on.
use Rattle.std.proofs.Common.{◌≡◌, ℕ, suc, ◌+◌, ◌<◌, List, [], ◌∷◌, length, get_or, drop, Option, Some, None, refl, ap, sym, ◌∙◌, add-one}
use Rattle.std.proofs.Math.Seq.{drop-cons}
use Rattle.wasm_meaning.specs.declared.links.LinkRule.{LinkRule}
use Rattle.wasm_meaning.specs.declared.links.Unlinked.{Unlinked}
use Rattle.wasm_meaning.specs.Linking.{first_of_all, told_at, first_refused}

alone : (o : Option Unlinked) → first_of_all (o ∷ []) ≡ o
alone None = refl
alone (Some why) = refl

-- the item that comes next, and those behind it
next_refused
    : {A : Type 0} (refuses : A → Option LinkRule) (xs : List A) (i item : ℕ) (x : A) → i < length xs → x ≡ get_or xs i x
    → first_refused refuses item (drop i xs)
    ≡ first_of_all (told_at item (refuses x) ∷ first_refused refuses (item + 1) (drop (i + 1) xs) ∷ [])
next_refused {A} refuses xs i item x lt at =
    let cut : drop i xs ≡ x ∷ drop (i + 1) xs = rw (add-one, drop-cons xs i x lt) (ap (λ (y : A). y ∷ drop (suc i) xs) (sym at)) in
    ap (λ (rest : List A). first_refused refuses item rest) cut

-- it breaks no rule
pub refused_later
    : {A : Type 0} (refuses : A → Option LinkRule) (xs : List A) (i item : ℕ) (x : A) → i < length xs → x ≡ get_or xs i x → refuses x ≡ None
    → first_refused refuses (item + 1) (drop (i + 1) xs) ≡ first_refused refuses item (drop i xs)
refused_later refuses xs i item x lt at fine =
    let rest = first_refused refuses (item + 1) (drop (i + 1) xs) in
    sym (next_refused refuses xs i item x lt at ∙ ap (λ (r : Option LinkRule). first_of_all (told_at item r ∷ rest ∷ [])) fine ∙ alone rest)

-- it breaks one
pub refused_here
    : {A : Type 0} (refuses : A → Option LinkRule) (xs : List A) (i item : ℕ) (x : A) (rule : LinkRule) → i < length xs → x ≡ get_or xs i x
    → refuses x ≡ Some rule → first_refused refuses item (drop i xs) ≡ Some (record { rule = rule; item = item })
refused_here refuses xs i item x rule lt at found =
    next_refused refuses xs i item x lt at
    ∙ ap (λ (r : Option LinkRule). first_of_all (told_at item r ∷ first_refused refuses (item + 1) (drop (i + 1) xs) ∷ [])) found
