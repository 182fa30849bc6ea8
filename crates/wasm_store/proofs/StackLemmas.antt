-- What the calls of a stack leave of its view.
use Rattle.std.proofs.Common.{◌≡◌, ℕ, suc, ◌+◌, ◌-◌, ◌≤◌, List, [], ◌∷◌, ◌++◌, length, take, drop, replicate, sym, ap, ◌∙◌, arith, append_assoc}
use Rattle.std.proofs.Math.Seq.{take-add, take-length}
use Rattle.std.proofs.lemmas.List.{reverse-append, length-reverse, length-take-le, length-drop, drop_at, replicate_more}
use Rattle.std.specs.Prelude.{reverse}
use Rattle.wasm_store.specs.Stacks.{cut}

-- the items in use, the top one first
abbrev pub stacked : {X : Type 0} → (count : ℕ) → (items : List X) → List X
stacked count items = reverse (take count items)

module _ {X : Type 0} where
  -- an item at the end is the top one
  pub reverse_push : (items : List X) (x : X) → reverse (items ++ x ∷ []) ≡ x ∷ reverse items
  reverse_push items x = reverse-append items (x ∷ [])

  pub stacked_drop : (count less : ℕ) (items : List X) → count + less ≤ length items → drop less (stacked (count + less) items) ≡ stacked count items
  stacked_drop count less items within =
      let upper = take less (drop count items) in
      let long : length (reverse upper) ≡ less = length-reverse upper ∙ length-take-le less (drop count items) (omega (arith, length-drop count items)) in
      ap (λ (xs : List X). drop less (reverse xs)) (take-add count less items)
      ∙ ap (λ (xs : List X). drop less xs) (reverse-append (take count items) upper)
      ∙ drop_at (reverse upper) (stacked count items) less long

  pub cut_top : (x : X) (xs : List X) (height : ℕ) → height ≤ length xs → x ∷ drop (length xs - height) xs ≡ cut 1 height (x ∷ xs)
  cut_top x xs height within =
      let less : suc (length xs - height) ≡ suc (length xs) - height = omega arith in
      ap (λ (n : ℕ). x ∷ drop n (x ∷ xs)) less

  -- copies of an item, one more on top
  pub copies_more : (n : ℕ) (x : X) (xs : List X) → x ∷ (replicate n x ++ xs) ≡ replicate (n + 1) x ++ xs
  copies_more n x xs = let more : suc n ≡ n + 1 = omega arith in ap (λ (k : ℕ). replicate k x ++ xs) more

  -- and one more at the end
  pub copies_behind : (n : ℕ) (x : X) (xs : List X) → (xs ++ replicate n x) ++ x ∷ [] ≡ xs ++ replicate (n + 1) x
  copies_behind n x xs = append_assoc xs (replicate n x) (x ∷ []) ∙ ap (λ (ys : List X). xs ++ ys) (replicate_more n x)

  -- the lowest items are those that are left when the others are taken off the top
  pub reverse_taken : (items after seen : List X) (n less : ℕ) → after ≡ take n items → n + less ≡ length items → reverse items ≡ seen → reverse after ≡ drop less seen
  reverse_taken items after seen n less taken all same =
      let fits : n + less ≤ length items = omega (arith, all) in
      let whole : stacked (n + less) items ≡ reverse items = ap (λ (k : ℕ). reverse (take k items)) all ∙ ap reverse (take-length items) in
      ap reverse taken ∙ sym (stacked_drop n less items fits) ∙ ap (λ (xs : List X). drop less xs) (whole ∙ same)
