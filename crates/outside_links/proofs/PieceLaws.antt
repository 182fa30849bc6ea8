-- Pieces of bytes, the empty ones in front of them, and their bytes one behind another.
use Rattle.std.proofs.Common.{◌≡◌, ◌<◌, ◌≤◌, ◌⊎◌, ℕ, min, List, [], ◌∷◌, ◌++◌, length, take, drop, inl, inr, refl, sym, ap, ◌∙◌, arith, map, Vec, append_assoc, append-nil, length-take, length-drop, take_all, drop-drop, take-append-drop, ◌+◌}
use Rattle.std.proofs.lemmas.List.{drop_min}
use Rattle.std.specs.declared.alloc.Global.{Global}
use Rattle.outside_links.specs.MemLink.{bytes_of, items_of, left_behind, next_bytes, pass_empty}

-- a piece with bytes is not passed over
pub pass_empty-some : (piece : List ℕ) (pieces : List (List ℕ)) → 0 < length piece → pass_empty (piece ∷ pieces) ≡ piece ∷ pieces
pass_empty-some [] pieces some = let bad : ⊥ = omega (arith, some) in absurd bad
pass_empty-some (byte ∷ piece) pieces some = refl

-- one without is
pub pass_empty-none : (piece : List ℕ) (pieces : List (List ℕ)) → length piece ≤ 0 → pass_empty (piece ∷ pieces) ≡ pass_empty pieces
pass_empty-none [] pieces none = refl
pass_empty-none (byte ∷ piece) pieces none = let bad : ⊥ = omega (arith, none) in absurd bad

-- empty pieces have no bytes
pub bytes_of-pass_empty : (pieces : List (List ℕ)) → bytes_of (pass_empty pieces) ≡ bytes_of pieces
bytes_of-pass_empty [] = refl
bytes_of-pass_empty ([] ∷ pieces) = bytes_of-pass_empty pieces
bytes_of-pass_empty ((byte ∷ piece) ∷ pieces) = refl

-- what a read with so much room took of these pieces and left of them, where this is the piece that it read
pub record Laid (old new : List (List ℕ)) (piece : List ℕ) (room laid_down : ℕ) : Type 0 where
  pub next : take room piece ≡ next_bytes old room
  pub count : laid_down ≡ length (next_bytes old room)
  pub left : new ≡ left_behind old room
  pub taken : bytes_of old ≡ take room piece ++ bytes_of new
  pub end : 0 < room → laid_down ≡ 0 → bytes_of old ≡ []

laid_none : (room : ℕ) → Laid [] [] [] room 0
laid_none room = record { next = take_all room [] (omega arith); count = refl; left = refl; taken = sym (append-nil (take room []) ∙ take_all room [] (omega arith)); end = λ some none. refl }

laid_some : (byte : ℕ) (piece : List ℕ) (pieces : List (List ℕ)) (room count : ℕ) → count ≡ min room (length (byte ∷ piece))
    → Laid ((byte ∷ piece) ∷ pieces) (pass_empty (drop count (byte ∷ piece) ∷ pieces)) (byte ∷ piece) room count
laid_some byte piece pieces room count is =
    let all : List ℕ = byte ∷ piece in
    let rest : drop count all ≡ drop room all = ap (λ n. drop n all) is ∙ drop_min room all in
    record {
      next = refl;
      count = is ∙ sym (length-take room all);
      left = ap (λ left. pass_empty (left ∷ pieces)) rest;
      taken = sym (ap (λ bytes. take room all ++ bytes) (bytes_of-pass_empty (drop count all ∷ pieces) ∙ ap (λ left. left ++ bytes_of pieces) rest)
          ∙ sym (append_assoc (take room all) (drop room all) (bytes_of pieces))
          ∙ ap (λ bytes. bytes ++ bytes_of pieces) (take-append-drop room all));
      end = λ some none. let bad : ⊥ = omega (arith, is, none, some) in absurd bad;
    }

laid_by : (piece : List ℕ) (pieces : List (List ℕ)) (room count : ℕ) → count ≡ min room (length piece)
    → (0 < length piece) ⊎ (pieces ≡ []) → Laid (pass_empty (piece ∷ pieces)) (pass_empty (drop count piece ∷ pieces)) piece room count
laid_by [] [] room count is first = let none : count ≡ 0 = omega (arith, is) in rw none (laid_none room)
laid_by [] (next ∷ pieces) room count is (inl some) = let bad : ⊥ = omega (arith, some) in absurd bad
laid_by [] (next ∷ pieces) room count is (inr none) = let bad : ⊥ = cc in absurd bad
laid_by (byte ∷ piece) pieces room count is first = laid_some byte piece pieces room count is

-- and where it is what is left of a piece of which so much was read
pub laid : (old : List (List ℕ)) (items left : List ℕ) (at : ℕ) (later : List (Vec ℕ Global)) (room count : ℕ)
    → pass_empty (drop at items ∷ map items_of later) ≡ old → left ≡ drop at items
    → count ≡ min room (length left) → (at < length items) ⊎ (later ≡ [])
    → Laid old (pass_empty (drop (at + count) items ∷ map items_of later)) left room count
laid old items left at later room count before rest is first =
    let more : drop (at + count) items ≡ drop count left = sym (drop-drop count at items) ∙ ap (drop count) (sym rest) in
    let same : old ≡ pass_empty (left ∷ map items_of later) = sym before ∙ ap (λ bytes. pass_empty (bytes ∷ map items_of later)) (sym rest) in
    let some : (0 < length left) ⊎ (map items_of later ≡ []) =
    elim first [ inl more ↦ inl (rw rest (omega (arith, length-drop at items, more))) | inr none ↦ inr (ap (map items_of) none) ] in
    rw (same, more) (laid_by left (map items_of later) room count is some)
