-- A delivery in pieces is a delivery of the whole.
use Rattle.std.proofs.Common.{◌≡◌, ◌≢◌, ◌==◌, ℕ, suc, Bool, true, false, min, List, [], ◌∷◌, ◌++◌, length, take, drop, refl, subst, ap, ◌∙◌, arith}
use Rattle.std.proofs.lemmas.Bool.Decides.{Decides-eqb}
use Rattle.std.proofs.lemmas.List.{drop_min, take-append-drop, take_min}
use Rattle.outside.proofs.Deliveries.{Appends-append, Appends-nil, TakesPrefix-append}
use Rattle.outside.specs.Sink.{Appends, SinkState, TakesPrefix}
use Rattle.commands.specs.Pieces.{Cut, CutBehind, Handed, HandedBy, piece_size}

-- the two parts of a split make the whole
pub split_whole : (n : ℕ) (whole piece behind : List ℕ) → piece ≡ take n whole → behind ≡ drop n whole → piece ++ behind ≡ whole
split_whole n whole piece behind p q = ap (λ x. x ++ behind) p ∙ ap (λ y. take n whole ++ y) q ∙ take-append-drop n whole

-- a piece was added, and then the rest
pub append_at : (old mid new : SinkState) (whole piece behind : List ℕ) → piece ++ behind ≡ whole → Appends old mid piece → Appends mid new behind → Appends old new whole
append_at old mid new whole piece behind e first second = subst (λ bytes. Appends old new bytes) e (Appends-append first second)

-- a piece was added, and then a prefix of the rest
pub prefix_at : (old mid new : SinkState) (whole piece behind : List ℕ) → piece ++ behind ≡ whole → Appends old mid piece → TakesPrefix mid new behind → TakesPrefix old new whole
prefix_at old mid new whole piece behind e first second = subst (λ bytes. TakesPrefix old new bytes) e (TakesPrefix-append first second)

-- nothing is left to add
pub nothing_left : (sink : SinkState) (rest : List ℕ) → (length rest == 0) ≡ true → Appends sink sink rest
nothing_left sink [] e = Appends-nil sink
nothing_left sink (x ∷ rest) e =
    let none : length (x ∷ rest) ≡ 0 = (Decides-eqb (length (x ∷ rest)) 0).0 e in
    let bad : ⊥ = omega arith in absurd bad

-- The calls.

-- whatever calls hand over the rest, all of it is then handed over
abbrev pub CompletesHanded : {S : Type 0} → (took : S → S → List ℕ → Bool → Type 0) → (rest bytes : List ℕ) → (mid old : S) → Type 0
CompletesHanded {S} took rest bytes mid old = (new : S) (calls : ℕ) → HandedBy took calls rest mid new → Handed took bytes old new

-- whatever calls hand over the rest up to one that fails, so they do all of it
abbrev pub CompletesCut : {S : Type 0} → (took : S → S → List ℕ → Bool → Type 0) → (rest bytes : List ℕ) → (mid old : S) → Type 0
CompletesCut {S} took rest bytes mid old = (new : S) (calls : ℕ) → CutBehind took calls rest mid new → Cut took bytes old new

pub is_empty : (rest : List ℕ) → (length rest == 0) ≡ true → rest ≡ []
is_empty [] e = refl
is_empty (x ∷ rest) e =
    let none : length (x ∷ rest) ≡ 0 = (Decides-eqb (length (x ∷ rest)) 0).0 e in
    let bad : ⊥ = omega arith in absurd bad

pub is_some : (rest : List ℕ) → (length rest == 0) ≡ false → rest ≢ []
is_some [] e none = cc
is_some (x ∷ rest) e none = cc

-- the piece of a split is the next one
pub next_piece : (len : ℕ) (rest piece : List ℕ) → len ≡ min piece_size (length rest) → piece ≡ take len rest → piece ≡ take piece_size rest
next_piece len rest piece least e = e ∙ ap (λ n. take n rest) least ∙ take_min piece_size rest

pub next_behind : (len : ℕ) (rest behind : List ℕ) → len ≡ min piece_size (length rest) → behind ≡ drop len rest → behind ≡ drop piece_size rest
next_behind len rest behind least e = e ∙ ap (λ n. drop n rest) least ∙ drop_min piece_size rest

-- a call took the next piece
pub handed_more : {S : Type 0} (took : S → S → List ℕ → Bool → Type 0) (rest piece behind bytes : List ℕ) (old mid between : S) → rest ≢ []
    → piece ≡ take piece_size rest → behind ≡ drop piece_size rest → took mid between piece true → CompletesHanded took rest bytes mid old
    → CompletesHanded took behind bytes between old
handed_more took rest piece behind bytes old mid between some front back taken so_far new calls h =
    so_far new (suc calls)
    (some, (between, subst (λ p. took mid between p true) front taken, subst (λ (b : List ℕ). HandedBy took calls b between new) back h))

pub cut_more : {S : Type 0} (took : S → S → List ℕ → Bool → Type 0) (rest piece behind bytes : List ℕ) (old mid between : S)
    → piece ≡ take piece_size rest → behind ≡ drop piece_size rest → took mid between piece true → CompletesCut took rest bytes mid old
    → CompletesCut took behind bytes between old
cut_more took rest piece behind bytes old mid between front back taken so_far new calls h =
    so_far new (suc calls) (between, subst (λ p. took mid between p true) front taken, subst (λ (b : List ℕ). CutBehind took calls b between new) back h)

-- the call with the next piece failed
pub cut_here : {S : Type 0} (took : S → S → List ℕ → Bool → Type 0) (rest piece bytes : List ℕ) (old mid new : S) → rest ≢ []
    → piece ≡ take piece_size rest → took mid new piece false → CompletesCut took rest bytes mid old → Cut took bytes old new
cut_here took rest piece bytes old mid new some front failed so_far = so_far new 0 (some, subst (λ p. took mid new p false) front failed)
