-- What notes tell of places: more notes tell no less, and a note that is past all others tells what it says.
use Rattle.std.proofs.Common.{◌≡◌, ℕ, zero, suc, ◌+◌, ◌-◌, ◌*◌, ◌==◌, ◌<◌, ◌≤◌, Bool, true, false, nat_le, max, List, [], ◌∷◌, ◌++◌, if◌then◌else◌, refl, sym, ap, subst, ◌∙◌, arith, eqb-true, eq-eqb, append_assoc}
use Rattle.std.proofs.lemmas.List.Elements.{All-head, All-tail}
use Rattle.std.specs.List.{All}
use Rattle.job_board.specs.Boarding.{note, RisesPast}
use Rattle.job_board.specs.Words.{rank, Rises, word}
use Rattle.job_board.specs.declared.holders.Note.{Note}
use Rattle.job_board.specs.declared.words.State.TheVariants as state
use Rattle.job_board.specs.declared.words.Word.{Word}
use Rattle.worker_desks.proofs.Places.{sum-le, sum-lt, sum-most, sum-below}
use Rattle.worker_desks.specs.Noted.{greatest, turns_in, rank_in, sum_over, most_turns, turns_left_at, turns_left, reached_at, begun_places, answered_places}

pub greatest-append : (of : Word → ℕ) (place : ℕ) (xs ys : List Note) → greatest of place (xs ++ ys) ≡ max (greatest of place xs) (greatest of place ys)
greatest-append of place [] ys = omega arith
greatest-append of place (n ∷ xs) ys = omega (arith, greatest-append of place xs ys)

-- what one note tells
if-here : (b : Bool) (x : ℕ) → b ≡ true → (if b then x else 0) ≡ x
if-here true x e = refl
if-here false x e = let bad : ⊥ = cc in absurd bad

if-most : (b : Bool) (x m : ℕ) → (b ≡ true → x ≤ m) → (if b then x else 0) ≤ m
if-most true x m h = h refl
if-most false x m h = omega arith

if-grows : (b : Bool) (x y : ℕ) → x ≤ y → (if b then x else 0) ≤ (if b then y else 0)
if-grows true x y up = up
if-grows false x y up = omega arith

pub greatest-here : (of : Word → ℕ) (place : ℕ) (xs : List Note) (w : Word) → of w ≤ greatest of place (xs ++ note place w ∷ [])
greatest-here of place xs w =
    omega (arith, greatest-append of place xs (note place w ∷ []), if-here (place == place) (of w) (eq-eqb place place refl))

-- nothing that was noted is past a word that rises past all
pub greatest-past : (of : Word → ℕ) → ((x y : Word) → Rises x y → of x ≤ of y) → (place : ℕ) (xs : List Note) (w : Word) → RisesPast xs place w → greatest of place xs ≤ of w
greatest-past of grows place [] w past = omega arith
greatest-past of grows place (n ∷ xs) w past =
    let P : Note → Type 0 = λ (m : Note). m.place ≡ place → Rises m.word w in
    let first : (if n.place == place then of n.word else 0) ≤ of w = if-most (n.place == place) (of n.word) (of w) (λ e. grows n.word w (All-head P n xs past (eqb-true n.place place e))) in
    omega (arith, first, greatest-past of grows place xs w (All-tail P n xs past))

turns_grow : (x y : Word) → Rises x y → turns_in x ≤ turns_in y
turns_grow x y up = up.0

ranks_grow : (x y : Word) → Rises x y → rank_in x ≤ rank_in y
ranks_grow x y up = up.1

pub turns-past : (place : ℕ) (xs : List Note) (w : Word) → RisesPast xs place w → greatest turns_in place xs ≤ w.turns
turns-past = greatest-past turns_in turns_grow

pub ranks-past : (place : ℕ) (xs : List Note) (w : Word) → RisesPast xs place w → greatest rank_in place xs ≤ rank w.state
ranks-past = greatest-past rank_in ranks_grow

-- One list of notes tells no more than another, of any place.
pub record TellsLess (xs ys : List Note) : Type 0 where
  pub turns : (p : ℕ) → greatest turns_in p xs ≤ greatest turns_in p ys
  pub ranks : (p : ℕ) → greatest rank_in p xs ≤ greatest rank_in p ys

pub tells-same : (xs : List Note) → TellsLess xs xs
tells-same xs = record { turns = λ p. omega arith; ranks = λ p. omega arith }

pub tells-more : (xs more : List Note) → TellsLess xs (xs ++ more)
tells-more xs more = record { turns = λ p. omega (arith, greatest-append turns_in p xs more); ranks = λ p. omega (arith, greatest-append rank_in p xs more) }

pub tells-on : (xs ys zs : List Note) → TellsLess xs ys → TellsLess ys zs → TellsLess xs zs
tells-on xs ys zs a b = record { turns = λ p. omega (arith, a.turns p, b.turns p); ranks = λ p. omega (arith, a.ranks p, b.ranks p) }

-- of two notes behind the same ones the second may come after the first
pub tells-rising : (xs : List Note) (place : ℕ) (v w : Word) → Rises v w → TellsLess (xs ++ note place v ∷ []) (xs ++ note place w ∷ [])
tells-rising xs place v w up = record {
  turns = λ p. omega (arith, greatest-append turns_in p xs (note place v ∷ []), greatest-append turns_in p xs (note place w ∷ []), if-grows (place == p) v.turns w.turns up.0);
  ranks = λ p. omega (arith, greatest-append rank_in p xs (note place v ∷ []), greatest-append rank_in p xs (note place w ∷ []), if-grows (place == p) (rank v.state) (rank w.state) up.1);
}

-- The sums.

test-grows : (far a b : ℕ) → a ≤ b → (if nat_le far a then 1 else 0) ≤ (if nat_le far b then 1 else 0)
test-grows far a b up = grind arith

pub left-falls : (places : ℕ) (xs ys : List Note) → TellsLess xs ys → turns_left places ys ≤ turns_left places xs
left-falls places xs ys less = sum-le (turns_left_at ys) (turns_left_at xs) places (λ p below. omega (arith, less.turns p))

pub begun-grows : (places : ℕ) (xs ys : List Note) → TellsLess xs ys → begun_places places xs ≤ begun_places places ys
begun-grows places xs ys less = sum-le (reached_at 1 xs) (reached_at 1 ys) places (λ p below. test-grows 1 _ _ (less.ranks p))

pub answered-grows : (places : ℕ) (xs ys : List Note) → TellsLess xs ys → answered_places places xs ≤ answered_places places ys
answered-grows places xs ys less = sum-le (reached_at 2 xs) (reached_at 2 ys) places (λ p below. test-grows 2 _ _ (less.ranks p))

-- a test that fails and then holds
test-turns : (far a b : ℕ) → a < far → far ≤ b → (if nat_le far a then 1 else 0) < (if nat_le far b then 1 else 0)
test-turns far a b low high = grind arith

test-most : (far a : ℕ) → (if nat_le far a then 1 else 0) ≤ 1
test-most far a = grind arith

test-none : (far a : ℕ) → a < far → (if nat_le far a then 1 else 0) < 1
test-none far a low = grind arith

-- Claims and puts.

-- behind a claim fewer turns are left
pub got-less : (places place : ℕ) (xs : List Note) (seen : Word) → place < places → RisesPast xs place seen → seen.turns ≤ 1099511627776
    → turns_left places (xs ++ note place (word (seen.turns + 1) state.Suspended) ∷ []) < turns_left places xs
got-less places place xs seen inside past few =
    let w : Word = word (seen.turns + 1) state.Suspended in
    let more = tells-more xs (note place w ∷ []) in
    let below : greatest turns_in place xs ≤ seen.turns = turns-past place xs seen past in
    let above : seen.turns + 1 ≤ greatest turns_in place (xs ++ note place w ∷ []) = greatest-here turns_in place xs w in
    sum-lt (turns_left_at (xs ++ note place w ∷ [])) (turns_left_at xs) places place inside (omega (arith, below, above, few)) (λ p low. omega (arith, more.turns p))

-- behind the claim of a place that has not begun, one more has
pub begun-more : (places place : ℕ) (xs : List Note) (seen : Word) → place < places → RisesPast xs place seen → rank seen.state ≡ 0
    → begun_places places xs < begun_places places (xs ++ note place (word (seen.turns + 1) state.Suspended) ∷ [])
begun-more places place xs seen inside past low =
    let w : Word = word (seen.turns + 1) state.Suspended in
    let more = tells-more xs (note place w ∷ []) in
    let below : greatest rank_in place xs ≤ 0 = omega (arith, ranks-past place xs seen past, low) in
    let above : 1 ≤ greatest rank_in place (xs ++ note place w ∷ []) = greatest-here rank_in place xs w in
    sum-lt (reached_at 1 xs) (reached_at 1 (xs ++ note place w ∷ [])) places place inside (test-turns 1 _ _ (omega (arith, below)) above) (λ p under. test-grows 1 _ _ (more.ranks p))

-- a place that is held was not noted to be over
unanswered : (place : ℕ) (xs : List Note) (found : Word) (turns : ℕ) → RisesPast xs place found → rank found.state ≤ 1 → greatest rank_in place (xs ++ note place (word turns state.Suspended) ∷ []) < 2
unanswered place xs found turns past low =
    let w : Word = word turns state.Suspended in
    omega (arith, greatest-append rank_in place xs (note place w ∷ []), if-most (place == place) 1 1 (λ e. omega arith), ranks-past place xs found past, low)

pub answered-few : (places place : ℕ) (xs : List Note) (found : Word) (turns : ℕ) → place < places → RisesPast xs place found → rank found.state ≤ 1
    → answered_places places (xs ++ note place (word turns state.Suspended) ∷ []) < places
answered-few places place xs found turns inside past low =
    let ys : List Note = xs ++ note place (word turns state.Suspended) ∷ [] in
    omega (arith, sum-below (reached_at 2 ys) 1 places place inside (test-none 2 _ (unanswered place xs found turns past low)) (λ p. test-most 2 _))

-- behind the put of an answer one more is over
pub answered-more : (places place : ℕ) (xs : List Note) (found : Word) (turns : ℕ) → place < places → RisesPast xs place found → rank found.state ≤ 1
    → answered_places places (xs ++ note place (word turns state.Suspended) ∷ []) < answered_places places (xs ++ note place (word turns state.Answered) ∷ [])
answered-more places place xs found turns inside past low =
    let v : Word = word turns state.Suspended in
    let w : Word = word turns state.Answered in
    let more = tells-rising xs place v w (omega arith, omega arith) in
    let above : 2 ≤ greatest rank_in place (xs ++ note place w ∷ []) = greatest-here rank_in place xs w in
    sum-lt (reached_at 2 (xs ++ note place v ∷ [])) (reached_at 2 (xs ++ note place w ∷ [])) places place inside (test-turns 2 _ _ (unanswered place xs found turns past low) above) (λ p under. test-grows 2 _ _ (more.ranks p))

pub begun-few : (places : ℕ) (xs : List Note) → begun_places places xs ≤ places
begun-few places xs = omega (arith, sum-most (reached_at 1 xs) 1 places (λ p. test-most 1 _))

pub left-most : (places : ℕ) (xs : List Note) → turns_left places xs ≤ places * most_turns
left-most places xs = sum-most (turns_left_at xs) most_turns places (λ p. omega arith)
