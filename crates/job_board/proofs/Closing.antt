-- Jobs that are taken out of the slots of a closed board, one after another.
use Rattle.std.proofs.Common.{◌≡◌, ℕ, zero, suc, ◌+◌, ◌-◌, ◌<◌, ◌≤◌, ◌≢◌, Bool, true, false, get_or, set, get_or-set_same, get_or-set_other, List, [], ◌∷◌, ◌++◌, map, length, drop, slice_get, sym, refl, ap, ◌∙◌, subst, arith, append_assoc, length-append, length-drop, Option, Some, None, IsSome}
use Rattle.std.proofs.lemmas.List.{length-map, append-nil}
use mathlib.Core.Logic.{dite}
use native.Mathlib.Decide.{ℕ_discrete}
use mathlib.Core.Option.{some, some-injective, some-ne-none}
use lib.ListN.{get_elem?}
use Rattle.atomic_table.proofs.Lists.{drop_at}
use Rattle.job_board.proofs.Opening.{Lies}
use Rattle.job_board.specs.Ends.{IsLeft}
use Rattle.job_board.specs.declared.holders.Note.{Note}
use Rattle.job_board.specs.declared.holders.Terms.{Terms}
use Rattle.job_board.specs.declared.words.Kind.{Kind}

drop_all : {A : Type 0} (xs : List A) (n : ℕ) → length xs ≤ n → drop n xs ≡ []
drop_all [] zero short = refl
drop_all [] (suc n) short = refl
drop_all (x ∷ xs) zero short = absurd (omega arith)
drop_all (x ∷ xs) (suc n) short = drop_all xs n (omega arith)

-- what is read at a place lies within the list
pub read_inside : {A : Type 0} (xs : List A) (i : ℕ) (x : A) → get_elem? xs i ≡ some x → i < length xs
read_inside [] i x e = absurd (some-ne-none x (sym e))
read_inside (y ∷ ys) zero x e = omega arith
read_inside (y ∷ ys) (suc i) x e = omega (arith, read_inside ys i x e)

-- slots that are filled from a place on, and empty below it, where the one at the place is emptied
pub still_filled : (filled : List Bool) (i n : ℕ) → ((k : ℕ) → i ≤ k → k < n → get_or filled k false ≡ true) → (k : ℕ) → i + 1 ≤ k → k < n → get_or (set filled i false) k false ≡ true
still_filled filled i n full k low high = get_or-set_other filled i k false false (λ e. omega arith) ∙ full k (omega arith) high

pub still_empty : (filled : List Bool) (i : ℕ) → i < length filled → ((k : ℕ) → k < i → get_or filled k false ≡ false) → (k : ℕ) → k < i + 1 → get_or (set filled i false) k false ≡ false
still_empty filled i inside empty k low =
    dite (ℕ_discrete k i)
    (λ e. ap (λ (n : ℕ). get_or (set filled i false) n false) e ∙ get_or-set_same filled i false false inside)
    (λ ne. get_or-set_other filled i k false false ne ∙ empty k (omega arith))

module _ {J : Type 0} where
  read_job : (jobs : List J) (place : ℕ) (job : J) → slice_get jobs place ≡ Some job → get_elem? (map Some jobs) place ≡ some (Some job)
  read_job [] place job e = cc
  read_job (x ∷ xs) zero job e = ap some e
  read_job (x ∷ xs) (suc place) job e = read_job xs place job e

  same_job : (a b : J) → Some a ≡ Some b → a ≡ b
  same_job a b e = cc

  pub gathered : (jobs : List J) (items : List (Option J)) (i : ℕ) → map Some jobs ++ drop i items ≡ items → i ≤ length items → length jobs ≡ i
  gathered jobs items i e inside =
      omega (arith, ap length e, length-append (map Some jobs) (drop i items), length-map jobs Some, length-drop i items, inside)

  pub gathers : (jobs jobs' : List J) (items : List (Option J)) (i : ℕ) (x : Option J) → map Some jobs ++ drop i items ≡ items → get_elem? items i ≡ some x → map Some jobs' ≡ map Some jobs ++ x ∷ [] → map Some jobs' ++ drop (i + 1) items ≡ items
  gathers jobs jobs' items i x e there pushed =
      let next : i + 1 ≡ suc i = omega arith in
      let rest : drop i items ≡ x ∷ drop (suc i) items = drop_at items i x there in
      ap (λ (n : ℕ). map Some jobs' ++ drop n items) next
      ∙ (ap (λ (l : List (Option J)). l ++ drop (suc i) items) pushed ∙ (append_assoc (map Some jobs) (x ∷ []) (drop (suc i) items) ∙ (ap (λ (l : List (Option J)). map Some jobs ++ l) (sym rest) ∙ e)))

  pub whole : (jobs : List J) (items : List (Option J)) (n : ℕ) → map Some jobs ++ drop n items ≡ items → length items ≤ n → map Some jobs ≡ items
  whole jobs items n e short = sym (append-nil (map Some jobs)) ∙ (ap (λ (l : List (Option J)). map Some jobs ++ l) (sym (drop_all items n short)) ∙ e)

module _ {J : Type 0} (place_of : J → ℕ) (kind_of : J → Kind) (turns_of : J → ℕ) (belongs : ℕ → J → J → Type 0) where
  -- a slot that is taken has a job
  pub lies_some : (given : Terms J) (notes : List Note) (items : List (Option J)) (i : ℕ) (x : Option J) → Lies place_of kind_of turns_of belongs given notes items i → get_elem? items i ≡ some x → IsSome x
  lies_some given notes items i x lies there =
      subst IsSome (some-injective (Some lies.0) x (sym lies.1 ∙ there)) refl

  pub lies_as : (given given' : Terms J) (notes notes' : List Note) (slots : List (Option J)) (place : ℕ) → given ≡ given' → notes ≡ notes' → Lies place_of kind_of turns_of belongs given notes slots place
      → Lies place_of kind_of turns_of belongs given' notes' slots place
  lies_as given given' notes notes' slots place g n lies =
      subst (λ (t : Terms J). Lies place_of kind_of turns_of belongs t notes' slots place) g (subst (λ (x : List Note). Lies place_of kind_of turns_of belongs given x slots place) n lies)

  pub lies_left : (given : Terms J) (notes : List Note) (items : List (Option J)) (jobs : List J) → map Some jobs ≡ items → ((i : ℕ) → i < length items → Lies place_of kind_of turns_of belongs given notes items i)
      → (place : ℕ) (job : J) → slice_get jobs place ≡ Some job → IsLeft place_of kind_of turns_of belongs given notes place job
  lies_left given notes items jobs e lies place job is =
      let there : get_elem? items place ≡ some (Some job) = ap (λ (l : List (Option J)). get_elem? l place) (sym e) ∙ read_job jobs place job is in
      let l = lies place (read_inside items place (Some job) there) in
      subst (IsLeft place_of kind_of turns_of belongs given notes place) (same_job l.0 job (some-injective (Some l.0) (Some job) (sym l.1 ∙ there))) l.2
