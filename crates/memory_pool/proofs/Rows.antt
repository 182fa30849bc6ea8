-- Tries of one slot after another.
use Rattle.std.proofs.Common.{◌≡◌, ℕ, zero, suc, ◌+◌, ◌<◌, ◌≢◌, ◌⊎◌, inl, inr, Bool, List, [], ◌∷◌, ◌++◌, length, slice_get, sym, refl, ap, ◌∙◌, subst, ⊎_elim, arith, append_assoc, length-append, Option, Some, None}
use Rattle.std.proofs.lemmas.List.{append-nil}
use Rattle.memory_pool.specs.Moves.{try_of}
use Rattle.memory_pool.specs.Passing.{PassView, after, Misses}
use Rattle.memory_pool.specs.declared.movers.Found.{Found}
use Rattle.memory_pool.specs.declared.movers.Try.{Try}

read_none : (k : ℕ) (t : Try) → slice_get [] k ≡ Some t → ⊥
read_none k t e = cc

same_try : (x t : Try) → Some x ≡ Some t → x ≡ t
same_try x t e = cc

read_last : (seen : List Try) (x : Try) (k : ℕ) (t : Try) → slice_get (seen ++ x ∷ []) k ≡ Some t → (slice_get seen k ≡ Some t) ⊎ ((k ≡ length seen) × (x ≡ t))
read_last [] x zero t e = inr (refl, same_try x t e)
read_last [] x (suc k) t e = absurd (read_none k t e)
read_last (y ∷ ys) x zero t e = inl e
read_last (y ∷ ys) x (suc k) t e = ⊎_elim (λ h. inl h) (λ h. inr (ap suc h.0, h.1)) (read_last ys x k t e)

more_misses : (giving : Bool) (wanted : Found) (seen : List Try) (f : Found) → Misses giving wanted seen → f ≢ wanted → Misses giving wanted (seen ++ try_of giving (length seen) f ∷ [])
more_misses giving wanted seen f m miss = record {
  each = λ k t e.
      ⊎_elim (λ old. m.each k t old)
      (λ h. (ap (λ (x : Try). x.giving) (sym h.1), ap (λ (x : Try). x.slot) (sym h.1) ∙ sym h.0, (λ w. miss (ap (λ (x : Try). x.found) h.1 ∙ w))))
      (read_last seen (try_of giving (length seen) f) k t e);
}

after_none : (p : PassView) → p ≡ after p [] 0 0
after_none p =
    let tries = sym (append-nil p.tries) in
    let taken : p.taken ≡ p.taken + 0 = omega arith in
    let given : p.given ≡ p.given + 0 = omega arith in
    λ i. record { id = p.id; pages = p.pages; parts = p.parts; tries = tries i; taken = taken i; given = given i }

after_twice : (p : PassView) (seen more : List Try) (t g : ℕ) → after (after p seen 0 0) more t g ≡ after p (seen ++ more) t g
after_twice p seen more t g =
    let tries = append_assoc p.tries seen more in
    let taken : p.taken + 0 + t ≡ p.taken + t = omega arith in
    let given : p.given + 0 + g ≡ p.given + g = omega arith in
    λ i. record { id = p.id; pages = p.pages; parts = p.parts; tries = tries i; taken = taken i; given = given i }

-- how a pass stands behind so many tries that moved nothing
abbrev pub Tried : (giving : Bool) (wanted : Found) (old now : PassView) (count : ℕ) → Type 0
Tried giving wanted old now count = (seen : List Try) × (length seen ≡ count) × Misses giving wanted seen × (now ≡ after old seen 0 0)

pub tried_none : (giving : Bool) (wanted : Found) (old : PassView) → Tried giving wanted old old 0
tried_none giving wanted old = ([], refl, record { each = λ k t e. absurd (read_none k t e) }, after_none old)

pub tried_more : (giving : Bool) (wanted : Found) (old now next : PassView) (count : ℕ) (f : Found) → Tried giving wanted old now count → f ≢ wanted → next ≡ after now (try_of giving count f ∷ []) 0 0 → Tried giving wanted old next (count + 1)
tried_more giving wanted old now next count f t miss is =
    let seen : List Try = t.0 in
    let long : count ≡ length seen = sym t.1 in
    let step : next ≡ after (after old seen 0 0) (try_of giving (length seen) f ∷ []) 0 0 =
    is ∙ (ap (λ (p : PassView). after p (try_of giving count f ∷ []) 0 0) t.3 ∙ ap (λ (k : ℕ). after (after old seen 0 0) (try_of giving k f ∷ []) 0 0) long) in (
      seen ++ try_of giving (length seen) f ∷ [],
      omega (arith, length-append seen (try_of giving (length seen) f ∷ []), t.1),
      more_misses giving wanted seen f t.2 miss,
      step ∙ after_twice old seen (try_of giving (length seen) f ∷ []) 0 0,
    )

pub tried_hit : (giving : Bool) (wanted : Found) (old now next : PassView) (count slots t g : ℕ) → Tried giving wanted old now count → next ≡ after now (try_of giving count wanted ∷ []) t g → count < slots
    → (seen : List Try) × (length seen < slots) × Misses giving wanted seen × (next ≡ after old (seen ++ try_of giving (length seen) wanted ∷ []) t g)
tried_hit giving wanted old now next count slots t g tried is inside =
    let seen : List Try = tried.0 in
    let long : count ≡ length seen = sym tried.1 in
    let step : next ≡ after (after old seen 0 0) (try_of giving (length seen) wanted ∷ []) t g =
    is ∙ (ap (λ (p : PassView). after p (try_of giving count wanted ∷ []) t g) tried.3 ∙ ap (λ (k : ℕ). after (after old seen 0 0) (try_of giving k wanted ∷ []) t g) long) in
    (seen, omega (arith, tried.1, inside), tried.2, step ∙ after_twice old seen (try_of giving (length seen) wanted ∷ []) t g)
