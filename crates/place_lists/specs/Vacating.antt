-- What contracts see of the queue of vacant places and of its passes.
use Rattle.std.specs.Prelude.{◌≡◌, ℕ, List, [], ◌∷◌}
use Rattle.atomic_table.specs.Seated.{TableId}

-- which queue it is
pub record QueueView : Type 0 where
  pub id : TableId

-- which queue a pass is for, its number there, and the places that it has out, the latest first
pub record PassView : Type 0 where
  pub id : TableId
  pub number : ℕ
  pub out : List ℕ

abbrev pub IsPassOf : QueueView → PassView → Type 0
IsPassOf queue pass = pass.id ≡ queue.id

-- the same pass with these places out
abbrev pub with_out : PassView → List ℕ → PassView
with_out pass out = record pass { out = out }

-- the place was taken last, and not given back
abbrev pub HasLast : (place : ℕ) → List ℕ → Type 0
HasLast place [] = ⊥
HasLast place (x ∷ out) = x ≡ place
