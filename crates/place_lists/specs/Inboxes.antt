-- What contracts see of the inbox and of its passes.
use Rattle.std.specs.Prelude.{◌≡◌, ℕ, List, [], ◌∷◌, ◌++◌}
use Rattle.std.specs.declared.alloc.Global.{Global}
use Rattle.atomic_blocks.specs.Laid.{WebId}
use Rattle.crossbeam_queue.specs.SegTies.{SegId}

-- which inbox it is
pub record InboxView : Type 0 where
  pub queue : SegId Global

-- which inbox a pass is for, its number there, and what it has pushed and stolen, in order
pub record PassView : Type 0 where
  pub web : WebId
  pub heap : Global
  pub number : ℕ
  pub pushed : List ℕ
  pub stolen : List ℕ

abbrev pub IsPassOf : InboxView → PassView → Type 0
IsPassOf inbox pass = (pass.web ≡ inbox.queue.web) × (pass.heap ≡ inbox.queue.heap)

abbrev pub having_pushed : PassView → (place : ℕ) → PassView
having_pushed pass place = record pass { pushed = pass.pushed ++ place ∷ [] }

abbrev pub having_stolen : PassView → (place : ℕ) → PassView
having_stolen pass place = record pass { stolen = pass.stolen ++ place ∷ [] }
