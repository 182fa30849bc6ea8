-- How a pass stands between its calls: the slot of the place that it holds is out with it, and empty.
use Rattle.std.specs.Prelude.{◌≡◌, ℕ, List, [], ◌∷◌, Option, Some, None}
use Rattle.job_board.specs.Words.{IsResting}
use Rattle.job_board.specs.declared.holders.Hold.{Hold}

abbrev pub IsSettled : {J : Type 0} → Option Hold → (slots : List (ℕ × Option J)) → Type 0
IsSettled None slots = slots ≡ []
IsSettled (Some h) slots = (slots ≡ (h.place, None) ∷ []) × IsResting h.found.state
