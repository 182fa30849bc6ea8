-- The meter rule: what holds of the cell and of what all passes know, between any two atomic steps.
use Rattle.std.specs.Prelude.{◌≡◌, ◌⊎◌, ℕ, ◌≤◌, List, [], ◌∷◌, length, Option, Some, None}
use mathlib.Core.Option.{some}
use lib.ListN.{get_elem?}
use Rattle.tenant_meters.specs.Charging.{bucket_in}
use Rattle.tenant_meters.specs.Histories.{empty_bucket, behind_calls, IsLegal, calls_by, GoesOn}
use Rattle.tenant_meters.specs.declared.callers.Call.{Call}
use Rattle.tenant_meters.specs.declared.callers.Caller.{Caller}
use Rattle.tenant_meters.specs.declared.callers.Terms.{Terms}
use Rattle.tenant_meters.specs.declared.charges.Charge.{Charge}

abbrev pub caller : Option Terms → (seen mine : List Call) → Caller
caller given seen mine = record { terms = given; seen = seen; mine = mine }

-- what the maker knows before the terms are laid down
abbrev pub newcomer : Caller
newcomer = caller None [] []

-- what the pass of this number knows: it has seen a beginning of the history, and its calls are all that the history has of it
pub record Fits (given : Terms) (log : List Call) (by : ℕ) (v : Caller) : Type 0 where
  pub same : v.terms ≡ Some given
  pub seen : GoesOn v.seen log
  pub mine : calls_by by log ≡ v.mine

-- there is one legal history of calls, of live and of former passes and of no others, and the cell holds the bucket behind it
pub record Kept (given : Terms) (x : Charge) (views : List Caller) : Type 0 where
  pub log : List Call
  pub legal : IsLegal (empty_bucket given) log
  pub state : behind_calls (empty_bucket given) log ≡ bucket_in x
  pub seats : (by : ℕ) (v : Caller) → get_elem? views by ≡ some v → Fits given log by v
  pub others : (by : ℕ) → length views ≤ by → calls_by by log ≡ []

-- the rule: the maker is still alone and has laid down no terms, or they are laid down and a history is kept
abbrev pub Ruled : Charge → List Caller → Type 0
Ruled x views = (views ≡ newcomer ∷ []) ⊎ ((given : Terms) × Kept given x views)
