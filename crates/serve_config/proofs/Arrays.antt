-- What the items of an array give, one after another.
use Rattle.std.proofs.Common.{ℕ, List, ◌++◌, drop, Result, Ok}
use Rattle.serde_json.specs.Data.{Data}
use Rattle.serde_json.specs.declared.value.Value.{Value}
use Rattle.serde_json.specs.View.{items_view}
use Rattle.serve_config.specs.declared.refusals.Refusal.{Refusal}
use Rattle.serve_config.specs.Steps.{go_on}
use Rattle.serve_config.specs.Kinds.{each_of}

-- what the items from one on give, behind those that were given
abbrev pub left_from : {A : Type 0} → (Data → Result A Refusal) → (given : List A) → (i : ℕ) → List Value → Result (List A) Refusal
left_from of_one given i vs = go_on (each_of of_one (items_view (drop i vs))) (λ rest. Ok (given ++ rest))
