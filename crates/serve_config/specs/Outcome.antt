-- What a call of the reader answers, beside what the definition says there.
use Rattle.std.specs.Prelude.{◌≡◌, ℕ, Result, Ok, Err}
use Rattle.serve_config.specs.declared.refusals.Refusal.{Refusal}
use Rattle.serve_config.specs.declared.faults.ConfigFault.{ConfigFault}
use Rattle.serve_config.specs.declared.faults.ConfigFault.TheVariants.{Refused as Numbered, NoMemory as NoMemoryLeft}
use Rattle.serve_config.specs.declared.faults.Stop.{Stop}
use Rattle.serve_config.specs.declared.faults.Stop.TheVariants.{Refused, NoMemory}
use Rattle.serve_config.specs.Refusals.{number_of}

-- what is due is answered, seen by a view, and so is what is refused, unless memory ran out
abbrev pub Gives : {A B : Type 0} → (A → B) → Result A Stop → Result B Refusal → Type 0
Gives view (Ok x) due = due ≡ Ok (view x)
Gives view (Err (Refused refusal)) due = due ≡ Err refusal
Gives view (Err NoMemory) due = Unit {0}

-- the refusal of this number is due, or memory ran out
abbrev pub IsDue : {B : Type 0} → ConfigFault → Result B Refusal → Type 0
IsDue (Numbered number) due = (refusal : Refusal) × (number ≡ number_of refusal) × (due ≡ Err refusal)
IsDue NoMemoryLeft due = Unit {0}

-- what is there, seen by a view
abbrev pub seen : {A B : Type 0} → (A → B) → Result A Refusal → Result B Refusal
seen view (Ok x) = Ok (view x)
seen view (Err refusal) = Err refusal
