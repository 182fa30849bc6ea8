-- What a call of the validator answers, beside what the definition says there.
use Rattle.std.specs.Prelude.{◌≡◌, Result, Ok, Err}
use Rattle.wasm_meaning.specs.declared.violations.Broken.{Broken}
use Rattle.wasm_validate.specs.declared.faults.ValidFault.{ValidFault}
use Rattle.wasm_validate.specs.declared.faults.ValidFault.TheVariants.{Rule, NoMemory}

-- memory ran out, or this is what the module breaks first
abbrev pub IsFirstBroken : {B : Type 0} → ValidFault → Result B Broken → Type 0
IsFirstBroken (Rule broken) due = due ≡ Err broken
IsFirstBroken NoMemory due = Unit {0}

-- what is due is answered, seen by a view, and so is what is broken, unless memory ran out
abbrev pub Gives : {A B : Type 0} → (A → B) → Result A ValidFault → Result B Broken → Type 0
Gives view (Ok x) due = due ≡ Ok (view x)
Gives view (Err fault) due = IsFirstBroken fault due

-- memory ran out, or just this is told to be broken
abbrev pub TellsBroken : {A : Type 0} → Result A ValidFault → Broken → Type 0
TellsBroken (Ok x) broken = ⊥
TellsBroken (Err (Rule other)) broken = other ≡ broken
TellsBroken (Err NoMemory) broken = Unit {0}

-- memory ran out, or there is an answer
abbrev pub IsAnswered : {A : Type 0} → Result A ValidFault → Type 0
IsAnswered (Ok x) = Unit {0}
IsAnswered (Err (Rule broken)) = ⊥
IsAnswered (Err NoMemory) = Unit {0}
