-- What linking answers, beside what the definition says there.
use Rattle.std.specs.Prelude.{◌≡◌, Result, Ok, Err}
use Rattle.wasm_meaning.specs.declared.links.Unlinked.{Unlinked}
use Rattle.wasm_instance.specs.declared.faults.LinkFault.{LinkFault}
use Rattle.wasm_instance.specs.declared.faults.LinkFault.TheVariants.{Refused, NoMemory}

-- memory ran out, or this is what refuses the module first
abbrev pub IsFirstRefusal : {B : Type 0} → LinkFault → Result B Unlinked → Type 0
IsFirstRefusal (Refused why) due = due ≡ Err why
IsFirstRefusal NoMemory due = Unit {0}

-- what is due is answered, and so is what refuses it, unless memory ran out
abbrev pub Links : {A : Type 0} → Result A LinkFault → Result A Unlinked → Type 0
Links (Ok x) due = due ≡ Ok x
Links (Err fault) due = IsFirstRefusal fault due

-- memory ran out, or there is an answer
abbrev pub IsAnswered : {A : Type 0} → Result A LinkFault → Type 0
IsAnswered (Ok x) = Unit {0}
IsAnswered (Err (Refused why)) = ⊥
IsAnswered (Err NoMemory) = Unit {0}

-- memory ran out, or just this is told
abbrev pub TellsRefusal : {A : Type 0} → Result A LinkFault → Unlinked → Type 0
TellsRefusal (Ok x) why = ⊥
TellsRefusal (Err (Refused other)) why = other ≡ why
TellsRefusal (Err NoMemory) why = Unit {0}
