-- What a call answers, beside what typing says there.
use Rattle.std.specs.Prelude.{◌≡◌, Result, Ok, Err}
use Rattle.wasm_meaning.specs.declared.violations.Violation.{Violation}
use Rattle.wasm_typing.specs.declared.faults.BodyFault.{BodyFault}
use Rattle.wasm_typing.specs.declared.faults.BodyFault.TheVariants.{Breaks, NoMemory}

-- memory ran out, or this is what the body breaks first
abbrev pub IsBreach : {B : Type 0} → BodyFault → Result B Violation → Type 0
IsBreach (Breaks violation) due = due ≡ Err violation
IsBreach NoMemory due = Unit {0}

-- what is due is answered, seen by a view, and so is a violation, unless memory ran out
abbrev pub Follows : {A B : Type 0} → (A → B) → Result A BodyFault → Result B Violation → Type 0
Follows view (Ok x) due = due ≡ Ok (view x)
Follows view (Err fault) due = IsBreach fault due

-- the same of a call that takes no memory
abbrev pub Tells : {A B E : Type 0} → (A → B) → Result A E → Result B E → Type 0
Tells view (Ok x) due = due ≡ Ok (view x)
Tells view (Err e) due = due ≡ Err e
