-- One turn of the loop over sections.
use Rattle.std.proofs.Common.{◌≡◌, ℕ, suc, zero, ◌<◌, ◌≤◌, List, [], ◌∷◌, length, Ok, Err, refl, ap, sym, ◌∙◌, arith}
use Rattle.wasm_ops.specs.declared.faults.Fault.{Fault}
use Rattle.wasm_ops.specs.Input.{Input}
use Rattle.wasm_code.specs.Reading.{Read, and_then}
use Rattle.wasm_code.specs.declared.faults.CodeFault.{CodeFault}
use Rattle.wasm_code.specs.declared.faults.CodeFault.TheVariants.{Bytes, NoMemory}
use Rattle.wasm_code.specs.Faults.{IsFaultOf}
use Rattle.wasm_reader.specs.Syntax.{Syntax, goes_on, steps_from}

-- so many steps from here are enough, and they are those of the whole
pub record StepsLeft {A : Type 0} (step : A → Syntax A) (x : A) (here : Input) (whole : Read A) : Type 0 where
  pub bound : ℕ
  pub enough : length here.left ≤ bound
  pub same : steps_from bound step x here ≡ whole

pub all_left : {A : Type 0} (step : A → Syntax A) (x : A) (here : Input) → StepsLeft step x here (steps_from (length here.left) step x here)
all_left step x here = record { bound = length here.left; enough = omega arith; same = refl }

on_left : {A : Type 0} (left : List ℕ) (x : A) (here : Input) (read : Read A) → (left ≡ [] → ⊥) → goes_on left x here read ≡ read
on_left [] x here read some = absurd (some refl)
on_left (next ∷ rest) x here read some = refl

at_left : {A : Type 0} (left : List ℕ) (x : A) (here : Input) (read : Read A) → left ≡ [] → goes_on left x here read ≡ Ok (x, here)
at_left [] x here read none = refl
at_left (next ∷ rest) x here read none = let bad : ⊥ = cc in absurd bad

none_left : (left : List ℕ) → length left ≤ 0 → left ≡ []
none_left [] few = refl
none_left (next ∷ rest) few = let bad : ⊥ = omega arith in absurd bad

step_goes
    : {A : Type 0} (step : A → Syntax A) (x : A) (here : Input) (y : A) (there : Input) (whole : Read A) (bound : ℕ)
    → length here.left ≤ bound → steps_from bound step x here ≡ whole → (here.left ≡ [] → ⊥) → (step x).read here ≡ Ok (y, there)
    → length there.left < length here.left → StepsLeft step y there whole
step_goes step x here y there whole zero enough same some goes fewer = absurd (some (none_left here.left enough))
step_goes {A} step x here y there whole (suc bound) enough same some goes fewer =
    let next : A → Input → Read A = λ z place. steps_from bound step z place in
    let one = ap (λ (r : Read A). and_then r next) goes in
    let more = on_left here.left x here (and_then ((step x).read here) next) some in
    record { bound = bound; enough = omega arith; same = sym one ∙ sym more ∙ same }

pub section_goes
    : {A : Type 0} (step : A → Syntax A) (x : A) (here : Input) (y : A) (there : Input) (whole : Read A)
    → StepsLeft step x here whole → (here.left ≡ [] → ⊥) → (step x).read here ≡ Ok (y, there) → length there.left < length here.left
    → StepsLeft step y there whole
section_goes step x here y there whole left some goes fewer = step_goes step x here y there whole left.bound left.enough left.same some goes fewer

step_fails
    : {A : Type 0} (step : A → Syntax A) (x : A) (here : Input) (whole : Read A) (fault : Fault) (bound : ℕ)
    → length here.left ≤ bound → steps_from bound step x here ≡ whole → (here.left ≡ [] → ⊥) → (step x).read here ≡ Err fault → whole ≡ Err fault
step_fails step x here whole fault zero enough same some fails = absurd (some (none_left here.left enough))
step_fails {A} step x here whole fault (suc bound) enough same some fails =
    let next : A → Input → Read A = λ z place. steps_from bound step z place in
    let one = ap (λ (r : Read A). and_then r next) fails in
    let more = on_left here.left x here (and_then ((step x).read here) next) some in
    sym same ∙ more ∙ one

pub section_refused
    : {A : Type 0} (step : A → Syntax A) (x : A) (here : Input) (whole : Read A) (fault : CodeFault)
    → StepsLeft step x here whole → (here.left ≡ [] → ⊥) → IsFaultOf fault ((step x).read here) → IsFaultOf fault whole
section_refused step x here whole (Bytes fault) left some fails = step_fails step x here whole fault left.bound left.enough left.same some fails
section_refused step x here whole NoMemory left some fails = tt

step_ends : {A : Type 0} (step : A → Syntax A) (x : A) (here : Input) (whole : Read A) (bound : ℕ) → steps_from bound step x here ≡ whole → here.left ≡ [] → whole ≡ Ok (x, here)
step_ends step x here whole zero same none = sym same
step_ends {A} step x here whole (suc bound) same none =
    let next : A → Input → Read A = λ z place. steps_from bound step z place in
    sym same ∙ at_left here.left x here (and_then ((step x).read here) next) none

pub sections_end
    : {A : Type 0} (step : A → Syntax A) (x : A) (here : Input) (whole : Read A) → StepsLeft step x here whole → here.left ≡ [] → whole ≡ Ok (x, here)
sections_end step x here whole left none = step_ends step x here whole left.bound left.same none
