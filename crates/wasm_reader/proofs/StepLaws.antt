-- Steps up to the end of a window are read as the syntax has them, where each of them takes a byte.
use Rattle.std.proofs.Common.{◌≡◌, ◌⊎◌, inl, inr, ℕ, suc, zero, ◌<◌, ◌≤◌, List, [], ◌∷◌, length, Ok, refl, ap, subst, arith}
use Rattle.wasm_ops.specs.declared.faults.Fault.{Fault}
use Rattle.wasm_ops.specs.declared.faults.Refusal.{Refusal}
use Rattle.wasm_ops.specs.Input.{Input}
use Rattle.wasm_code.specs.Reading.{and_then}
use Rattle.wasm_code.proofs.Decisions.{Decides, and_then_decides, told_decides, stands_decides}
use Rattle.wasm_reader.specs.Syntax.{Syntax, ReadsSteps, steps_from, to_end}
use Rattle.wasm_reader.proofs.SyntaxLaws.{IsDecidedBy}

-- what is read takes at least a byte
pub record TakesBytes {A : Type 0} (s : Syntax A) : Type 0 where
  pub fewer : (before : Input) (x : A) (after : Input) → s.Reads before x after → length after.left < length before.left

-- At the end of the window there is no further step.

abbrev at_end : ℕ → (cut : Refusal) → Input
at_end at cut = record { at = at; left = []; cut = cut }

no_step
    : {A : Type 0} (step : A → Syntax A) (at : ℕ) (cut : Refusal) (x : A) (count : ℕ) (y : A) (after : Input) → ((z : A) → TakesBytes (step z))
    → ReadsSteps step count x (at_end at cut) y after → (y ≡ x) × (after ≡ at_end at cut)
no_step step at cut x zero y after takes reads = reads
no_step step at cut x (suc count) y after takes reads =
    let fewer = (takes x).fewer (at_end at cut) reads.0 reads.1 reads.2 in
    let bad : ⊥ = omega arith in absurd bad

stays
    : {A : Type 0} (step : A → Syntax A) (x : A) (at : ℕ) (cut : Refusal) → ((z : A) → TakesBytes (step z))
    → Decides A (Ok (x, at_end at cut)) ((to_end step x).Reads (at_end at cut)) ((to_end step x).Refuses (at_end at cut))
stays {A} step x at cut takes =
    told_decides (Ok (x, at_end at cut))
    (λ y after. (y ≡ x) × (after ≡ at_end at cut)) ((to_end step x).Reads (at_end at cut)) (λ fault. ⊥) ((to_end step x).Refuses (at_end at cut))
    (stands_decides x (at_end at cut))
    (λ y after is. (0, (is.0, is.1), ap (λ (place : Input). place.left) is.1))
    (λ y after reads. no_step step at cut x reads.0 y after takes reads.1)
    (λ fault none. absurd none)
    (λ fault refuses.
    let stands = no_step step at cut x refuses.0 refuses.1 refuses.2 takes refuses.3 in
    let left = ap (λ (place : Input). place.left) stands.1 in
    let more = refuses.6 in
    let bad : ⊥ = cc in bad)

-- Before it there is one more.

abbrev here_with : (at : ℕ) → (cut : Refusal) → (next : ℕ) → List ℕ → Input
here_with at cut next rest = record { at = at; left = next ∷ rest; cut = cut }

abbrev ReadsFirst : {A : Type 0} → (step : A → Syntax A) → (x : A) → (before : Input) → (y : A) → (after : Input) → Type 0
ReadsFirst {A} step x before y after = (z : A) × (there : Input) × (step x).Reads before z there × (to_end step z).Reads there y after

abbrev RefusesFirst : {A : Type 0} → (step : A → Syntax A) → (x : A) → (before : Input) → (fault : Fault) → Type 0
RefusesFirst {A} step x before fault =
    (step x).Refuses before fault ⊎ ((z : A) × (there : Input) × (step x).Reads before z there × (to_end step z).Refuses there fault)

first_step
    : {A : Type 0} (step : A → Syntax A) (x : A) (at : ℕ) (cut : Refusal) (next : ℕ) (more : List ℕ) (y : A) (after : Input)
    (count : ℕ) → ReadsSteps step count x (here_with at cut next more) y after → after.left ≡ [] → ReadsFirst step x (here_with at cut next more) y after
first_step step x at cut next more y after zero reads ended =
    let left = ap (λ (place : Input). place.left) reads.1 in
    let bad : ⊥ = cc in absurd bad
first_step step x at cut next more y after (suc count) reads ended = (reads.0, reads.1, reads.2, (count, reads.3, ended))

refuses_later
    : {A : Type 0} (step : A → Syntax A) (x : A) (at : ℕ) (cut : Refusal) (next : ℕ) (more : List ℕ) (fault : Fault)
    → RefusesFirst step x (here_with at cut next more) fault → (to_end step x).Refuses (here_with at cut next more) fault
refuses_later step x at cut next more fault (inl refuses) = (0, x, here_with at cut next more, (refl, refl), next, more, refl, refuses)
refuses_later step x at cut next more fault (inr refuses) =
    let behind = refuses.3 in
    (suc behind.0, behind.1, behind.2, (refuses.0, refuses.1, refuses.2, behind.3), behind.4, behind.5, behind.6, behind.7)

refuses_first
    : {A : Type 0} (step : A → Syntax A) (x : A) (before : Input) (fault : Fault)
    (count : ℕ) (y : A) (there : Input) → ReadsSteps step count x before y there → (next : ℕ) (rest : List ℕ) → there.left ≡ next ∷ rest
    → (step y).Refuses there fault → RefusesFirst step x before fault
refuses_first {A} step x before fault zero y there reads next rest left refuses =
    let P : A × Input → Type 0 = λ place. (step place.0).Refuses place.1 fault in
    let value = reads.0 in
    let place = reads.1 in
    let same : (y, there) ≡ (x, before) = cc in
    inl (subst P same refuses)
refuses_first step x before fault (suc count) y there reads next rest left refuses =
    inr (reads.0, reads.1, reads.2, (count, y, there, reads.3, next, rest, left, refuses))

-- Both.

goes
    : {A : Type 0} (step : A → Syntax A) (bound : ℕ) (x : A) (at : ℕ) (cut : Refusal) (next : ℕ) (more : List ℕ)
    → IsDecidedBy (step x) → ((z : A) (there : Input) → (step x).Reads (here_with at cut next more) z there
    → Decides A (steps_from bound step z there) ((to_end step z).Reads there) ((to_end step z).Refuses there))
    → Decides A (steps_from (suc bound) step x (here_with at cut next more))
    ((to_end step x).Reads (here_with at cut next more)) ((to_end step x).Refuses (here_with at cut next more))
goes {A} step bound x at cut next more one behind =
    let before = here_with at cut next more in
    told_decides (and_then ((step x).read before) (λ z there. steps_from bound step z there))
    (ReadsFirst step x before) ((to_end step x).Reads before) (RefusesFirst step x before) ((to_end step x).Refuses before)
    (and_then_decides ((step x).read before) (λ z there. steps_from bound step z there)
    ((step x).Reads before) ((step x).Refuses before) (λ z there. (to_end step z).Reads there) (λ z there. (to_end step z).Refuses there)
    (one.decides before) behind)
    (λ y after reads. let behind = reads.3 in (suc behind.0, (reads.0, reads.1, reads.2, behind.1), behind.2))
    (λ y after reads. first_step step x at cut next more y after reads.0 reads.1 reads.2)
    (refuses_later step x at cut next more)
    (λ fault refuses. refuses_first step x before fault refuses.0 refuses.1 refuses.2 refuses.3 refuses.4 refuses.5 refuses.6 refuses.7)

steps_decide
    : {A : Type 0} (step : A → Syntax A) (bound : ℕ) (x : A) (at : ℕ) (cut : Refusal) (left : List ℕ)
    → ((z : A) → IsDecidedBy (step z)) → ((z : A) → TakesBytes (step z)) → length left ≤ bound
    → (let before : Input = record { at = at; left = left; cut = cut } in
    Decides A (steps_from bound step x before) ((to_end step x).Reads before) ((to_end step x).Refuses before))
steps_decide step zero x at cut [] each takes enough = stays step x at cut takes
steps_decide step (suc bound) x at cut [] each takes enough = stays step x at cut takes
steps_decide step zero x at cut (next ∷ more) each takes enough = let bad : ⊥ = omega arith in absurd bad
steps_decide step (suc bound) x at cut (next ∷ more) each takes enough =
    goes step bound x at cut next more (each x) (λ z there reads.
    let fewer = (takes x).fewer (here_with at cut next more) z there reads in
    steps_decide step bound z there.at there.cut there.left each takes (omega arith))

pub to_end_decided
    : {A : Type 0} {step : A → Syntax A} (x : A) → ((z : A) → IsDecidedBy (step z)) → ((z : A) → TakesBytes (step z)) → IsDecidedBy (to_end step x)
to_end_decided {A} {step} x each takes =
    record { decides = λ before. steps_decide step (length before.left) x before.at before.cut before.left each takes (omega arith) }
