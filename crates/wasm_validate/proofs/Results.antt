-- A body that is typed leaves its result and nothing else; and a module is valid or breaks one rule first.
use Rattle.std.proofs.Common.{◌≡◌, ◌⊎◌, inl, inr, ℕ, Bool, true, false, if◌then◌else◌, List, [], ◌∷◌, Option, Some, None, Result, Ok, Err, refl, sym, ◌∙◌}
use Rattle.wasm_ops.specs.declared.types.ValType.{ValType}
use Rattle.wasm_ops.specs.declared.modules.Module.{Module}
use Rattle.wasm_ops.specs.Sequence.{Sequence}
use Rattle.wasm_meaning.specs.declared.blocks.BlockKind.TheVariants.{BlockBody}
use Rattle.wasm_meaning.specs.declared.violations.Broken.{Broken}
use Rattle.wasm_meaning.specs.declared.violations.Violation.{Violation}
use Rattle.wasm_meaning.specs.declared.violations.Rule.TheVariants.{OperandType}
use Rattle.wasm_meaning.specs.ValidityChecks.{Check, go_on}
use Rattle.wasm_meaning.specs.Validity.{module_walk}
use Rattle.wasm_meaning.specs.TypingOperands.{Operand, Walk, start, breaks, fits, exact}
use Rattle.wasm_meaning.specs.Typing.{Context, typed, typed_body, ended, emptied}
use Rattle.wasm_validate.specs.Results.{IsJust, LeavesResult}

-- the last operand, where it is one that serves or not
one_left
    : (t : ValType) (have : Operand) (types : List Operand) (now done : Walk) (serves : Bool)
    → go_on (go_on {A = Operand × Walk} (if serves then Ok (exact (Some t) have, record now { types = types }) else breaks OperandType now) (λ pulled. Ok pulled.1)) emptied ≡ Ok done
    → (serves ≡ true) × (types ≡ [])
one_left t have [] now done true e = (refl, refl)
one_left t have (more ∷ types) now done true e = let bad : ⊥ = cc in absurd bad
one_left t have types now done false e = let bad : ⊥ = cc in absurd bad

just : (result : Option ValType) (place under : ℕ) (types : List Operand) (loose : Bool) (most : ℕ) (done : Walk)
    → ended BlockBody result (record { place = place; under = under; types = types; loose = loose; most = most }) ≡ Ok done → IsJust result types loose
just None place under [] loose most done e = tt
just None place under (have ∷ types) loose most done e = let bad : ⊥ = cc in absurd bad
just (Some t) place under [] true most done e = tt
just (Some t) place under [] false most done e = let bad : ⊥ = cc in absurd bad
just (Some t) place under (have ∷ []) loose most done e =
    (one_left t have [] (record { place = place; under = under; types = have ∷ []; loose = loose; most = most }) done (fits (Some t) have) e).0
just (Some t) place under (have ∷ more ∷ types) loose most done e =
    let left = (one_left t have (more ∷ types) (record { place = place; under = under; types = have ∷ more ∷ types; loose = loose; most = most }) done (fits (Some t) have) e).1 in
    let bad : ⊥ = cc in absurd bad

pub leaves : (cx : Context) (s : Sequence) (done : Walk) → typed_body cx s ≡ Ok done → LeavesResult cx s
leaves cx s done e = by_outcome (typed cx s start) refl e
  where
    by_outcome : (r : Result Walk Violation) → typed cx s start ≡ r → go_on r (ended BlockBody cx.result) ≡ Ok done → LeavesResult cx s
    by_outcome (Ok last) is ends = record { last = last; is_typed = is; just = just cx.result last.place last.under last.types last.loose last.most done ends }
    by_outcome (Err violation) is ends = let bad : ⊥ = cc in absurd bad

pub one_holds : (m : Module) → (module_walk m ≡ Ok tt) ⊎ ((broken : Broken) × (module_walk m ≡ Err broken))
one_holds m = by_outcome (module_walk m) refl
  where
    by_outcome : (check : Check) → module_walk m ≡ check → (module_walk m ≡ Ok tt) ⊎ ((broken : Broken) × (module_walk m ≡ Err broken))
    by_outcome (Ok passed) e = inl e
    by_outcome (Err broken) e = inr (broken, e)

pub never_both : (m : Module) (broken : Broken) → module_walk m ≡ Ok tt → module_walk m ≡ Err broken → ⊥
never_both m broken valid breaks_one = let both : Ok tt ≡ Err broken = sym valid ∙ breaks_one in cc

pub one_broken : (m : Module) (broken other : Broken) → module_walk m ≡ Err broken → module_walk m ≡ Err other → broken ≡ other
one_broken m broken other one two = cc
