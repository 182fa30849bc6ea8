-- Each key is a twin of the one before it, or not.
use Rattle.std.proofs.Common.{◌≡◌, ℕ, ◌+◌, true, false, [], Option, Some, min, get_or, unwrap_or, ap, sym, ◌∙◌, subst, arith}
use Rattle.std.proofs.lemmas.List.{get_or_default}
use Rattle.wasm_validate.specs.Names.{IsLeastTwinBelow}
use Rattle.wasm_validate.specs.declared.exports.Key.{Key}
use Rattle.wasm_validate.proofs.Least.{beside, least_of_one, least_stays, least_changes, least_of_all}
use Rattle.wasm_validate.proofs.exports.least_twin.Goals as goal
use Rattle.wasm_validate.proofs.exports.least_twin.Goals.{then-are_twins, else-are_twins}

pub loop-behind-init : goal.loop-behind-init
loop-behind-init c = record { least = least_of_one c.args.keys.now; most = λ more. let never : ⊥ = omega arith in absurd never }

pub loop-behind-preserved : goal.loop-behind-preserved
loop-behind-preserved c =
    let keys = c.args.keys.now in
    let n = c.loop-behind.behind in
    let old = c.loop-behind.invariant.least in
    let some = c.loop-behind.auto.behind in
    let lt = c.loop-behind-test.true in
    let none : Key = record { number = 0; name = record { ref_ptr = (0, 0); now = [] }; place = 0 } in
    record {
      least = elim c.if-are_twins.branch [
        | then-are_twins w ↦
            let place = (get_or keys n none).place in
            let twins = beside keys n none true some lt (sym c.are_twins.ensures ∙ w.if-are_twins.true) in
            let is : c.if-are_twins.least ≡ Some (min (unwrap_or c.loop-behind.least place) place) =
            w.least-is ∙ (ap (λ (it : ℕ). Some it) w.min.ensures ∙ ap (λ (it : ℕ). Some (min it place)) w.unwrap_or.ensures) in
            subst (λ (least : Option ℕ). IsLeastTwinBelow (n + 1) keys least) (sym is)
            (least_changes n keys c.loop-behind.least place old some (λ d. (twins d, ap (λ (it : Key). it.place) (get_or_default keys n d none lt))))
        | else-are_twins w ↦
            let apart = beside keys n none false some lt (sym c.are_twins.ensures ∙ w.if-are_twins.false) in
            subst (λ (least : Option ℕ). IsLeastTwinBelow (n + 1) keys least) (sym w.least-is) (least_stays n keys c.loop-behind.least old some apart)
      ];
      most = λ more. omega arith;
    }

pub returns : goal.returns
returns c = least_of_all c.loop-behind.behind c.args.keys.now c.loop-behind.least c.loop-behind.invariant.least c.loop-behind-test.false c.loop-behind.invariant.most
