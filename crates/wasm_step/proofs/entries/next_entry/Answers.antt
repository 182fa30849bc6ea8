use Rattle.std.proofs.Common.{ℕ, ap, sym, subst, ◌∙◌, ◌-◌, slice_get, length}
use Rattle.wasm_store.specs.View.{View}
use Rattle.wasm_states.specs.Holding.{IsState}
use Rattle.wasm_step.specs.Arms.{before}
use Rattle.wasm_step.proofs.NextLaws.{rests_over, rests_before}
use Rattle.wasm_step.proofs.EntryArms.{end_arm, ends_as}
use Rattle.wasm_step.proofs.entries.next_entry.Goals as goal

pub returns-in-None-clause-ends : goal.returns-in-None-clause-ends
returns-in-None-clause-ends c = let ends = end_arm c.args.program.now c.args.vessel.now c.requires.rests (ap (λ (x : View). slice_get x.entries 0) (sym (c.go_to.ensures ∙ ap (λ (k : ℕ). record c.args.vessel.now { place = k - 1 }) c.place-place.ensures)) ∙ sym c.next_entry.ensures ∙ c.in-None.is) in (c.go_to.ensures ∙ ap (λ (k : ℕ). record c.args.vessel.now { place = k - 1 }) c.place-place.ensures, ends.0, ends.1)

pub enter_from_outside-requires : goal.enter_from_outside-requires
enter_from_outside-requires c = record { state = subst (λ (x : View). IsState c.args.program.now x) (sym (c.go_to.ensures ∙ ap (λ (k : ℕ). record c.args.vessel.now { place = k - 1 }) c.place-place.ensures)) c.requires.at.state; rests = ap (λ (x : View). length x.frames) (c.go_to.ensures ∙ ap (λ (k : ℕ). record c.args.vessel.now { place = k - 1 }) c.place-place.ensures) ∙ c.requires.rests; next = sym c.next_entry.ensures ∙ c.in-Some.is }

pub returns-in-Some-clause-ends : goal.returns-in-Some-clause-ends
returns-in-Some-clause-ends c = ends_as c.args.program.now c.go_to.new.self (before c.args.vessel.now) c.enter_from_outside.new.vessel c.enter_from_outside.result (c.go_to.ensures ∙ ap (λ (k : ℕ). record c.args.vessel.now { place = k - 1 }) c.place-place.ensures) c.enter_from_outside.ensures.ends

pub returns-in-None-clause-next : goal.returns-in-None-clause-next
returns-in-None-clause-next c = rests_over c.args.vessel.now.entries _ (ap (λ (x : View). slice_get x.entries 0) (sym (c.go_to.ensures ∙ ap (λ (k : ℕ). record c.args.vessel.now { place = k - 1 }) c.place-place.ensures)) ∙ sym c.next_entry.ensures ∙ c.in-None.is) tt

pub returns-in-Some-clause-next : goal.returns-in-Some-clause-next
returns-in-Some-clause-next c = rests_before c.args.vessel.now.entries c.in-Some.body c.enter_from_outside.result (ap (λ (x : View). slice_get x.entries 0) (sym (c.go_to.ensures ∙ ap (λ (k : ℕ). record c.args.vessel.now { place = k - 1 }) c.place-place.ensures)) ∙ sym c.next_entry.ensures ∙ c.in-Some.is) c.enter_from_outside.ensures.next
