use Rattle.std.proofs.Common.{ℕ, refl, ap, rules, ◌^◌, ◌∙◌, ◌+◌, ◌<◌, Option, length, drop, subst, sym, true}
use Rattle.wasm_store.specs.View.{View}
use Rattle.wasm_states.specs.Blocks.{if_view}
use Rattle.wasm_step.specs.Arms.{before}
use Rattle.wasm_step.proofs.ControlArms.{moved_by, if_number, if_fits, else_fits_at, then_arm, then_room, else_room_at, if_arm, opened_on, is_false, is_true}
use Rattle.wasm_step.proofs.control.open_if.Goals as goal

pub pop-requires : goal.pop-requires
pop-requires c = if_number c.args._program.now c.args.vessel.now c.args.gives c.args.other c.args.end c.requires.at

pub open_part-requires-clause-place : goal.open_part-requires-clause-place
open_part-requires-clause-place c = if_fits c.args._program.now c.args.vessel.now c.args.gives c.args.other c.args.end c.requires.at

pub open_part-requires-clause-room : goal.open_part-requires-clause-room
open_part-requires-clause-room c = subst (λ (x : View). length x.labels < 65536) (sym c.pop.ensures.cells) (then_room c.args._program.now c.args.vessel.now c.args.gives c.args.other c.args.end c.pop.result c.requires.at c.pop.ensures.value (is_false c.pop.result c.if-pop-ne0.true))

pub returns-then-pop-ne0-clause-acts : goal.returns-then-pop-ne0-clause-acts
returns-then-pop-ne0-clause-acts c = (refl, moved_by c.args._program.now (before c.args.vessel.now) (opened_on (record c.args.vessel.now { cells = drop 1 c.args.vessel.now.cells }) c.args.gives c.args.end) c.open_part.new.vessel 1 (c.open_part.ensures ∙ ap (λ (x : View). opened_on x c.args.gives c.args.end) c.pop.ensures.cells) (then_arm c.args._program.now c.args.vessel.now c.args.gives c.args.other c.args.end c.pop.result c.requires.at c.pop.ensures.value (is_false c.pop.result c.if-pop-ne0.true)))

pub overflow_add-between : goal.overflow_add-between
overflow_add-between c = let lt : c.in-Some.between + 1 < 2 ^ 32 = else_fits_at c.args._program.now c.args.vessel.now c.args.gives c.args.other c.in-Some.between c.args.end c.requires.at c.in-Some.is in search rules

pub open_part-requires-in-Some-clause-place : goal.open_part-requires-in-Some-clause-place
open_part-requires-in-Some-clause-place c = if_fits c.args._program.now c.args.vessel.now c.args.gives c.args.other c.args.end c.requires.at

pub open_part-requires-in-Some-clause-room : goal.open_part-requires-in-Some-clause-room
open_part-requires-in-Some-clause-room c = subst (λ (x : View). length x.labels < 65536) (sym (c.go_to.ensures ∙ ap (λ (x : View). record x { place = c.in-Some.between + 1 }) c.pop.ensures.cells)) (else_room_at c.args._program.now c.args.vessel.now c.args.gives c.args.other c.in-Some.between c.args.end c.pop.result c.requires.at c.in-Some.is c.pop.ensures.value (is_true c.pop.result c.if-pop-ne0.false))

pub overflow_add-end : goal.overflow_add-end
overflow_add-end c = let lt : c.args.end + 1 < 2 ^ 32 = if_fits c.args._program.now c.args.vessel.now c.args.gives c.args.other c.args.end c.requires.at in search rules

pub returns-in-Some-clause-acts : goal.returns-in-Some-clause-acts
returns-in-Some-clause-acts c = (refl, moved_by c.args._program.now (before c.args.vessel.now) (if_view (before c.args.vessel.now) c.args.gives c.args.other c.args.end true) c.open_part-in-Some.new.vessel 1 (c.open_part-in-Some.ensures ∙ ap (λ (x : View). opened_on x c.args.gives c.args.end) (c.go_to.ensures ∙ ap (λ (x : View). record x { place = c.in-Some.between + 1 }) c.pop.ensures.cells) ∙ ap (λ (o : Option ℕ). if_view (before c.args.vessel.now) c.args.gives o c.args.end true) (sym c.in-Some.is)) (if_arm c.args._program.now c.args.vessel.now c.args.gives c.args.other c.args.end c.pop.result true c.requires.at c.pop.ensures.value (is_true c.pop.result c.if-pop-ne0.false)))

pub returns-in-None-clause-acts : goal.returns-in-None-clause-acts
returns-in-None-clause-acts c = (refl, moved_by c.args._program.now (before c.args.vessel.now) (if_view (before c.args.vessel.now) c.args.gives c.args.other c.args.end true) c.go_to-in-None.new.self 1 (c.go_to-in-None.ensures ∙ ap (λ (x : View). record x { place = c.args.end + 1 }) c.pop.ensures.cells ∙ ap (λ (o : Option ℕ). if_view (before c.args.vessel.now) c.args.gives o c.args.end true) (sym c.in-None.is)) (if_arm c.args._program.now c.args.vessel.now c.args.gives c.args.other c.args.end c.pop.result true c.requires.at c.pop.ensures.value (is_true c.pop.result c.if-pop-ne0.false)))
