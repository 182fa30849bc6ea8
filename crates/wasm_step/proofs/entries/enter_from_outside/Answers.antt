use Rattle.std.proofs.Common.{refl, ap, sym, subst, ◌∙◌, ◌≤◌, ◌+◌, length}
use Rattle.wasm_store.specs.View.{View}
use Rattle.wasm_states.specs.Calling.{call_view}
use Rattle.wasm_step.proofs.EntryArms.{next_known, exhausts_arm, enter_arm, enter_zeros, room_is, none_is}
use Rattle.wasm_step.proofs.ControlArms.{freed}
use Rattle.wasm_step.proofs.entries.enter_from_outside.Goals as goal

pub shape-shape-requires : goal.shape-shape-requires
shape-shape-requires c = record { known = next_known c.args.program.now c.args.vessel.now c.args.body c.requires.state c.requires.rests c.requires.next }

pub returns-then-not-has_room-clause-ends : goal.returns-then-not-has_room-clause-ends
returns-then-not-has_room-clause-ends c = let traps = exhausts_arm c.args.program.now c.args.vessel.now c.args.body c.shape-shape.result c.requires.rests c.requires.next c.shape-shape.ensures (none_is c.has_room.result c.shape-shape.result.cells c.args.vessel.now c.has_room.ensures c.if-not-has_room.true) in (refl, traps.0, traps.1)

pub enter-requires-clause-zeros : goal.enter-requires-clause-zeros
enter-requires-clause-zeros c = subst (λ (x : View). length x.cells + c.shape-shape.result.locals ≤ 65536) (sym c.pass_entry.ensures) (enter_zeros c.args.program.now c.args.vessel.now c.args.body c.shape-shape.result c.requires.state c.requires.rests c.requires.next c.shape-shape.ensures (room_is c.has_room.result c.shape-shape.result.cells c.args.vessel.now c.has_room.ensures c.if-not-has_room.false))

pub returns-clause-ends : goal.returns-clause-ends
returns-clause-ends c = freed c.args.program.now c.args.vessel.now c.enter.new.vessel c.enter.new.vessel refl (enter_arm c.args.program.now c.args.vessel.now c.enter.new.vessel c.args.body c.shape-shape.result c.requires.rests c.requires.next c.shape-shape.ensures (room_is c.has_room.result c.shape-shape.result.cells c.args.vessel.now c.has_room.ensures c.if-not-has_room.false) (c.enter.ensures ∙ ap (λ (x : View). call_view c.args.body 0 c.shape-shape.result.locals c.shape-shape.result.cells x) c.pass_entry.ensures))
