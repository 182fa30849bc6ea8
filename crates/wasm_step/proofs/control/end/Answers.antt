use Rattle.std.proofs.Common.{refl, arith, length, drop, ◌≤◌, ◌<◌}
use Rattle.wasm_step.specs.Arms.{before}
use Rattle.wasm_step.proofs.NextLaws.{at_live, at_rest}
use Rattle.wasm_step.proofs.ControlArms.{freed, close_arm, body_fits, body_arm}
use Rattle.wasm_step.proofs.control.end.Goals as goal

pub leave_call-requires : goal.leave_call-requires
leave_call-requires c = let le : length c.args.vessel.now.labels ≤ c.frame.result.opened = omega (arith, c.if-open_blocks-frame.false, c.open_blocks.ensures.count) in record { can = body_fits c.args.program.now c.args.vessel.now c.frame.result c.requires.at c.frame.ensures le }

pub returns-then-open_blocks-frame-clause-ends : goal.returns-then-open_blocks-frame-clause-ends
returns-then-open_blocks-frame-clause-ends c = let more : c.frame.result.opened < length c.args.vessel.now.labels = omega (arith, c.if-open_blocks-frame.true, c.open_blocks.ensures.count) in freed c.args.program.now (before c.args.vessel.now) (record c.args.vessel.now { labels = drop 1 c.args.vessel.now.labels }) c.close_blocks.new.self c.close_blocks.ensures (close_arm c.args.program.now c.args.vessel.now c.frame.result c.requires.at c.frame.ensures more)

pub returns-else-open_blocks-frame-clause-ends : goal.returns-else-open_blocks-frame-clause-ends
returns-else-open_blocks-frame-clause-ends c = let le : length c.args.vessel.now.labels ≤ c.frame.result.opened = omega (arith, c.if-open_blocks-frame.false, c.open_blocks.ensures.count) in freed c.args.program.now (before c.args.vessel.now) c.leave_call.new.vessel c.leave_call.new.vessel refl (body_arm c.args.program.now c.args.vessel.now c.leave_call.new.vessel c.frame.result c.requires.at c.frame.ensures le c.leave_call.ensures)

pub returns-then-open_blocks-frame-clause-next : goal.returns-then-open_blocks-frame-clause-next
returns-then-open_blocks-frame-clause-next c = at_live c.args.vessel.now.frames c.args.vessel.now.entries _ (omega (arith, c.if-depth-eq0.false, c.depth.ensures.count)) tt

pub returns-else-open_blocks-frame-clause-next : goal.returns-else-open_blocks-frame-clause-next
returns-else-open_blocks-frame-clause-next c = at_live c.args.vessel.now.frames c.args.vessel.now.entries _ (omega (arith, c.if-depth-eq0.false, c.depth.ensures.count)) tt

pub returns-then-depth-eq0-clause-next : goal.returns-then-depth-eq0-clause-next
returns-then-depth-eq0-clause-next c = at_rest c.args.vessel.now.frames c.args.vessel.now.entries c.next_entry.result (omega (arith, c.if-depth-eq0.true, c.depth.ensures.count)) c.next_entry.ensures.next
