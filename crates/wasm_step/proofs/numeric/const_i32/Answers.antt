use Rattle.std.proofs.Common.{ℕ, refl, ap, ◌∙◌}
use Rattle.wasm_step.proofs.NumericMoves.{moved_as, pushed, const_i32_moves, const_i32_room}
use Rattle.wasm_step.specs.Arms.{before}
use Rattle.wasm_step.proofs.numeric.const_i32.Goals as goal

pub push-requires : goal.push-requires
push-requires c = const_i32_room c.args._program.now c.args.vessel.now c.args.number c.requires.at c.ranges.number.fits

pub returns-clause-acts : goal.returns-clause-acts
returns-clause-acts c = (refl, moved_as c.args._program.now (before c.args.vessel.now) (pushed c.args.number c.args.vessel.now) c.push.new.self 1 (c.push.ensures ∙ ap (λ (k : ℕ). pushed k c.args.vessel.now) c.from.ensures) (const_i32_moves c.args._program.now c.args.vessel.now c.args.number c.requires.at c.ranges.number.fits))
