use Rattle.std.proofs.Common.{refl}
use Rattle.wasm_step.proofs.NumericMoves.{moved_as, pushed, const_i64_moves, const_i64_room}
use Rattle.wasm_step.specs.Arms.{before}
use Rattle.wasm_step.proofs.numeric.const_i64.Goals as goal

pub push-requires : goal.push-requires
push-requires c = const_i64_room c.args._program.now c.args.vessel.now c.args.number c.requires.at c.ranges.number.fits

pub returns-clause-acts : goal.returns-clause-acts
returns-clause-acts c = (refl, moved_as c.args._program.now (before c.args.vessel.now) (pushed c.args.number c.args.vessel.now) c.push.new.self 1 c.push.ensures (const_i64_moves c.args._program.now c.args.vessel.now c.args.number c.requires.at c.ranges.number.fits))
