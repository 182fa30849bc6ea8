use Rattle.std.proofs.Common.{refl}
use Rattle.wasm_step.proofs.MemoryMoves.{size_moves, size_room}
use Rattle.wasm_step.proofs.memory.memory_size.Goals as goal

pub push-requires : goal.push-requires
push-requires c = size_room c.args._program.now c.args.vessel.now c.requires.at c.from.result c.size.result c.from.ensures c.size.ensures.size c.size.type_inv

pub returns-clause-acts : goal.returns-clause-acts
returns-clause-acts c = (refl, size_moves c.args._program.now c.args.vessel.now c.requires.at c.push.new.self c.from.result c.size.result c.from.ensures c.size.ensures.size c.size.type_inv c.push.ensures)
