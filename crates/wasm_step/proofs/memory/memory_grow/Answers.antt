use Rattle.std.proofs.Common.{refl, sym, ◌∙◌}
use Rattle.wasm_step.proofs.MemoryMoves.{grow_some, grow_small, grow_least, grow_most, grow_room, grow_moves, grow_stays}
use Rattle.wasm_step.proofs.memory.memory_grow.Goals as goal

pub pop-by-requires : goal.pop-by-requires
pop-by-requires c = grow_some c.args.program.now c.args.vessel.now c.requires.at

pub overflow_cast-by : goal.overflow_cast-by
overflow_cast-by c = record { fits = grow_small c.args.program.now c.args.vessel.now c.requires.at c.pop-by.result c.pop-by.ensures.value }

pub grow-requires-clause-least : goal.grow-requires-clause-least
grow-requires-clause-least c = grow_least c.args.program.now c.args.vessel.now c.requires.at c.pop-by.new.self c.most.result c.pop-by.ensures.cells c.most.ensures

pub grow-requires-clause-most : goal.grow-requires-clause-most
grow-requires-clause-most c = grow_most c.args.program.now c.args.vessel.now c.requires.at c.pop-by.new.self c.most.result c.pop-by.ensures.cells c.most.ensures

pub push-requires : goal.push-requires
push-requires c = grow_room c.args.program.now c.args.vessel.now c.requires.at c.pop-by.new.self c.grow.new.self _ c.pop-by.ensures.cells c.grow.ensures.memory

pub push-requires-in-None : goal.push-requires-in-None
push-requires-in-None c = grow_room c.args.program.now c.args.vessel.now c.requires.at c.pop-by.new.self c.grow.new.self _ c.pop-by.ensures.cells c.grow.ensures.memory

pub returns-in-Some-clause-acts : goal.returns-in-Some-clause-acts
returns-in-Some-clause-acts c = (refl, grow_moves c.args.program.now c.args.vessel.now c.requires.at c.pop-by.new.self c.grow.new.self c.push.new.self c.pop-by.result c.most.result c.in-Some.size c.from.result c.pop-by.ensures.value c.pop-by.ensures.cells c.most.ensures (sym c.in-Some.is ∙ c.grow.ensures.answer) c.grow.ensures.memory c.most.type_inv c.from.ensures c.push.ensures)

pub returns-in-None-clause-acts : goal.returns-in-None-clause-acts
returns-in-None-clause-acts c = (refl, grow_stays c.args.program.now c.args.vessel.now c.requires.at c.pop-by.new.self c.grow.new.self c.push-in-None.new.self c.pop-by.result c.most.result c.pop-by.ensures.value c.pop-by.ensures.cells c.most.ensures (sym c.in-None.is ∙ c.grow.ensures.answer) c.grow.ensures.memory c.push-in-None.ensures)
