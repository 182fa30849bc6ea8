use Rattle.std.proofs.Common.{refl, sym, ◌∙◌, subst}
use Rattle.wasm_store.specs.Memory.{IsWidth}
use Rattle.wasm_step.proofs.MemoryMoves.{store_some, store_next, store_access, store_base, store_moves, store_stops, sum_fits}
use Rattle.wasm_step.proofs.memory.store.Goals as goal

pub pop-number-requires : goal.pop-number-requires
pop-number-requires c = store_some c.args._program.now c.args.vessel.now c.args.access c.args._align c.args.offset c.requires.at

pub pop-base-requires : goal.pop-base-requires
pop-base-requires c = store_next c.args._program.now c.args.vessel.now c.args.access c.args._align c.args.offset c.requires.at c.pop-number.new.self c.pop-number.ensures.cells

pub overflow_add-base : goal.overflow_add-base
overflow_add-base c = record { fits = sum_fits c.pop-base.result c.from.result c.args.offset (store_base c.args._program.now c.args.vessel.now c.args.access c.args._align c.args.offset c.requires.at c.pop-number.new.self c.pop-base.result c.pop-number.ensures.cells c.pop-base.ensures.value) c.from.ensures c.ranges.offset.fits }

pub store-requires : goal.store-requires
store-requires c = subst IsWidth (sym c.from-2.ensures) (store_access c.args._program.now c.args.vessel.now c.args.access c.args._align c.args.offset c.requires.at).width

pub returns-then-store-clause-acts : goal.returns-then-store-clause-acts
returns-then-store-clause-acts c = (refl, store_moves c.args._program.now c.args.vessel.now c.args.access c.args._align c.args.offset c.requires.at c.pop-number.new.self c.pop-base.new.self c.store.new.self c.pop-number.result c.pop-base.result c.from.result c.from-2.result c.pop-number.ensures.value c.pop-number.ensures.cells c.pop-base.ensures.value c.pop-base.ensures.cells c.from.ensures c.from-2.ensures (sym c.store.ensures.answer ∙ c.if-store.true) c.store.ensures.memory)

pub returns-else-store-clause-acts : goal.returns-else-store-clause-acts
returns-else-store-clause-acts c = (refl, store_stops c.args._program.now c.args.vessel.now c.args.access c.args._align c.args.offset c.requires.at c.pop-number.new.self c.pop-base.new.self c.pop-number.result c.pop-base.result c.from.result c.from-2.result c.pop-number.ensures.value c.pop-number.ensures.cells c.pop-base.ensures.value c.pop-base.ensures.cells c.from.ensures c.from-2.ensures (sym c.store.ensures.answer ∙ c.if-store.false))
