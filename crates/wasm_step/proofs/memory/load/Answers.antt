use Rattle.std.proofs.Common.{refl, sym, ◌∙◌, subst}
use Rattle.wasm_store.specs.Memory.{IsWidth}
use Rattle.wasm_step.proofs.MemoryMoves.{load_some, load_access, load_base, load_moves, load_stops, sum_fits}
use Rattle.wasm_step.proofs.NumericMoves.{popped}
use Rattle.wasm_step.proofs.memory.load.Goals as goal

pub operand-base-requires : goal.operand-base-requires
operand-base-requires c = load_some c.args._program.now c.args.vessel.now c.args.access c.args._align c.args.offset c.requires.at

pub overflow_add-base : goal.overflow_add-base
overflow_add-base c = record { fits = sum_fits c.operand-base.result c.from.result c.args.offset (load_base c.args._program.now c.args.vessel.now c.args.access c.args._align c.args.offset c.requires.at c.operand-base.result c.operand-base.ensures) c.from.ensures c.ranges.offset.fits }

pub load-requires : goal.load-requires
load-requires c = subst IsWidth (sym c.from-2.ensures) (load_access c.args._program.now c.args.vessel.now c.args.access c.args._align c.args.offset c.requires.at).width

pub widen-requires-clause-access : goal.widen-requires-clause-access
widen-requires-clause-access c = load_access c.args._program.now c.args.vessel.now c.args.access c.args._align c.args.offset c.requires.at

pub replace_top-requires : goal.replace_top-requires
replace_top-requires c = load_some c.args._program.now c.args.vessel.now c.args.access c.args._align c.args.offset c.requires.at

pub returns-in-Some-clause-acts : goal.returns-in-Some-clause-acts
returns-in-Some-clause-acts c = (refl, load_moves c.args._program.now c.args.vessel.now c.args.access c.args._align c.args.offset c.requires.at (popped c.args.vessel.now) c.replace_top.new.vessel c.operand-base.result c.in-Some.number c.widen.result c.from.result c.from-2.result c.operand-base.ensures refl c.from.ensures c.from-2.ensures (sym c.load.ensures.value ∙ c.in-Some.is) c.widen.ensures.widened c.widen.ensures.of_its_type c.replace_top.ensures)

pub returns-in-None-clause-acts : goal.returns-in-None-clause-acts
returns-in-None-clause-acts c = (refl, load_stops c.args._program.now c.args.vessel.now c.args.access c.args._align c.args.offset c.requires.at (popped c.args.vessel.now) c.operand-base.result c.from.result c.from-2.result c.operand-base.ensures refl c.from.ensures c.from-2.ensures (sym c.load.ensures.value ∙ c.in-None.is))
