use Rattle.std.proofs.Common.{refl}
use Rattle.wasm_step.proofs.ControlArms.{moved_by, block_arm, block_room, block_fits}
use Rattle.wasm_states.specs.Blocks.{block_label}
use Rattle.wasm_step.specs.Arms.{before}
use Rattle.std.specs.Prelude.{◌+◌, ◌∷◌, length}
use Rattle.wasm_step.proofs.control.open_block.Goals as goal

pub open_part-requires : goal.open_part-requires
open_part-requires c = record { place = block_fits c.args._program.now c.args.vessel.now c.args.gives c.args.end c.requires.at; room = block_room c.args._program.now c.args.vessel.now c.args.gives c.args.end c.requires.at }

pub returns-clause-acts : goal.returns-clause-acts
returns-clause-acts c = (refl, moved_by c.args._program.now (before c.args.vessel.now) (record c.args.vessel.now { labels = block_label (c.args.end + 1) (length c.args.vessel.now.cells) c.args.gives ∷ c.args.vessel.now.labels }) c.open_part.new.vessel 1 c.open_part.ensures (block_arm c.args._program.now c.args.vessel.now c.args.gives c.args.end c.requires.at))
