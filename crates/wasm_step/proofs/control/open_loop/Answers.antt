use Rattle.std.proofs.Common.{refl, ap, ◌∙◌}
use Rattle.wasm_step.proofs.ControlArms.{moved_by, loop_arm, loop_room}
use Rattle.wasm_states.specs.Blocks.{loop_label}
use Rattle.wasm_step.specs.Arms.{before}
use Rattle.std.specs.Prelude.{ℕ, ◌-◌, ◌∷◌, length}
use Rattle.wasm_step.proofs.control.open_loop.Goals as goal

pub open_block-requires : goal.open_block-requires
open_block-requires c = loop_room c.args._program.now c.args.vessel.now c.args._gives c.args._end c.requires.at

pub returns-clause-acts : goal.returns-clause-acts
returns-clause-acts c = (refl, moved_by c.args._program.now (before c.args.vessel.now) (record c.args.vessel.now { labels = loop_label (c.args.vessel.now.place - 1) (length c.args.vessel.now.cells) ∷ c.args.vessel.now.labels }) c.open_block.new.self 1 (c.open_block.ensures ∙ ap (λ (k : ℕ). record c.args.vessel.now { labels = loop_label (k - 1) c.height-height.result ∷ c.args.vessel.now.labels }) c.place-target.ensures ∙ ap (λ (k : ℕ). record c.args.vessel.now { labels = loop_label (c.args.vessel.now.place - 1) k ∷ c.args.vessel.now.labels }) c.height-height.ensures.count) (loop_arm c.args._program.now c.args.vessel.now c.args._gives c.args._end c.requires.at))
