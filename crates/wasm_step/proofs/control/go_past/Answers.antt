use Rattle.std.proofs.Common.{ap, rules, ◌<◌, ◌^◌, ◌∙◌}
use Rattle.wasm_step.proofs.ControlArms.{freed, past_arm, past_fits, past_label}
use Rattle.wasm_step.specs.Arms.{before}
use Rattle.wasm_store.specs.View.{View}
use Rattle.std.specs.Prelude.{◌+◌, drop}
use Rattle.wasm_step.proofs.control.go_past.Goals as goal

pub close_blocks-requires : goal.close_blocks-requires
close_blocks-requires c = past_label c.args._program.now c.args.vessel.now c.args.end c.requires.at

pub overflow_add-end : goal.overflow_add-end
overflow_add-end c = let lt : c.args.end + 1 < 2 ^ 32 = past_fits c.args._program.now c.args.vessel.now c.args.end c.requires.at in search rules

pub returns-clause-ends : goal.returns-clause-ends
returns-clause-ends c = freed c.args._program.now (before c.args.vessel.now) (record c.args.vessel.now { place = c.args.end + 1; labels = drop 1 c.args.vessel.now.labels }) c.go_to.new.self (c.go_to.ensures ∙ ap (λ (x : View). record x { place = c.args.end + 1 }) c.close_blocks.ensures) (past_arm c.args._program.now c.args.vessel.now c.args.end c.requires.at)
