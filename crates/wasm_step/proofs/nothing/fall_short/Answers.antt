use Rattle.std.proofs.Common.{ℕ, ap, ◌∙◌, ◌-◌}
use Rattle.wasm_step.specs.Arms.{before}
use Rattle.wasm_step.proofs.NextLaws.{short_next}
use Rattle.wasm_step.proofs.StepLaws.{short_back}
use Rattle.wasm_step.proofs.nothing.fall_short.Goals as goal

pub returns-clause-does : goal.returns-clause-does
returns-clause-does c = short_back c.args._program.now c.args.vessel.now c.go_to.new.self c.args._operator c.requires.at c.requires.priced c.requires.quiet (c.go_to.ensures ∙ ap (λ (k : ℕ). record c.args.vessel.now { place = k - 1 }) c.place-place.ensures)

pub returns-clause-next : goal.returns-clause-next
returns-clause-next c = short_next c.args._program.now (before c.args.vessel.now) c.args._operator c.requires.priced c.requires.quiet
