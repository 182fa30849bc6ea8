-- What is stopped stands for the request that began, whichever it is; each turn leaves one less.
use Rattle.std.proofs.Common.{◌-◌, ◌^◌}
use Rattle.wasm_meaning.specs.Requests.{Request}
use Rattle.wasm_meaning.specs.Turns.{turns}
use Rattle.sandbox_states.specs.Stands.{StandsFor}
use Rattle.sandbox_states.specs.Views.{remaining}
use Rattle.commands.proofs.execution.to_its_end.Given as goal

abbrev pub invariant-loop-stopped : goal.invariant-loop-stopped
invariant-loop-stopped l = (request : Request) → StandsFor request l.fn.begun → StandsFor request l.sandbox

abbrev pub decreases-loop-stopped : goal.decreases-loop-stopped
decreases-loop-stopped l = turns (remaining l.sandbox) (2 ^ 32 - 1)
