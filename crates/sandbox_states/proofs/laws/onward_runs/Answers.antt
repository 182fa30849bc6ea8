use Rattle.std.proofs.Common.{subst}
use Rattle.wasm_meaning.specs.Requests.{Request}
use Rattle.sandbox_states.specs.Onward.{RunsFor}
use Rattle.sandbox_states.proofs.laws.onward_runs.Goals as goal

pub returns : goal.returns
returns c = record { onward = λ request s stands runs. subst (λ (r : Request). RunsFor r s) stands.of runs }
