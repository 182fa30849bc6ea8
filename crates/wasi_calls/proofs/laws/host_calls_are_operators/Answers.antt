use Rattle.wasi_calls.proofs.HostRuns.{runs_as}
use Rattle.wasi_calls.proofs.laws.host_calls_are_operators.Goals as goal

pub returns : goal.returns
returns c = record { runs = runs_as }
