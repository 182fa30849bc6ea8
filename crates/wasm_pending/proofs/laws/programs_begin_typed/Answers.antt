use Rattle.wasm_pending.proofs.Calls.{entry_typed}
use Rattle.wasm_pending.proofs.FirstStates.{first_idle}
use Rattle.wasm_pending.proofs.laws.programs_begin_typed.Goals as goal

pub returns-clause-begins : goal.returns-clause-begins
returns-clause-begins c = first_idle

pub returns-clause-enters : goal.returns-clause-enters
returns-clause-enters c = entry_typed
