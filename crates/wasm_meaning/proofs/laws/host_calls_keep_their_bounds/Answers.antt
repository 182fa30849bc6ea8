use Rattle.wasm_meaning.proofs.HostLaws.{host_keeps}
use Rattle.wasm_meaning.proofs.laws.host_calls_keep_their_bounds.Goals as goal

pub returns : goal.returns
returns c = record { keeps = host_keeps }
