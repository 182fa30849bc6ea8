-- Each call has one byte less to go past.
use Rattle.std.proofs.Common.{length}
use Rattle.wasm_reader.proofs.modules.+opens_with.Given as goal

abbrev pub decreases-opens_with : goal.decreases-opens_with
decreases-opens_with l = length l.wanted.now
