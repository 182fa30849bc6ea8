use Rattle.wasm_store.proofs.StripLemmas.{memory-with_bytes}
use Rattle.wasm_store.proofs.linear_memory.LinearMemory.lay_few_within.Goals as goal

pub returns-clause-bytes : goal.returns-clause-bytes
returns-clause-bytes g c = memory-with_bytes _ _ _ _ _ _ c.lay_few.ensures c.self.view_is c.requires.fits c.self.invariant
