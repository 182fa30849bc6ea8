use Rattle.wasm_store.proofs.StripLemmas.{held-fresh}
use Rattle.wasm_store.proofs.linear_memory.LinearMemory.new.Goals as goal

pub invariant_of-result : goal.invariant_of-result
invariant_of-result c = held-fresh _ _ c.into_extent-extent.ensures.strip c.requires c.into_extent-extent.ensures.within c.into_extent-extent.ensures.most
