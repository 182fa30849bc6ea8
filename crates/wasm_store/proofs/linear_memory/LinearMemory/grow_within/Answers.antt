use Rattle.wasm_store.proofs.StripLemmas.{held_grown, memory_grown}
use Rattle.wasm_store.proofs.linear_memory.LinearMemory.grow_within.Goals as goal

pub invariant_of-self : goal.invariant_of-self
invariant_of-self c = held_grown _ _ _ _ _ c.reach.ensures c.self.view_is c.requires c.self.invariant

pub returns-clause-bytes : goal.returns-clause-bytes
returns-clause-bytes c = memory_grown _ _ _ _ _ c.reach.ensures c.self.view_is c.requires c.self.invariant
