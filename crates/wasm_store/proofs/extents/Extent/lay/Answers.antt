use Rattle.std.proofs.Common.{arith, ◌∙◌}
use Rattle.wasm_store.proofs.StripLemmas.{length-written}
use Rattle.wasm_store.proofs.MarkLemmas.{told_written}
use Rattle.wasm_store.proofs.extents.Extent.lay.Goals as goal

pub invariant_of-self : goal.invariant_of-self
invariant_of-self c =
    let long = length-written _ _ _ _ _ _ c.self.view_is c.requires c.put.ensures.bytes in (
      omega (arith, c.self.invariant.0, c.put.ensures.room),
      omega (arith, c.self.invariant.1, long),
      c.self.invariant.2,
      c.mark_run.ensures.long ∙ c.self.invariant.3,
      told_written _ _ _ _ _ _ _ _ c.self.invariant.4 c.mark_run.ensures c.self.view_is c.requires c.put.ensures.bytes,
    )
