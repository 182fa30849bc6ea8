use Rattle.std.proofs.Common.{arith, refl, ◌∙◌}
use Rattle.wasm_store.proofs.MarkLemmas.{sweep_more, marks_more}
use Rattle.wasm_store.proofs.marks.rinse_blocks.Goals as goal

pub loop-block-preserved : goal.loop-block-preserved
loop-block-preserved c = (
  sweep_more _ _ _ _ _ _ 4096 refl c.requires.told (omega (arith, c.requires.fits)) c.loop-block.invariant.1 c.loop-block.invariant.0 c.rinse_block.ensures.bytes,
  marks_more _ _ _ _ (omega (arith, c.requires.there)) c.loop-block.invariant.1 c.rinse_block.ensures.marks,
  c.rinse_block.ensures.room ∙ c.loop-block.invariant.2,
)
