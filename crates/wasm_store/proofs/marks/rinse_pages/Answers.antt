use Rattle.std.proofs.Common.{arith, ◌∙◌, ◌+◌, ◌*◌}
use Rattle.wasm_store.proofs.MarkLemmas.{swept_again}
use Rattle.wasm_store.proofs.marks.rinse_pages.Goals as goal

pub loop-page-preserved : goal.loop-page-preserved
loop-page-preserved c = (
  swept_again (c.loop-page.page * 65536) ((c.loop-page.page + 1) * 65536) _ _ _ _ c.loop-page.invariant.0 c.rinse_page.ensures.bytes (omega arith) (omega (arith, c.requires.fits)),
  swept_again (c.loop-page.page * 16) ((c.loop-page.page + 1) * 16) _ _ _ _ c.loop-page.invariant.1 c.rinse_page.ensures.marks (omega arith) (omega (arith, c.requires.there)),
  c.rinse_page.ensures.room ∙ c.loop-page.invariant.2,
)
