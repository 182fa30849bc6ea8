use Rattle.wasm_store.proofs.MarkLemmas.{page_marks, page_bytes}
use Rattle.wasm_store.proofs.marks.rinse_page.Goals as goal

pub returns-else-is_any_set-clause-bytes : goal.returns-else-is_any_set-clause-bytes
returns-else-is_any_set-clause-bytes c = page_bytes _ _ _ c.requires.told c.requires.marks (c.is_any_set.ensures c.if-is_any_set.false) c.requires.fits

pub returns-else-is_any_set-clause-marks : goal.returns-else-is_any_set-clause-marks
returns-else-is_any_set-clause-marks c = page_marks _ _ c.requires.marks (c.is_any_set.ensures c.if-is_any_set.false)
