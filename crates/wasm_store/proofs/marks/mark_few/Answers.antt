use Rattle.wasm_store.proofs.MarkLemmas.{covers_few}
use Rattle.wasm_store.proofs.marks.mark_few.Goals as goal

pub returns : goal.returns
returns c = covers_few _ _ _ _ c.requires.some c.requires.few c.mark_two.ensures
