use Rattle.std.proofs.Common.{arith, refl}
use Rattle.wasm_store.proofs.MarkLemmas.{covers_run}
use Rattle.wasm_store.proofs.marks.mark_run.Goals as goal

pub returns : goal.returns
returns c = covers_run _ _ _ _ _ (omega arith) refl refl (omega (arith, c.requires.there)) _ c.set_run.ensures
