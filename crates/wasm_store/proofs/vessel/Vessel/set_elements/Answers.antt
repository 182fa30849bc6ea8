use Rattle.std.proofs.Common.{arith}
use Rattle.wasm_store.proofs.TableLemmas.{elements_more}
use Rattle.wasm_store.proofs.vessel.Vessel.set_elements.Goals as goal

pub loop-function-preserved : goal.loop-function-preserved
loop-function-preserved c = (
  omega arith,
  elements_more c.args.self.now c.loop-function.self c.set_element.new.self c.args.at c.loop-function.index c.loop-function.function-index _ c.args.functions.now c.loop-function.invariant.0 c.loop-function.invariant.1 c.set_element.ensures (omega arith) c.requires,
)
