use Rattle.std.proofs.Common.{arith, ap, length}
use Rattle.std.proofs.lemmas.List.{length-reverse}
use Rattle.wasm_store.proofs.StackLemmas.{reverse_taken}
use Rattle.wasm_store.proofs.stacks.Stack.take_off.Goals as goal

pub returns : goal.returns
returns g c = reverse_taken _ _ _ _ _ c.truncate.ensures.items (omega (arith, c.len.ensures, ap length c.self.view_is, length-reverse c.self.inside.items.items, c.requires)) c.self.view_is
