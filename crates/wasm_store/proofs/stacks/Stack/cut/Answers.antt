use Rattle.std.proofs.Common.{ap, arith, length}
use Rattle.std.proofs.lemmas.List.{length-drop}
use Rattle.wasm_store.proofs.stacks.Stack.cut.Goals as goal

pub push-requires : goal.push-requires
push-requires g c =
    let popped = ap length c.pop-top.ensures in
    let taken = simp length-drop at (ap length c.take_off.ensures) in
    (omega arith, omega (arith, taken, popped, c.count-size.ensures.count, c.count-size.ensures.within))
