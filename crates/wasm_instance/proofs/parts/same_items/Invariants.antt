-- The items so far are equal.
use Rattle.std.proofs.Common.{◌≡◌, take}
use Rattle.wasm_instance.proofs.parts.same_items.Given as goal

abbrev pub invariant-loop-i : goal.invariant-loop-i
invariant-loop-i g l = take l.i l.all ≡ take l.i l.others
