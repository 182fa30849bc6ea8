use Rattle.std.proofs.Common.{◌≡◌, ◌*◌, replicate}
use Rattle.wasm_meaning.specs.Bytes.{page, zeros}
use Rattle.wasm_store.proofs.strips.Strip.carve.Given as goal

-- so many strips are carved, all alike
abbrev pub invariant-loop-i : goal.invariant-loop-i
invariant-loop-i l = l.strips.items ≡ replicate l.i (zeros (l.pages * page))
