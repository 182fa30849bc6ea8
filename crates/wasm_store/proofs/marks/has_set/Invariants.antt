use Rattle.std.proofs.Common.{◌≡◌, false, take, replicate}
use Rattle.wasm_store.proofs.marks.has_set.Given as goal

-- where none was seen, all so far are away
abbrev pub invariant-loop-mark : goal.invariant-loop-mark
invariant-loop-mark l = l.any ≡ false → take l.mark-index l.marks ≡ replicate l.mark-index false
