use Rattle.std.proofs.Common.{◌≡◌, Bool, take}
use Rattle.std.specs.List.{count_by}
use Rattle.wasm_store.proofs.marks.count_set.Given as goal

-- so many of the marks so far are set
abbrev pub invariant-loop-mark : goal.invariant-loop-mark
invariant-loop-mark l = l.count ≡ count_by (λ (mark : Bool). mark) (take l.mark-index l.marks)
