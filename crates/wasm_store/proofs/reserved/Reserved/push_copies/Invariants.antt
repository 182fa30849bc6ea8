use Rattle.std.proofs.Common.{◌≡◌, ◌++◌, replicate}
use Rattle.wasm_store.proofs.reserved.Reserved.push_copies.Given as goal

-- so many copies follow what there was
abbrev pub invariant-loop-i : goal.invariant-loop-i
invariant-loop-i g l = l.self ≡ l.fn.self ++ replicate l.i l.item
