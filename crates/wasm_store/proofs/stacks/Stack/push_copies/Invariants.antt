use Rattle.std.proofs.Common.{◌≡◌, ◌++◌, replicate}
use Rattle.wasm_store.proofs.stacks.Stack.push_copies.Given as goal

-- so many copies lie on what there was
abbrev pub invariant-loop-i : goal.invariant-loop-i
invariant-loop-i g l = l.self ≡ replicate l.i l.item ++ l.fn.self
