use Rattle.std.proofs.Common.{◌≡◌, ◌+◌, take}
use Rattle.wasm_store.specs.View.{with_elements}
use Rattle.wasm_store.proofs.vessel.Vessel.set_elements.Given as goal

-- the functions so far are set, and nothing else
abbrev pub invariant-loop-function : goal.invariant-loop-function
invariant-loop-function l =
    (l.index ≡ l.at + l.function-index)
    × (l.self ≡ record l.fn.self { table = with_elements l.fn.self.table l.at (take l.function-index l.functions) })
