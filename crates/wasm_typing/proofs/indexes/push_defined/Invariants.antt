-- Those so far.
use Rattle.std.proofs.Common.{◌≡◌, ◌++◌, map, take}
use Rattle.wasm_meaning.specs.ValiditySpaces.{defined_global}
use Rattle.wasm_typing.proofs.indexes.push_defined.Given as goal

abbrev pub invariant-loop-global : goal.invariant-loop-global
invariant-loop-global l = l.all.items ≡ l.fn.all.items ++ map defined_global (take l.global-index l.globals)
