-- Those of the imports so far.
use Rattle.std.proofs.Common.{◌≡◌, take}
use Rattle.wasm_meaning.specs.ValiditySpaces.{as_function, imported}
use Rattle.wasm_typing.proofs.indexes.imported_functions.Given as goal

abbrev pub invariant-loop-import : goal.invariant-loop-import
invariant-loop-import l = l.all.items ≡ imported as_function (take l.import-index l.imports)
