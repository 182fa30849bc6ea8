-- The imports so far are counted.
use Rattle.std.proofs.Common.{◌≡◌, take}
use Rattle.wasm_ops.specs.Limits.{imported_functions, imported_globals}
use Rattle.wasm_reader.proofs.imports.Imported.of.Given as goal

abbrev pub invariant-loop-import : goal.invariant-loop-import
invariant-loop-import l =
    record {
      functions : l.imported.functions ≡ imported_functions (take l.import-index l.imports);
      globals : l.imported.globals ≡ imported_globals (take l.import-index l.imports);
    }
