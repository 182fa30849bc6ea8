-- One more import.
use Rattle.wasm_meaning.specs.ValiditySpaces.{as_global}
use Rattle.wasm_typing.proofs.IndexSteps.{next_imported}
use Rattle.wasm_typing.proofs.indexes.imported_globals.Goals as goal

pub loop-import-preserved : goal.loop-import-preserved
loop-import-preserved c =
    next_imported as_global c.args.imports.now c.loop-import.import-index c.import-item.result _ _ _ c.loop-import-test.true
    c.import-item.is c.as_global.ensures c.loop-import.invariant c.in_ok-push_some.ensures
