-- One more import.
use Rattle.wasm_meaning.specs.ValiditySpaces.{as_function}
use Rattle.wasm_typing.proofs.IndexSteps.{next_imported}
use Rattle.wasm_typing.proofs.indexes.imported_functions.Goals as goal

pub loop-import-preserved : goal.loop-import-preserved
loop-import-preserved c =
    next_imported as_function c.args.imports.now c.loop-import.import-index c.import-item.result _ _ _ c.loop-import-test.true
    c.import-item.is c.as_function.ensures c.loop-import.invariant c.in_ok-push_some.ensures
