-- There are no more imports of a kind than imports, and the next one is the next of the list.
use Rattle.std.proofs.Common.{◌≡◌, ◌+◌, [], ◌∷◌, ◌++◌, take, length-take, ap, sym, ◌∙◌, arith}
use Rattle.std.proofs.lemmas.List.{take_more}
use Rattle.wasm_ops.specs.declared.modules.Import.{Import}
use Rattle.wasm_reader.proofs.ImportCounts.{functions_more, globals_more, function_one, global_one, function_counts, global_counts, functions_few, globals_few}
use Rattle.wasm_reader.proofs.imports.Imported.of.Goals as goal

pub with-imported-requires-clause-functions : goal.with-imported-requires-clause-functions
with-imported-requires-clause-functions c =
    let few = functions_few (take c.loop-import.import-index c.args.imports.now) in
    let taken = length-take c.loop-import.import-index c.args.imports.now in
    let one = function_one c.of_import.result in
    let same = c.loop-import.invariant.functions in
    let goes = c.loop-import-test.true in omega arith

pub with-imported-requires-clause-globals : goal.with-imported-requires-clause-globals
with-imported-requires-clause-globals c =
    let few = globals_few (take c.loop-import.import-index c.args.imports.now) in
    let taken = length-take c.loop-import.import-index c.args.imports.now in
    let one = global_one c.of_import.result in
    let same = c.loop-import.invariant.globals in
    let goes = c.loop-import-test.true in omega arith

pub loop-import-preserved : goal.loop-import-preserved
loop-import-preserved c =
    let so_far = take c.loop-import.import-index c.args.imports.now in
    let next = c.import-item.result in
    let more : take (c.loop-import.import-index + 1) c.args.imports.now ≡ so_far ++ next ∷ [] =
    take_more c.args.imports.now c.loop-import.import-index _ c.loop-import-test.true
    ∙ ap (λ (x : Import). so_far ++ x ∷ []) (sym c.import-item.is) in
    let functions_before = c.loop-import.invariant.functions in
    let functions_behind = functions_more so_far next in
    let function_more = function_counts next.item in
    let global_more = global_counts next.item in
    let globals_before = c.loop-import.invariant.globals in
    let globals_behind = globals_more so_far next in
    rw (c.with-imported.ensures, c.of_import.ensures)
    record {
      functions = rw more (omega arith);
      globals = rw more (omega arith);
    }
