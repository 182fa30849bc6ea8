-- What is kept of the imports so far are their counts.
use Rattle.std.proofs.Common.{List, subst}
use Rattle.wasm_ops.specs.declared.modules.Import.{Import}
use Rattle.wasm_code.specs.Reading.{Read}
use Rattle.wasm_code.specs.Faults.{Gives}
use Rattle.wasm_reader.proofs.ImportCounts.{imports_same}
use Rattle.wasm_reader.proofs.imports.imports.Goals as goal

pub returns : goal.returns
returns c =
    let P : Read (List Import) → Type 0 = Gives (λ imports. (imports.items, c.vector.new.cursor)) c.vector.result in
    subst P (imports_same c.args.cursor.now) (rw c.none.ensures at c.vector.ensures)
