-- A byte that is no block type refuses the item.
use Rattle.std.proofs.lemmas.Result.{err_from_is_err_and}
use Rattle.wasm_code.proofs.ItemSteps.{opens_fails}
use Rattle.wasm_code.proofs.item_reader.read_item.Goals as goal

pub returns-in_err-block_type-in-Opens : goal.returns-in_err-block_type-in-Opens
returns-in_err-block_type-in-Opens c =
    let p = err_from_is_err_and c.from_residual-in_err-block_type-in-Opens.result c.from_residual-in_err-block_type-in-Opens.ensures.1 in
    rw (p.1, p.2)
    (opens_fails c.args.depth c.args.targets.now.items c.args.cursor.now c.in_ok-byte.byte c.byte.new.self c.in-Opens.opener _
    c.in_ok-byte.ensures c.in-Opens.ensures c.if-depth-ge-MOST_BLOCKS.false c.in_err-block_type-in-Opens.ensures)
