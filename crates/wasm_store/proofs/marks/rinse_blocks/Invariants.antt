use Rattle.std.proofs.Common.{◌≡◌, ◌*◌, false}
use Rattle.std.specs.Prelude.{vec_capacity}
use Rattle.wasm_store.specs.Marks.{swept}
use Rattle.wasm_store.proofs.marks.rinse_blocks.Given as goal

-- so many blocks are rinsed
abbrev pub invariant-loop-block : goal.invariant-loop-block
invariant-loop-block l =
    (l.bytes.items ≡ swept (l.block * 4096) 0 l.fn.bytes.items)
    × (l.marks.items ≡ swept l.block false l.fn.marks.items)
    × (vec_capacity l.bytes ≡ vec_capacity l.fn.bytes)
