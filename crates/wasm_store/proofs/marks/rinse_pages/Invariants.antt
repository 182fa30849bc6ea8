use Rattle.std.proofs.Common.{◌≡◌, ◌*◌, false}
use Rattle.std.specs.Prelude.{vec_capacity}
use Rattle.wasm_store.specs.Marks.{swept}
use Rattle.wasm_store.proofs.marks.rinse_pages.Given as goal

-- so many pages are rinsed
abbrev pub invariant-loop-page : goal.invariant-loop-page
invariant-loop-page l =
    (l.bytes.items ≡ swept (l.page * 65536) 0 l.fn.bytes.items)
    × (l.marks.items ≡ swept (l.page * 16) false l.fn.marks.items)
    × (vec_capacity l.bytes ≡ vec_capacity l.fn.bytes)
