-- What a vessel becomes where a function is called, or entered from outside.
use Rattle.std.specs.Prelude.{ℕ, ◌+◌, ◌-◌, nat_lt, nat_le, Bool, ◌&&◌, ◌++◌, length, drop}
use Rattle.wasm_meaning.specs.Bytes.{zeros}
use Rattle.wasm_meaning.specs.Execution.{most_frames, most_cells}
use Rattle.wasm_store.specs.View.{View, entered}

-- there is room for one call more, with so many cells
abbrev pub has_room_for : (cells : ℕ) → View → Bool
has_room_for cells v = nat_lt (length v.frames) most_frames && nat_le (v.used + cells) most_cells

-- a body is called, whose arguments lie on top: they stay where they are, as its first locals, and under the zeros of the others
abbrev pub call_view : (body params locals cells : ℕ) → View → View
call_view body params locals cells v =
    record (entered body (length v.cells - params) (v.used + cells) v) { cells = zeros locals ++ v.cells }

-- the next body is entered from outside
abbrev pub entry_view : (body locals cells : ℕ) → View → View
entry_view body locals cells v = record (call_view body 0 locals cells v) { entries = drop 1 v.entries }
