-- What a vessel becomes where the code leaves blocks, or the call that runs.
use Rattle.std.specs.Prelude.{◌≡◌, ℕ, ◌+◌, ◌-◌, ◌<◌, ◌≤◌, nat_lt, Bool, false, if◌then◌else◌, length, drop, Option, Some, None, slice_get}
use Rattle.std.specs.Option.{is_some}
use Rattle.wasm_meaning.specs.Programs.{Program, defined}
use Rattle.wasm_meaning.specs.State.{Function}
use Rattle.wasm_store.specs.Stacks.{kept, cut}
use Rattle.wasm_store.specs.View.{View, returned}
use Rattle.wasm_store.specs.declared.calls.Frame.{Frame}
use Rattle.wasm_store.specs.declared.labels.Label.{Label}

-- the function has a result
abbrev pub has_result : Option Function → Bool
has_result None = false
has_result (Some function) = is_some function.result

-- the call that runs has one
abbrev pub gives_result : Program → View → Bool
gives_result p v = has_result (slice_get (defined p.linked) v.function)

-- the call that runs is left, with its result
abbrev pub leave_from : Option Frame → (keep : Bool) → View → View
leave_from None keep v = v
leave_from (Some f) keep v = returned keep f v

abbrev pub leave_view : Program → View → View
leave_view p v = leave_from (slice_get v.frames 0) (gives_result p v) v

-- a result of the call lies over what was there before it
pub record CanLeave (p : Program) (v : View) : Type 0 where
  pub live : 0 < length v.frames
  pub known : v.function < length (defined p.linked)
  pub cells : (f : Frame) → slice_get v.frames 0 ≡ Some f → f.base + kept (gives_result p v) ≤ length v.cells
  pub labels : (f : Frame) → slice_get v.frames 0 ≡ Some f → f.opened ≤ length v.labels

-- the code goes on where a label says
abbrev pub go_to_label : Option Label → (label : ℕ) → View → View
go_to_label None label v = v
go_to_label (Some l) label v = record v { place = l.target; cells = cut (kept l.result) l.height v.cells; labels = drop (label + 1) v.labels }

-- a branch to a label goes on there, or leaves the call where the label is that of its function
abbrev pub branch_from : Option Frame → (keep : Bool) → (label : ℕ) → View → View
branch_from None keep label v = v
branch_from (Some f) keep label v =
    if nat_lt label (length v.labels - f.opened) then go_to_label (slice_get v.labels label) label v else returned keep f v

abbrev pub branch_view : Program → (label : ℕ) → View → View
branch_view p label v = branch_from (slice_get v.frames 0) (gives_result p v) label v

-- what the label takes lies over what was there before its block
pub record CanBranch (p : Program) (label : ℕ) (v : View) : Type 0 where
  pub live : 0 < length v.frames
  pub known : v.function < length (defined p.linked)
  pub labels : (f : Frame) → slice_get v.frames 0 ≡ Some f → f.opened ≤ length v.labels
  pub inside
      : (f : Frame) (l : Label) → slice_get v.frames 0 ≡ Some f → label < length v.labels - f.opened → slice_get v.labels label ≡ Some l
      → l.height + kept l.result ≤ length v.cells
  pub outside
      : (f : Frame) → slice_get v.frames 0 ≡ Some f → length v.labels - f.opened ≤ label → f.base + kept (gives_result p v) ≤ length v.cells
