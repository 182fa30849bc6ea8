-- How blocks, branches and returns move a vessel whose code has gone past them.
use Rattle.std.proofs.Common.{◌≡◌, ◌≢◌, ℕ, ◌+◌, ◌-◌, ◌<◌, ◌≤◌, ◌==◌, Bool, true, false, cond, nat_lt, List, [], ◌∷◌, length, drop, Option, Some, slice_get, is_some, refl, sym, ap, subst, ◌∙◌, arith}
use Rattle.std.proofs.lemmas.Bool.Decides.{nat_tests}
use Rattle.wasm_ops.specs.declared.operators.Op.{Op}
use Rattle.wasm_ops.specs.declared.operators.Op.TheVariants as op
use Rattle.wasm_ops.specs.declared.types.ValType.{ValType}
use Rattle.wasm_meaning.specs.Control.{entry}
use Rattle.wasm_meaning.specs.Programs.{Program}
use Rattle.wasm_meaning.proofs.ModuleFacts.{get_at}
use Rattle.wasm_store.specs.View.{View, returned}
use Rattle.wasm_store.specs.declared.calls.Frame.{Frame}
use Rattle.wasm_store.specs.declared.labels.Label.{Label}
use Rattle.wasm_states.specs.Blocks.{block_label, loop_label, if_view}
use Rattle.wasm_states.specs.Codes.{target_at}
use Rattle.wasm_states.specs.Holding.{free_moves}
use Rattle.wasm_states.specs.Leaving.{gives_result, leave_from, leave_view, CanLeave, go_to_label, branch_from, branch_view, CanBranch}
use Rattle.wasm_states.specs.Steps.{Moves}
use Rattle.wasm_states.proofs.BlockMoves.{block_moves, loop_moves, if_moves, if_has_number, end_moves, else_moves, else_label}
use Rattle.wasm_states.proofs.ControlMoves.{br_moves, br_can, return_moves, return_can, body_moves, body_can, leave_frees, br_if_passes, br_if_moves, br_if_can, br_if_has_number, TableFits, table_fits, table_moves, table_can}
use Rattle.wasm_states.proofs.Places.{block_end_fits, if_end_fits, if_between_fits, else_end_fits}
use Rattle.wasm_states.proofs.StateLaws.{label_fits}
use Rattle.wasm_step.specs.Arms.{before, IsAt}

-- The place.

pub back_at : (p : Program) (v : View) (o : Op) → IsAt p v o → v.place - 1 + 1 ≡ v.place
back_at p v o at = let passed = at.passed in omega (arith, passed)

-- the same move, told by an equation
pub moved_by : (p : Program) (u v v' : View) (price : ℕ) → v' ≡ v → Moves p u v price → Moves p u v' price
moved_by p u v v' price e m = subst (λ (x : View). Moves p u x price) (sym e) m

-- Blocks.

pub block_arm
    : (p : Program) (v : View) (t : Option ValType) (end : ℕ) → IsAt p v (op.Block t end)
    → Moves p (before v) (record v { labels = block_label (end + 1) (length v.cells) t ∷ v.labels }) 1
block_arm p v t end at =
    subst (λ (k : ℕ). Moves p (before v) (record v { place = k; labels = block_label (end + 1) (length v.cells) t ∷ v.labels }) 1) (back_at p v (op.Block t end) at)
    (block_moves p (before v) t end at.here)

pub block_room : (p : Program) (v : View) (t : Option ValType) (end : ℕ) → IsAt p v (op.Block t end) → length v.labels < 65536
block_room p v t end at =
    label_fits p (before v) (record v { labels = block_label (end + 1) (length v.cells) t ∷ v.labels }) 1 (block_label (end + 1) (length v.cells) t) at.state (block_arm p v t end at) refl

pub block_fits : (p : Program) (v : View) (t : Option ValType) (end : ℕ) → IsAt p v (op.Block t end) → end + 1 < 4294967296
block_fits p v t end at = block_end_fits p (before v) t end at.state at.here

pub loop_arm
    : (p : Program) (v : View) (t : Option ValType) (end : ℕ) → IsAt p v (op.Loop t end)
    → Moves p (before v) (record v { labels = loop_label (v.place - 1) (length v.cells) ∷ v.labels }) 1
loop_arm p v t end at =
    subst (λ (k : ℕ). Moves p (before v) (record v { place = k; labels = loop_label (v.place - 1) (length v.cells) ∷ v.labels }) 1) (back_at p v (op.Loop t end) at)
    (loop_moves p (before v) t end at.here)

pub loop_room : (p : Program) (v : View) (t : Option ValType) (end : ℕ) → IsAt p v (op.Loop t end) → length v.labels < 65536
loop_room p v t end at =
    label_fits p (before v) (record v { labels = loop_label (v.place - 1) (length v.cells) ∷ v.labels }) 1 (loop_label (v.place - 1) (length v.cells)) at.state (loop_arm p v t end at) refl

-- If.

pub if_number : (p : Program) (v : View) (t : Option ValType) (other : Option ℕ) (end : ℕ) → IsAt p v (op.If t other end) → 0 < length v.cells
if_number p v t other end at = if_has_number p (before v) t other end at.state at.here

pub if_fits : (p : Program) (v : View) (t : Option ValType) (other : Option ℕ) (end : ℕ) → IsAt p v (op.If t other end) → end + 1 < 4294967296
if_fits p v t other end at = if_end_fits p (before v) t other end at.state at.here

pub if_else_fits : (p : Program) (v : View) (t : Option ValType) (between end : ℕ) → IsAt p v (op.If t (Some between) end) → between + 1 < 4294967296
if_else_fits p v t between end at = if_between_fits p (before v) t between end at.state at.here

pub if_arm
    : (p : Program) (v : View) (t : Option ValType) (other : Option ℕ) (end n : ℕ) (is_zero : Bool) → IsAt p v (op.If t other end) → slice_get v.cells 0 ≡ Some n → n == 0 ≡ is_zero
    → Moves p (before v) (if_view (before v) t other end is_zero) 1
if_arm p v t other end n is_zero at top chosen = if_moves p (before v) t other end n is_zero at.here top chosen

-- the first part
pub then_arm
    : (p : Program) (v : View) (t : Option ValType) (other : Option ℕ) (end n : ℕ) → IsAt p v (op.If t other end) → slice_get v.cells 0 ≡ Some n → n == 0 ≡ false
    → Moves p (before v) (record v { cells = drop 1 v.cells; labels = block_label (end + 1) (length (drop 1 v.cells)) t ∷ v.labels }) 1
then_arm p v t other end n at top chosen =
    subst (λ (k : ℕ). Moves p (before v) (record v { place = k; cells = drop 1 v.cells; labels = block_label (end + 1) (length (drop 1 v.cells)) t ∷ v.labels }) 1) (back_at p v (op.If t other end) at)
    (if_arm p v t other end n false at top chosen)

pub then_room
    : (p : Program) (v : View) (t : Option ValType) (other : Option ℕ) (end n : ℕ) → IsAt p v (op.If t other end) → slice_get v.cells 0 ≡ Some n → n == 0 ≡ false → length v.labels < 65536
then_room p v t other end n at top chosen =
    label_fits p (before v) (record v { cells = drop 1 v.cells; labels = block_label (end + 1) (length (drop 1 v.cells)) t ∷ v.labels }) 1 (block_label (end + 1) (length (drop 1 v.cells)) t)
    at.state (then_arm p v t other end n at top chosen) refl

pub else_room
    : (p : Program) (v : View) (t : Option ValType) (between end n : ℕ) → IsAt p v (op.If t (Some between) end) → slice_get v.cells 0 ≡ Some n → n == 0 ≡ true → length v.labels < 65536
else_room p v t between end n at top chosen =
    label_fits p (before v) (if_view (before v) t (Some between) end true) 1 (block_label (end + 1) (length (drop 1 v.cells)) t)
    at.state (if_arm p v t (Some between) end n true at top chosen) refl

-- Else and end.

pub past_fits : (p : Program) (v : View) (end : ℕ) → IsAt p v (op.Else end) → end + 1 < 4294967296
past_fits p v end at = else_end_fits p (before v) end at.state at.here

pub past_label : (p : Program) (v : View) (end : ℕ) → IsAt p v (op.Else end) → 1 ≤ length v.labels
past_label p v end at = else_label p (before v) end at.state at.here

label_less : (ls : List Label) → 1 ≤ length ls → length ls ≡ length (drop 1 ls) + 1
label_less [] e = let bad : ⊥ = omega (arith, e) in absurd bad
label_less (l ∷ ls) e = omega arith

pub record Frees (p : Program) (u v' : View) : Type 0 where
  pub moves : Moves p u v' 0
  pub one_less : free_moves u ≡ free_moves v' + 1

-- the same, told by an equation
pub freed : (p : Program) (u v v' : View) → v' ≡ v → Frees p u v → Moves p u v' 0 × (free_moves u ≡ free_moves v' + 1)
freed p u v v' e f = (subst (λ (x : View). Moves p u x 0) (sym e) f.moves, subst (λ (x : View). free_moves u ≡ free_moves x + 1) (sym e) f.one_less)

pub past_arm : (p : Program) (v : View) (end : ℕ) → IsAt p v (op.Else end) → Frees p (before v) (record v { place = end + 1; labels = drop 1 v.labels })
past_arm p v end at = record {
  moves = else_moves p (before v) end at.here;
  one_less = let less = label_less v.labels (past_label p v end at) in omega (arith, less);
}

pub close_arm
    : (p : Program) (v : View) (f : Frame) → IsAt p v op.End → slice_get v.frames 0 ≡ Some f → f.opened < length v.labels → Frees p (before v) (record v { labels = drop 1 v.labels })
close_arm p v f at live more = record {
  moves = subst (λ (k : ℕ). Moves p (before v) (record v { place = k; labels = drop 1 v.labels }) 0) (back_at p v op.End at) (end_moves p (before v) f at.here live more);
  one_less = let less = label_less v.labels (omega (arith, more)) in omega (arith, less);
}

-- Calls that end.

-- the same vessel with the code at another place
elsewhere : View → ℕ → View
elsewhere v k = record v { place = k }

pub leave_from_there : (p : Program) (v : View) (f : Frame) (k : ℕ) → slice_get v.frames 0 ≡ Some f → leave_view p v ≡ leave_view p (record v { place = k })
leave_from_there p v f k live =
    ap (λ (o : Option Frame). leave_from o (gives_result p v) v) live ∙ sym (ap (λ (o : Option Frame). leave_from o (gives_result p v) (record v { place = k })) live)

can_leave_there : (p : Program) (v : View) (k : ℕ) → CanLeave p (record v { place = k }) → CanLeave p v
can_leave_there p v k c = record { live = c.live; known = c.known; cells = c.cells; labels = c.labels }

pub return_fits : (p : Program) (v : View) → IsAt p v op.Return → CanLeave p v
return_fits p v at = can_leave_there p v (v.place - 1) (return_can p (before v) at.state at.here)

pub return_arm : (p : Program) (v v' : View) → IsAt p v op.Return → v' ≡ leave_view p v → Moves p (before v) v' 1
return_arm p v v' at e =
    let can = return_can p (before v) at.state at.here in
    let f = get_at v.frames 0 can.live in
    moved_by p (before v) (leave_view p (before v)) v' 1 (e ∙ leave_from_there p v f.item (v.place - 1) f.is) (return_moves p (before v) at.here)

pub body_fits : (p : Program) (v : View) (f : Frame) → IsAt p v op.End → slice_get v.frames 0 ≡ Some f → length v.labels ≤ f.opened → CanLeave p v
body_fits p v f at live none = can_leave_there p v (v.place - 1) (body_can p (before v) f at.state at.here live none)

pub body_arm
    : (p : Program) (v v' : View) (f : Frame) → IsAt p v op.End → slice_get v.frames 0 ≡ Some f → length v.labels ≤ f.opened → v' ≡ leave_view p v → Frees p (before v) v'
body_arm p v v' f at live none e =
    let there = e ∙ leave_from_there p v f (v.place - 1) live in
    record {
      moves = moved_by p (before v) (leave_view p (before v)) v' 0 there (body_moves p (before v) f at.here live none);
      one_less = subst (λ (x : View). free_moves (before v) ≡ free_moves x + 1) (sym there) (leave_frees p (before v) f live none);
    }

-- Branches.

pub branch_there : (p : Program) (label : ℕ) (v : View) (k : ℕ) → CanBranch p label v → branch_view p label v ≡ branch_view p label (record v { place = k })
branch_there p label v k can =
    let f = get_at v.frames 0 can.live in
    let opened = can.labels f.item f.is in
    ap (λ (o : Option Frame). branch_from o (gives_result p v) label v) f.is
    ∙ by f.item opened (nat_lt label (length v.labels - f.item.opened)) refl
    ∙ sym (ap (λ (o : Option Frame). branch_from o (gives_result p v) label (record v { place = k })) f.is)
  where
    by
        : (f : Frame) → f.opened ≤ length v.labels → (b : Bool) → nat_lt label (length v.labels - f.opened) ≡ b
        → cond b (go_to_label (slice_get v.labels label) label v) (returned (gives_result p v) f v)
        ≡ cond b (go_to_label (slice_get v.labels label) label (record v { place = k })) (returned (gives_result p v) f (record v { place = k }))
    by f opened false e = refl
    by f opened true e =
        let lt : label < length v.labels - f.opened = grind (arith, nat_tests) in
        let l = get_at v.labels label (omega (arith, lt, opened)) in
        ap (λ (o : Option Label). go_to_label o label v) l.is ∙ sym (ap (λ (o : Option Label). go_to_label o label (record v { place = k })) l.is)

can_branch_there : (p : Program) (label : ℕ) (v : View) (k : ℕ) → CanBranch p label (record v { place = k }) → CanBranch p label v
can_branch_there p label v k c = record { live = c.live; known = c.known; labels = c.labels; inside = c.inside; outside = c.outside }

pub br_fits : (p : Program) (v : View) (label : ℕ) → IsAt p v (op.Br label) → CanBranch p label v
br_fits p v label at = can_branch_there p label v (v.place - 1) (br_can p (before v) label at.state at.here)

pub br_arm : (p : Program) (v v' : View) (label : ℕ) → IsAt p v (op.Br label) → v' ≡ branch_view p label v → Moves p (before v) v' 1
br_arm p v v' label at e =
    moved_by p (before v) (branch_view p label (before v)) v' 1 (e ∙ branch_there p label v (v.place - 1) (br_fits p v label at)) (br_moves p (before v) label at.here)

pub br_if_number : (p : Program) (v : View) (label : ℕ) → IsAt p v (op.BrIf label) → 0 < length v.cells
br_if_number p v label at = br_if_has_number p (before v) label at.state at.here

pub br_if_past
    : (p : Program) (v v' : View) (label n : ℕ) → IsAt p v (op.BrIf label) → slice_get v.cells 0 ≡ Some n → n == 0 ≡ true → v' ≡ record v { cells = drop 1 v.cells }
    → Moves p (before v) v' 1
br_if_past p v v' label n at top chosen e =
    moved_by p (before v) (record v { cells = drop 1 v.cells }) v' 1 e
    (subst (λ (k : ℕ). Moves p (before v) (record v { place = k; cells = drop 1 v.cells }) 1) (back_at p v (op.BrIf label) at) (br_if_passes p (before v) label n at.here top chosen))

pub br_if_fits
    : (p : Program) (v u : View) (label n : ℕ) → IsAt p v (op.BrIf label) → slice_get v.cells 0 ≡ Some n → n == 0 ≡ false → u ≡ record v { cells = drop 1 v.cells }
    → CanBranch p label u
br_if_fits p v u label n at top chosen e =
    subst (λ (x : View). CanBranch p label x) (sym e)
    (can_branch_there p label (record v { cells = drop 1 v.cells }) (v.place - 1) (br_if_can p (before v) label n at.state at.here top chosen))

pub br_if_arm
    : (p : Program) (v u v' : View) (label n : ℕ) → IsAt p v (op.BrIf label) → slice_get v.cells 0 ≡ Some n → n == 0 ≡ false → u ≡ record v { cells = drop 1 v.cells }
    → v' ≡ branch_view p label u → Moves p (before v) v' 1
br_if_arm p v u v' label n at top chosen e f =
    let low = record v { cells = drop 1 v.cells } in
    let can = can_branch_there p label low (v.place - 1) (br_if_can p (before v) label n at.state at.here top chosen) in
    moved_by p (before v) (branch_view p label (record (before v) { cells = drop 1 v.cells })) v' 1
    (f ∙ ap (λ (x : View). branch_view p label x) e ∙ branch_there p label low (v.place - 1) can) (br_if_moves p (before v) label n at.here top chosen)

pub table_there : (p : Program) (v : View) (from count : ℕ) → IsAt p v (op.BrTable from count) → TableFits p v from count
table_there p v from count at =
    let t = table_fits p (before v) from count at.state at.here in
    record { small = t.small; there = t.there; number = t.number }

pub entry_within : (count number : ℕ) → entry count number ≤ count
entry_within count number = by (nat_lt number count) refl
  where
    by : (b : Bool) → nat_lt number count ≡ b → cond b number count ≤ count
    by true e = let lt : number < count = grind (arith, nat_tests) in omega (arith, lt)
    by false e = omega arith

pub table_arm_fits
    : (p : Program) (v u : View) (from count n label : ℕ) → IsAt p v (op.BrTable from count) → slice_get v.cells 0 ≡ Some n
    → target_at p.linked v.function (from + entry count n) ≡ Some label → u ≡ record v { cells = drop 1 v.cells }
    → CanBranch p label u
table_arm_fits p v u from count n label at top found e =
    subst (λ (x : View). CanBranch p label x) (sym e)
    (can_branch_there p label (record v { cells = drop 1 v.cells }) (v.place - 1) (table_can p (before v) from count n label at.state at.here top found))

pub table_arm
    : (p : Program) (v u v' : View) (from count n label : ℕ) → IsAt p v (op.BrTable from count) → slice_get v.cells 0 ≡ Some n
    → target_at p.linked v.function (from + entry count n) ≡ Some label → u ≡ record v { cells = drop 1 v.cells } → v' ≡ branch_view p label u
    → Moves p (before v) v' 1
table_arm p v u v' from count n label at top found e f =
    let low = record v { cells = drop 1 v.cells } in
    let can = can_branch_there p label low (v.place - 1) (table_can p (before v) from count n label at.state at.here top found) in
    moved_by p (before v) (branch_view p label (record (before v) { cells = drop 1 v.cells })) v' 1
    (f ∙ ap (λ (x : View). branch_view p label x) e ∙ branch_there p label low (v.place - 1) can) (table_moves p (before v) from count n label at.here top found)

-- the default's place, and all before it
pub table_sum : (p : Program) (v : View) (from count n k : ℕ) → IsAt p v (op.BrTable from count) → k ≡ entry count n → from + k < 4294967296
table_sum p v from count n k at e =
    let t = table_there p v from count at in
    let small = t.small in
    let within = entry_within count n in
    omega (arith, small, within, e)

pub table_target
    : (p : Program) (v u : View) (from count n k number : ℕ) → IsAt p v (op.BrTable from count) → k ≡ entry count n → u ≡ record v { cells = drop 1 v.cells } → number ≡ u.function
    → is_some (target_at p.linked number (from + k)) ≡ true
table_target p v u from count n k number at e f g =
    let t = table_there p v from count at in
    let within = entry_within count n in
    subst (λ (j : ℕ). is_some (target_at p.linked j (from + k)) ≡ true) (sym (g ∙ ap (λ (x : View). x.function) f)) (t.there k (omega (arith, within, e)))

pub label_there
    : (p : Program) (v u : View) (from count n k number label : ℕ) → k ≡ entry count n → u ≡ record v { cells = drop 1 v.cells } → number ≡ u.function
    → target_at p.linked number (from + k) ≡ Some label → target_at p.linked v.function (from + entry count n) ≡ Some label
label_there p v u from count n k number label e f g found =
    ap (λ (j : ℕ). target_at p.linked j (from + entry count n)) (sym (g ∙ ap (λ (x : View). x.function) f))
    ∙ ap (λ (j : ℕ). target_at p.linked number (from + j)) (sym e)
    ∙ found

-- a block opened where the code stands
abbrev pub opened_on : View → Option ValType → (end : ℕ) → View
opened_on v t end = record v { labels = block_label (end + 1) (length v.cells) t ∷ v.labels }

pub else_fits_at
    : (p : Program) (v : View) (t : Option ValType) (other : Option ℕ) (between end : ℕ) → IsAt p v (op.If t other end) → other ≡ Some between → between + 1 < 4294967296
else_fits_at p v t other between end at e = if_else_fits p v t between end (subst (λ (o : Option ℕ). IsAt p v (op.If t o end)) e at)

pub else_room_at
    : (p : Program) (v : View) (t : Option ValType) (other : Option ℕ) (between end n : ℕ) → IsAt p v (op.If t other end) → other ≡ Some between → slice_get v.cells 0 ≡ Some n → n == 0 ≡ true
    → length v.labels < 65536
else_room_at p v t other between end n at e top chosen = else_room p v t between end n (subst (λ (o : Option ℕ). IsAt p v (op.If t o end)) e at) top chosen

pub is_true : (n : ℕ) → n ≡ 0 → n == 0 ≡ true
is_true n e = grind (arith, nat_tests)

pub is_false : (n : ℕ) → n ≢ 0 → n == 0 ≡ false
is_false n e = grind (arith, nat_tests)
