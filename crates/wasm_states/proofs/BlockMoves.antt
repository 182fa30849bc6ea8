-- Blocks are opened and end.
use Rattle.std.proofs.Common.{◌≡◌, ℕ, ◌+◌, ◌<◌, ◌≤◌, ◌==◌, Bool, true, false, List, [], ◌∷◌, ◌++◌, length, drop, Option, Some, None, slice_get, refl, sym, ap, subst, ◌∙◌, length-append, arith}
use Rattle.wasm_ops.specs.declared.operators.Op.{Op}
use Rattle.wasm_ops.specs.declared.operators.Op.TheVariants.{Block, Loop, If, Else, End}
use Rattle.wasm_ops.specs.declared.types.ValType.{ValType}
use Rattle.wasm_ops.specs.Sequence.{Sequence, Done, InBlock, InLoop, InIf, InIfElse, size}
use Rattle.wasm_meaning.specs.Effects.{Taken, take_i32}
use Rattle.wasm_ops.specs.declared.modules.Module.{Module}
use Rattle.wasm_meaning.specs.Pending.{Around, AroundBlock, AroundLoop, AroundCall, Entering, Pending}
use Rattle.wasm_meaning.specs.Programs.{Program}
use Rattle.wasm_meaning.specs.State.{Function, State, with_operands}
use Rattle.wasm_meaning.specs.Values.{Value, Int32, Int64, numbers}
use Rattle.wasm_pending.specs.Frames.{open_in}
use Rattle.wasm_pending.specs.Steps.{pending_at, fallen, in_block, in_loop}
use Rattle.wasm_pending.specs.Typed.{Typed}
use Rattle.wasm_pending.proofs.Blocks.{block_typed, loop_typed, if_typed, if_else_typed, block_ends, loop_ends}
use Rattle.wasm_store.specs.View.{View}
use Rattle.wasm_store.specs.declared.calls.Frame.{Frame}
use Rattle.wasm_store.specs.declared.labels.Label.{Label}
use Rattle.wasm_states.specs.Blocks.{block_label, loop_label, if_view}
use Rattle.wasm_states.specs.Chains.{cells_under, height_under, Chain}
use Rattle.wasm_states.specs.Codes.{op_at, Stands, behind}
use Rattle.wasm_states.specs.Holding.{Holds, IsState}
use Rattle.wasm_states.specs.Running.{Running}
use Rattle.wasm_states.specs.Steps.{RunsOn, Reaches, Moves}
use Rattle.wasm_states.proofs.ChainLaws.{length-numbers, length-cells_under, laid_on, falls_to}
use Rattle.wasm_states.proofs.Inversions.{block_here, loop_here, if_here, if_else_here, done_here}
use Rattle.wasm_states.proofs.Moving.{moved_to, StaysIn, reaches_in}
use Rattle.wasm_states.proofs.RunLaws.{block_runs, loop_runs, if_runs, if_passes, then_runs, else_runs, falls_run}
use Rattle.wasm_states.proofs.StateLaws.{there, place_of, running_of, live_of, told, untold, border_of, room_of}

-- the cells under the operands, and these themselves
cells_count : (st : State) (around : List Around) (cells : List ℕ) → cells ≡ numbers st.operands ++ cells_under st.frame.locals around → length cells ≡ length st.operands + height_under (length st.frame.locals) around
cells_count st around cells is =
    ap (λ (ns : List ℕ). length ns) is
    ∙ length-append (numbers st.operands) (cells_under st.frame.locals around)
    ∙ ap (λ (n : ℕ). n + length (cells_under st.frame.locals around)) (length-numbers st.operands)
    ∙ ap (λ (n : ℕ). length st.operands + n) (length-cells_under st.frame.locals around)

-- a sequence that is opened as a block: its first operator stands at `first`, its closing one behind it, and the code goes on at `target`
opens
    : (p : Program) (v : View) (w : Pending) (r : Running p v w) (around : List Around) (st : State) (t : Option ValType) (body rest : Sequence) (begin target : ℕ) (cells : List ℕ)
    → cells ≡ numbers st.operands ++ cells_under st.frame.locals around
    → Stands r.code.body.ops begin body
    → behind (begin + size body) (slice_get r.code.body.ops (begin + size body)) ≡ Some target
    → Stands r.code.body.ops target rest
    → Chain p.linked r.code.function r.code.body.ops (target + size rest) v.used (length st.frame.locals) v.entries around v.labels v.frames
    → st.cells ≡ w.state.cells → st.frames ≡ w.state.frames
    → Typed p v.function (in_block t body rest around st)
    → StaysIn p v w r begin cells (block_label target (length cells) t ∷ v.labels) (in_block t body rest around st)
opens p v w r around st t body rest begin target cells cells_are inside closing after chain same_cells same_frames typing = record {
  here = inside;
  chain = (record { closes = closing; takes = refl; lies = cells_count st around cells cells_are; stands = after }, chain);
  cells_are = cells_are;
  same_cells = same_cells;
  same_frames = same_frames;
  typing = typing;
}

-- Block and loop.

block_reaches
    : (p : Program) (v : View) (t : Option ValType) (end : ℕ) (body rest : Sequence) (around : List Around) (st : State) → end ≡ v.place + 1 + size body
    → Holds p v (pending_at (InBlock t body rest) around st) → Running p v (pending_at (InBlock t body rest) around st)
    → Reaches p (pending_at (InBlock t body rest) around st) 1 (moved_to v (v.place + 1) v.cells (block_label (end + 1) (length v.cells) t ∷ v.labels))
block_reaches p v t end body rest around st e h r =
    let w = pending_at (InBlock t body rest) around st in
    let ops = r.code.body.ops in
    let target : v.place + 2 + size body ≡ end + 1 = omega (arith, e) in
    let stop : v.place + size (InBlock t body rest) ≡ end + 1 + size rest = omega (arith, e) in
    let past : v.place + 1 + size body + 1 ≡ end + 1 = omega (arith, e) in
    reaches_in p v w h r 1 (v.place + 1) v.cells (block_label (end + 1) (length v.cells) t ∷ v.labels) (in_block t body rest around st)
    (opens p v w r around st t body rest (v.place + 1) (end + 1) v.cells r.cells r.here.1
    (ap (λ (o : Option Op). behind (v.place + 1 + size body) o) r.here.2 ∙ ap (λ (k : ℕ). Some k) past)
    (subst (λ (k : ℕ). Stands ops k rest) target r.here.3)
    (subst (λ (k : ℕ). Chain p.linked r.code.function ops k v.used (length st.frame.locals) v.entries around v.labels v.frames) stop r.chain)
    refl refl (block_typed p v.function t body rest around st r.typing))
    refl (block_runs p t body rest around st)

pub block_moves
    : (p : Program) (v : View) (t : Option ValType) (end : ℕ) → op_at p v ≡ Some (Block t end)
    → Moves p v (moved_to v (v.place + 1) v.cells (block_label (end + 1) (length v.cells) t ∷ v.labels)) 1
block_moves p v t end at = record {
  moves = λ w h.
      let r = running_of p v w (Block t end) h at tt in
      let b = block_here r.code.body.ops v.place w.sequence t end (place_of p v w r (Block t end) at) in
      let s = InBlock t b.body b.rest in
      untold (λ (x : Pending). Reaches p x 1 (moved_to v (v.place + 1) v.cells (block_label (end + 1) (length v.cells) t ∷ v.labels))) w s b.is
      (block_reaches p v t end b.body b.rest w.around w.state b.end_is (told (λ (x : Pending). Holds p v x) w s b.is h) (told (λ (x : Pending). Running p v x) w s b.is r));
}

loop_reaches
    : (p : Program) (v : View) (t : Option ValType) (body rest : Sequence) (around : List Around) (st : State)
    → Holds p v (pending_at (InLoop t body rest) around st) → Running p v (pending_at (InLoop t body rest) around st)
    → Reaches p (pending_at (InLoop t body rest) around st) 1 (moved_to v (v.place + 1) v.cells (loop_label v.place (length v.cells) ∷ v.labels))
loop_reaches p v t body rest around st h r =
    let w = pending_at (InLoop t body rest) around st in
    reaches_in p v w h r 1 (v.place + 1) v.cells (loop_label v.place (length v.cells) ∷ v.labels) (in_loop t body rest around st)
    (record {
      here = r.here.1;
      chain = (record { turn = refl; takes = refl; lies = cells_count st around v.cells r.cells; stands = r.here }, r.chain);
      cells_are = r.cells;
      same_cells = refl;
      same_frames = refl;
      typing = loop_typed p v.function t body rest around st r.typing;
    })
    refl (loop_runs p t body rest around st)

pub loop_moves
    : (p : Program) (v : View) (t : Option ValType) (end : ℕ) → op_at p v ≡ Some (Loop t end)
    → Moves p v (moved_to v (v.place + 1) v.cells (loop_label v.place (length v.cells) ∷ v.labels)) 1
loop_moves p v t end at = record {
  moves = λ w h.
      let r = running_of p v w (Loop t end) h at tt in
      let b = loop_here r.code.body.ops v.place w.sequence t end (place_of p v w r (Loop t end) at) in
      let s = InLoop t b.body b.rest in
      untold (λ (x : Pending). Reaches p x 1 (moved_to v (v.place + 1) v.cells (loop_label v.place (length v.cells) ∷ v.labels))) w s b.is
      (loop_reaches p v t b.body b.rest w.around w.state (told (λ (x : Pending). Holds p v x) w s b.is h) (told (λ (x : Pending). Running p v x) w s b.is r));
}

-- Ends of blocks.

falls_typed
    : (p : Program) (number : ℕ) (around : List Around) (st : State) (rest : Sequence) (outer : List Around) (base : List Value) → 1 ≤ open_in around
    → Typed p number (pending_at Done around st) → fallen around st ≡ Some (pending_at rest outer (with_operands st (st.operands ++ base)))
    → Typed p number (pending_at rest outer (with_operands st (st.operands ++ base)))
falls_typed p number [] st rest outer base opened typing e = let bad : ⊥ = cc in absurd bad
falls_typed p number (AroundBlock t low after ∷ around) st rest outer base opened typing e =
    let same : pending_at after around (with_operands st (st.operands ++ low)) ≡ pending_at rest outer (with_operands st (st.operands ++ base)) = cc in
    subst (λ (w : Pending). Typed p number w) same (block_ends p number t low after around st typing)
falls_typed p number (AroundLoop t low body after ∷ around) st rest outer base opened typing e =
    let same : pending_at after around (with_operands st (st.operands ++ low)) ≡ pending_at rest outer (with_operands st (st.operands ++ base)) = cc in
    subst (λ (w : Pending). Typed p number w) same (loop_ends p number t low body after around st typing)
falls_typed p number (a ∷ around) st rest outer base opened typing e = let bad : ⊥ = omega (arith, opened) in absurd bad

-- a block that ends where its closing operator says
closed_reaches
    : (p : Program) (v : View) (o : Op) (target : ℕ) (around : List Around) (st : State) → behind v.place (Some o) ≡ Some target → 1 ≤ open_in around
    → op_at p v ≡ Some o
    → Holds p v (pending_at Done around st) → Running p v (pending_at Done around st)
    → Reaches p (pending_at Done around st) 0 (moved_to v target v.cells (drop 1 v.labels))
closed_reaches p v o target around st closing opened at h r =
    let w = pending_at Done around st in
    let ops = r.code.body.ops in
    let here : v.place + 0 ≡ v.place = omega arith in
    let place = place_of p v w r o at in
    let f = falls_to p.linked r.code.function ops v.used (length st.frame.locals) v.entries (v.place + 0) around v.labels v.frames r.chain opened in
    let found : slice_get ops (v.place + 0) ≡ Some o = ap (λ (k : ℕ). slice_get ops k) here ∙ place.there in
    let told_behind : behind v.place (Some o) ≡ Some f.target
    = sym (ap (λ (k : ℕ). behind k (slice_get ops (v.place + 0))) here ∙ ap (λ (x : Option Op). behind v.place x) found) ∙ f.behind_is in
    let same : f.target ≡ target = given f.target target (behind v.place (Some o)) told_behind closing in
    let w' = pending_at f.rest f.outer (with_operands st (st.operands ++ f.base)) in
    reaches_in p v w h r 0 target v.cells (drop 1 v.labels) w'
    (record {
      here = subst (λ (k : ℕ). Stands ops k f.rest) same f.stands;
      chain = subst (λ (k : ℕ). Chain p.linked r.code.function ops (k + size f.rest) v.used (length st.frame.locals) v.entries f.outer (drop 1 v.labels) v.frames) same f.chain;
      cells_are = r.cells ∙ ap (λ (ns : List ℕ). numbers st.operands ++ ns) (f.under st.frame.locals) ∙ laid_on st.operands f.base (cells_under st.frame.locals f.outer);
      same_cells = refl;
      same_frames = refl;
      typing = falls_typed p v.function around st f.rest f.outer f.base opened r.typing (f.falls st);
    })
    refl (falls_run p around st w' (f.falls st) refl)
  where
    given : (x y : ℕ) (o : Option ℕ) → o ≡ Some x → o ≡ Some y → x ≡ y
    given x y o e f = cc

pub end_moves
    : (p : Program) (v : View) (f : Frame) → op_at p v ≡ Some End → slice_get v.frames 0 ≡ Some f → f.opened < length v.labels
    → Moves p v (moved_to v (v.place + 1) v.cells (drop 1 v.labels)) 0
end_moves p v f at live more = record {
  moves = λ w h.
      let r = live_of p v w f h live in
      let s = done_here r.code.body.ops v.place w.sequence End (place_of p v w r End at) tt in
      let room = room_of p v w r in
      let same : room.f ≡ f = given room.f f (slice_get v.frames 0) room.found live in
      let opened = ap (λ (g : Frame). g.opened) same in
      let labels = room.labels in
      untold (λ (x : Pending). Reaches p x 0 (moved_to v (v.place + 1) v.cells (drop 1 v.labels))) w Done s
      (closed_reaches p v End (v.place + 1) w.around w.state refl (omega (arith, labels, opened, more)) at (told (λ (x : Pending). Holds p v x) w Done s h) (told (λ (x : Pending). Running p v x) w Done s r));
}
  where
    given : (x y : Frame) (o : Option Frame) → o ≡ Some x → o ≡ Some y → x ≡ y
    given x y o e f = cc

-- an `else` stands at the end of a block, and never at that of a body
else_opened
    : (m : Module) (function : Function) (ops : List Op) (stop used locals : ℕ) (entries : List ℕ) (around : List Around) (labels : List Label) (frames : List Frame) (end : ℕ)
    → Chain m function ops stop used locals entries around labels frames → slice_get ops stop ≡ Some (Else end) → 1 ≤ open_in around
else_opened m function ops stop used locals entries [] labels frames end chain e = absurd chain
else_opened m function ops stop used locals entries (AroundBlock t base rest ∷ around) labels frames end chain e = omega arith
else_opened m function ops stop used locals entries (AroundLoop t base body rest ∷ around) labels frames end chain e = omega arith
else_opened m function ops stop used locals entries (AroundCall t number caller rest ∷ around) labels frames end chain e =
    let b = border_of m function ops stop used locals entries t number caller rest around labels frames chain in
    let closes = b.border.closes in
    let bad : ⊥ = cc in absurd bad
else_opened m function ops stop used locals entries (Entering number ∷ around) labels frames end chain e = absurd chain

pub else_open
    : (p : Program) (v : View) (end : ℕ) (w : Pending) → op_at p v ≡ Some (Else end) → (r : Running p v w) → w.sequence ≡ Done → 1 ≤ open_in w.around
else_open p v end w at r s =
    let here : v.place + size w.sequence ≡ v.place = ap (λ (x : Sequence). v.place + size x) s ∙ none v.place in
    else_opened p.linked r.code.function r.code.body.ops (v.place + size w.sequence) v.used (length w.state.frame.locals) v.entries w.around v.labels v.frames end r.chain
    (ap (λ (k : ℕ). slice_get r.code.body.ops k) here ∙ there p v w r (Else end) at)
  where
    none : (n : ℕ) → n + 0 ≡ n
    none n = omega arith

pub else_moves : (p : Program) (v : View) (end : ℕ) → op_at p v ≡ Some (Else end) → Moves p v (moved_to v (end + 1) v.cells (drop 1 v.labels)) 0
else_moves p v end at = record {
  moves = λ w h.
      let r = running_of p v w (Else end) h at tt in
      let s = done_here r.code.body.ops v.place w.sequence (Else end) (place_of p v w r (Else end) at) tt in
      untold (λ (x : Pending). Reaches p x 0 (moved_to v (end + 1) v.cells (drop 1 v.labels))) w Done s
      (closed_reaches p v (Else end) (end + 1) w.around w.state refl (else_open p v end w at r s) at (told (λ (x : Pending). Holds p v x) w Done s h) (told (λ (x : Pending). Running p v x) w Done s r));
}

-- it closes a label
pub else_label : (p : Program) (v : View) (end : ℕ) → IsState p v → op_at p v ≡ Some (Else end) → 1 ≤ length v.labels
else_label p v end state at =
    let w = state.pending in
    let r = running_of p v w (Else end) state.holds at tt in
    let s = done_here r.code.body.ops v.place w.sequence (Else end) (place_of p v w r (Else end) at) tt in
    let opened = else_open p v end w at r s in
    let room = room_of p v w r in
    let labels = room.labels in
    omega (arith, labels, opened)

-- If.

-- the number that an `if` or a branch takes off is the top cell
pub i32_top : (operands : List Value) (taken : Taken) → take_i32 operands ≡ Some taken → numbers operands ≡ taken.number ∷ numbers taken.under
i32_top [] taken e = let bad : ⊥ = cc in absurd bad
i32_top (Int32 n ∷ under) taken e =
    let same : record { number = n; under = under } ≡ taken = cc in
    ap (λ (t : Taken). t.number ∷ numbers t.under) same
i32_top (Int64 n ∷ under) taken e = let bad : ⊥ = cc in absurd bad

pub cells_top
    : (st : State) (taken : Taken) (cells low : List ℕ) → cells ≡ numbers st.operands ++ low → take_i32 st.operands ≡ Some taken
    → cells ≡ taken.number ∷ (numbers taken.under ++ low)
cells_top st taken cells low is e = is ∙ ap (λ (ns : List ℕ). ns ++ low) (i32_top st.operands taken e)

pub number_is : (cells low : List ℕ) (n k : ℕ) → slice_get cells 0 ≡ Some n → cells ≡ k ∷ low → k ≡ n
number_is cells low n k found is = given k n (slice_get cells 0) (ap (λ (ns : List ℕ). slice_get ns 0) is) found
  where
    given : (x y : ℕ) (o : Option ℕ) → o ≡ Some x → o ≡ Some y → x ≡ y
    given x y o e f = cc

-- the part that an `if` opens
part_reaches
    : (p : Program) (v : View) (w : Pending) (h : Holds p v w) (r : Running p v w) (around : List Around) (st : State) (t : Option ValType) (part rest : Sequence) (begin target : ℕ)
    → drop 1 v.cells ≡ numbers st.operands ++ cells_under st.frame.locals around
    → Stands r.code.body.ops begin part
    → behind (begin + size part) (slice_get r.code.body.ops (begin + size part)) ≡ Some target
    → Stands r.code.body.ops target rest
    → Chain p.linked r.code.function r.code.body.ops (target + size rest) v.used (length st.frame.locals) v.entries around v.labels v.frames
    → st.cells ≡ w.state.cells → st.frames ≡ w.state.frames → st.store ≡ w.state.store
    → Typed p v.function (in_block t part rest around st) → RunsOn p w 1 (in_block t part rest around st)
    → Reaches p w 1 (moved_to v begin (drop 1 v.cells) (block_label target (length (drop 1 v.cells)) t ∷ v.labels))
part_reaches p v w h r around st t part rest begin target cells_are inside closing after chain same_cells same_frames same typing runs =
    reaches_in p v w h r 1 begin (drop 1 v.cells) (block_label target (length (drop 1 v.cells)) t ∷ v.labels) (in_block t part rest around st)
    (opens p v w r around st t part rest begin target (drop 1 v.cells) cells_are inside closing after chain same_cells same_frames typing)
    same runs

if_reaches
    : (p : Program) (v : View) (t : Option ValType) (end n : ℕ) (inner rest : Sequence) (around : List Around) (st : State) → end ≡ v.place + 1 + size inner
    → slice_get v.cells 0 ≡ Some n
    → Holds p v (pending_at (InIf t inner rest) around st) → Running p v (pending_at (InIf t inner rest) around st) → (is_zero : Bool) → n == 0 ≡ is_zero
    → Reaches p (pending_at (InIf t inner rest) around st) 1 (if_view v t None end is_zero)
if_reaches p v t end n inner rest around st e top h r is_zero zero_is =
    let w = pending_at (InIf t inner rest) around st in
    let ops = r.code.body.ops in
    let c = if_typed p v.function t inner rest around st r.typing in
    let low = cells_under st.frame.locals around in
    let cells = cells_top st c.taken v.cells low r.cells c.takes in
    let same = number_is v.cells (numbers c.taken.under ++ low) n c.taken.number top cells in
    let dropped = ap (λ (ns : List ℕ). drop 1 ns) cells in
    let target : v.place + 2 + size inner ≡ end + 1 = omega (arith, e) in
    let stop : v.place + size (InIf t inner rest) ≡ end + 1 + size rest = omega (arith, e) in
    let past : v.place + 1 + size inner + 1 ≡ end + 1 = omega (arith, e) in
    let after = subst (λ (k : ℕ). Stands ops k rest) target r.here.3 in
    let chain = subst (λ (k : ℕ). Chain p.linked r.code.function ops k v.used (length st.frame.locals) v.entries around v.labels v.frames) stop r.chain in
    by is_zero c.taken c.takes (ap (λ (k : ℕ). k == 0) same ∙ zero_is) dropped after chain past c.then_typed c.else_typed
  where
    by
        : (b : Bool) (taken : Taken) → take_i32 st.operands ≡ Some taken → taken.number == 0 ≡ b
        → drop 1 v.cells ≡ numbers taken.under ++ cells_under st.frame.locals around
        → Stands r.code.body.ops (end + 1) rest
        → Chain p.linked r.code.function r.code.body.ops (end + 1 + size rest) v.used (length st.frame.locals) v.entries around v.labels v.frames
        → v.place + 1 + size inner + 1 ≡ end + 1
        → Typed p v.function (in_block t inner rest around (with_operands st taken.under)) → Typed p v.function (pending_at rest around (with_operands st taken.under))
        → Reaches p (pending_at (InIf t inner rest) around st) 1 (if_view v t None end b)
    by false taken takes chosen dropped after chain past one other =
        part_reaches p v (pending_at (InIf t inner rest) around st) h r around (with_operands st taken.under) t inner rest (v.place + 1) (end + 1) dropped r.here.1
        (ap (λ (o : Option Op). behind (v.place + 1 + size inner) o) r.here.2 ∙ ap (λ (k : ℕ). Some k) past)
        after chain refl refl refl one (if_runs p t inner rest around st taken takes chosen)
    by true taken takes chosen dropped after chain past one other =
        reaches_in p v (pending_at (InIf t inner rest) around st) h r 1 (end + 1) (drop 1 v.cells) v.labels (pending_at rest around (with_operands st taken.under))
        (record { here = after; chain = chain; cells_are = dropped; same_cells = refl; same_frames = refl; typing = other })
        refl (if_passes p t inner rest around st taken takes chosen)

if_else_reaches
    : (p : Program) (v : View) (t : Option ValType) (between end n : ℕ) (inner other rest : Sequence) (around : List Around) (st : State)
    → between ≡ v.place + 1 + size inner → end ≡ v.place + 2 + size inner + size other
    → slice_get v.cells 0 ≡ Some n
    → Holds p v (pending_at (InIfElse t inner other rest) around st) → Running p v (pending_at (InIfElse t inner other rest) around st) → (is_zero : Bool) → n == 0 ≡ is_zero
    → Reaches p (pending_at (InIfElse t inner other rest) around st) 1 (if_view v t (Some between) end is_zero)
if_else_reaches p v t between end n inner other rest around st b e top h r is_zero zero_is =
    let ops = r.code.body.ops in
    let c = if_else_typed p v.function t inner other rest around st r.typing in
    let low = cells_under st.frame.locals around in
    let cells = cells_top st c.taken v.cells low r.cells c.takes in
    let same = number_is v.cells (numbers c.taken.under ++ low) n c.taken.number top cells in
    let dropped = ap (λ (ns : List ℕ). drop 1 ns) cells in
    let target : v.place + 3 + size inner + size other ≡ end + 1 = omega (arith, e) in
    let stop : v.place + size (InIfElse t inner other rest) ≡ end + 1 + size rest = omega (arith, e) in
    let second : v.place + 2 + size inner ≡ between + 1 = omega (arith, b) in
    let last : v.place + 2 + size inner + size other ≡ between + 1 + size other = omega (arith, b) in
    let after = subst (λ (k : ℕ). Stands ops k rest) target r.here.5 in
    let chain = subst (λ (k : ℕ). Chain p.linked r.code.function ops k v.used (length st.frame.locals) v.entries around v.labels v.frames) stop r.chain in
    let other_stands = subst (λ (k : ℕ). Stands ops k other) second r.here.3 in
    let end_is : slice_get ops (between + 1 + size other) ≡ Some End = ap (λ (k : ℕ). slice_get ops k) (sym last) ∙ r.here.4 in
    let end_at : between + 1 + size other + 1 ≡ end + 1 = omega (arith, b, e) in
    let else_at : v.place + 2 + size inner + size other + 1 ≡ end + 1 = omega (arith, e) in
    by is_zero c.taken c.takes (ap (λ (k : ℕ). k == 0) same ∙ zero_is) dropped after chain other_stands end_is end_at else_at c.then_typed c.else_typed
  where
    by
        : (b : Bool) (taken : Taken) → take_i32 st.operands ≡ Some taken → taken.number == 0 ≡ b
        → drop 1 v.cells ≡ numbers taken.under ++ cells_under st.frame.locals around
        → Stands r.code.body.ops (end + 1) rest
        → Chain p.linked r.code.function r.code.body.ops (end + 1 + size rest) v.used (length st.frame.locals) v.entries around v.labels v.frames
        → Stands r.code.body.ops (between + 1) other → slice_get r.code.body.ops (between + 1 + size other) ≡ Some End
        → between + 1 + size other + 1 ≡ end + 1 → v.place + 2 + size inner + size other + 1 ≡ end + 1
        → Typed p v.function (in_block t inner rest around (with_operands st taken.under)) → Typed p v.function (in_block t other rest around (with_operands st taken.under))
        → Reaches p (pending_at (InIfElse t inner other rest) around st) 1 (if_view v t (Some between) end b)
    by false taken takes chosen dropped after chain other_stands end_is end_at else_at one two =
        part_reaches p v (pending_at (InIfElse t inner other rest) around st) h r around (with_operands st taken.under) t inner rest (v.place + 1) (end + 1) dropped r.here.1
        (ap (λ (o : Option Op). behind (v.place + 1 + size inner) o) r.here.2 ∙ ap (λ (k : ℕ). Some k) else_at)
        after chain refl refl refl one (then_runs p t inner other rest around st taken takes chosen)
    by true taken takes chosen dropped after chain other_stands end_is end_at else_at one two =
        part_reaches p v (pending_at (InIfElse t inner other rest) around st) h r around (with_operands st taken.under) t other rest (between + 1) (end + 1) dropped other_stands
        (ap (λ (o : Option Op). behind (between + 1 + size other) o) end_is ∙ ap (λ (k : ℕ). Some k) end_at)
        after chain refl refl refl two (else_runs p t inner other rest around st taken takes chosen)

pub if_moves
    : (p : Program) (v : View) (t : Option ValType) (other : Option ℕ) (end n : ℕ) (is_zero : Bool) → op_at p v ≡ Some (If t other end) → slice_get v.cells 0 ≡ Some n → n == 0 ≡ is_zero
    → Moves p v (if_view v t other end is_zero) 1
if_moves p v t None end n is_zero at top chosen = record {
  moves = λ w h.
      let r = running_of p v w (If t None end) h at tt in
      let b = if_here r.code.body.ops v.place w.sequence t end (place_of p v w r (If t None end) at) in
      let s = InIf t b.inner b.rest in
      untold (λ (x : Pending). Reaches p x 1 (if_view v t None end is_zero)) w s b.is
      (if_reaches p v t end n b.inner b.rest w.around w.state b.end_is top (told (λ (x : Pending). Holds p v x) w s b.is h) (told (λ (x : Pending). Running p v x) w s b.is r) is_zero chosen);
}
if_moves p v t (Some between) end n is_zero at top chosen = record {
  moves = λ w h.
      let r = running_of p v w (If t (Some between) end) h at tt in
      let b = if_else_here r.code.body.ops v.place w.sequence t between end (place_of p v w r (If t (Some between) end) at) in
      let s = InIfElse t b.inner b.other b.rest in
      untold (λ (x : Pending). Reaches p x 1 (if_view v t (Some between) end is_zero)) w s b.is
      (if_else_reaches p v t between end n b.inner b.other b.rest w.around w.state b.between_is b.end_is top (told (λ (x : Pending). Holds p v x) w s b.is h) (told (λ (x : Pending). Running p v x) w s b.is r) is_zero chosen);
}

-- the number is there
pub if_has_number : (p : Program) (v : View) (t : Option ValType) (other : Option ℕ) (end : ℕ) → IsState p v → op_at p v ≡ Some (If t other end) → 0 < length v.cells
if_has_number p v t None end state at =
    let w = state.pending in
    let r = running_of p v w (If t None end) state.holds at tt in
    let b = if_here r.code.body.ops v.place w.sequence t end (place_of p v w r (If t None end) at) in
    let r' = told (λ (x : Pending). Running p v x) w (InIf t b.inner b.rest) b.is r in
    let c = if_typed p v.function t b.inner b.rest w.around w.state r'.typing in
    let cells = cells_top w.state c.taken v.cells (cells_under w.state.frame.locals w.around) r'.cells c.takes in
    let long = ap (λ (ns : List ℕ). length ns) cells in
    omega (arith, long)
if_has_number p v t (Some between) end state at =
    let w = state.pending in
    let r = running_of p v w (If t (Some between) end) state.holds at tt in
    let b = if_else_here r.code.body.ops v.place w.sequence t between end (place_of p v w r (If t (Some between) end) at) in
    let r' = told (λ (x : Pending). Running p v x) w (InIfElse t b.inner b.other b.rest) b.is r in
    let c = if_else_typed p v.function t b.inner b.other b.rest w.around w.state r'.typing in
    let cells = cells_top w.state c.taken v.cells (cells_under w.state.frame.locals w.around) r'.cells c.takes in
    let long = ap (λ (ns : List ℕ). length ns) cells in
    omega (arith, long)
