-- A call that ends: what it comes back with, and what the vessel then stands for.
use Rattle.std.proofs.Common.{◌≡◌, ℕ, ◌+◌, ◌-◌, ◌≤◌, Bool, inl, inr, ◌⊎◌, List, [], ◌∷◌, ◌++◌, length, take, drop, reverse, Option, Some, None, slice_get, is_some, refl, sym, ap, subst, ◌∙◌, append_assoc, length-append, option_map, arith}
use Rattle.wasm_ops.specs.declared.modules.Module.{Module}
use Rattle.wasm_ops.specs.declared.operators.Op.{Op}
use Rattle.wasm_ops.specs.declared.operators.Op.TheVariants.{End}
use Rattle.wasm_ops.specs.declared.types.ValType.{ValType}
use Rattle.wasm_ops.specs.Sequence.{Sequence, size}
use Rattle.wasm_meaning.specs.Execution.{kept, Caller, left_call}
use Rattle.wasm_meaning.specs.Pending.{Around, AroundBlock, AroundLoop, AroundCall, Entering, Pending, entering}
use Rattle.wasm_meaning.specs.Programs.{Program}
use Rattle.wasm_meaning.specs.State.{Function, Store, State}
use Rattle.wasm_meaning.specs.Values.{Value, numbers}
use Rattle.wasm_meaning.specs.TypingOperands.{Walk}
use Rattle.wasm_pending.specs.Frames.{open_in, caller_in}
use Rattle.wasm_pending.specs.Steps.{pending_at, past_call}
use Rattle.wasm_pending.specs.Typed.{OnlyEntries, TypedAround, Typed, Idle}
use Rattle.wasm_store.specs.Stacks.{kept as count_kept, cut}
use Rattle.wasm_store.specs.View.{View, returned}
use Rattle.wasm_store.specs.declared.calls.Frame.{Frame}
use Rattle.wasm_store.specs.declared.labels.Label.{Label}
use Rattle.wasm_states.specs.Chains.{cells_under, height_under, Chain}
use Rattle.wasm_states.specs.Codes.{operator_at}
use Rattle.wasm_states.specs.Holding.{Holds}
use Rattle.wasm_states.specs.Running.{Running, StandsFor}
use Rattle.wasm_states.proofs.ChainLaws.{length-numbers, length-cells_under, laid_on, cut_to, kept_top, kept_within}
use Rattle.wasm_states.proofs.StateLaws.{border_of, call_of, room_of}

-- what a call comes back with
pub record ComesWith (t : Option ValType) (caller : Caller) (rest : Sequence) (outer : List Around) (st : State) (w' : Pending) : Type 0 where
  pub values : List Value
  pub kept_is : kept t st.operands ≡ Some values
  pub is : w' ≡ pending_at rest outer (left_call caller st values)

pub comes_with : (t : Option ValType) (caller : Caller) (rest : Sequence) (outer : List Around) (st : State) (w' : Pending) → past_call t caller rest outer st ≡ Some w' → ComesWith t caller rest outer st w'
comes_with t caller rest outer st w' e = by (kept t st.operands) refl e
  where
    by
        : (o : Option (List Value)) → kept t st.operands ≡ o → option_map (λ values. pending_at rest outer (left_call caller st values)) o ≡ Some w'
        → ComesWith t caller rest outer st w'
    by None is e = let bad : ⊥ = cc in absurd bad
    by (Some values) is e =
        let same : pending_at rest outer (left_call caller st values) ≡ w' = cc in
        record { values = values; kept_is = is; is = sym same }

pub no_typed_entries : (m : Module) (f : Function) (end : Walk) (entries : List ℕ) → TypedAround m f end (entering entries) → ⊥
no_typed_entries m f end [] outside = outside
no_typed_entries m f end (e ∷ entries) outside = outside

no_entry_chain
    : (m : Module) (function : Function) (ops : List Op) (stop used locals : ℕ) (entries : List ℕ) (around : List Around) (labels : List Label) (frames : List Frame)
    → Chain m function ops stop used locals entries around labels frames → OnlyEntries m around → ⊥
no_entry_chain m function ops stop used locals entries [] labels frames chain only = chain
no_entry_chain m function ops stop used locals entries (AroundBlock t base rest ∷ around) labels frames chain only = only
no_entry_chain m function ops stop used locals entries (AroundLoop t base body rest ∷ around) labels frames chain only = only
no_entry_chain m function ops stop used locals entries (AroundCall t number caller rest ∷ around) labels frames chain only = only
no_entry_chain m function ops stop used locals entries (Entering number ∷ around) labels frames chain only = chain

-- a vessel that has left its call
abbrev pub left_view : View → (cells : List ℕ) → (keep : Bool) → Frame → View
left_view v cells keep f = returned keep f (record v { cells = cells })

-- the cells that are left
left_cells
    : (t : Option ValType) (st : State) (caller : Caller) (outer : List Around) (locals : List Value) (cells front : List ℕ) (values : List Value) (base : ℕ)
    → cells ≡ numbers st.operands ++ (front ++ (reverse (numbers locals) ++ (numbers caller.operands ++ cells_under caller.frame.locals outer)))
    → base ≡ length caller.operands + height_under (length caller.frame.locals) outer → kept t st.operands ≡ Some values
    → cut (count_kept (is_some t)) base cells ≡ numbers (values ++ caller.operands) ++ cells_under caller.frame.locals outer
left_cells t st caller outer locals cells front values base is base_is kept_is =
    let low = numbers caller.operands ++ cells_under caller.frame.locals outer in
    let upper = numbers st.operands ++ (front ++ reverse (numbers locals)) in
    let whole : cells ≡ upper ++ low
    = is ∙ ap (λ (ns : List ℕ). numbers st.operands ++ ns) (sym (append_assoc front (reverse (numbers locals)) low)) ∙ sym (append_assoc (numbers st.operands) (front ++ reverse (numbers locals)) low) in
    let long : length low ≡ base
    = length-append (numbers caller.operands) (cells_under caller.frame.locals outer)
    ∙ ap (λ (n : ℕ). n + length (cells_under caller.frame.locals outer)) (length-numbers caller.operands)
    ∙ ap (λ (n : ℕ). length caller.operands + n) (length-cells_under caller.frame.locals outer)
    ∙ sym base_is in
    cut_to (count_kept (is_some t)) base cells upper low whole long
    ∙ ap (λ (ns : List ℕ). ns ++ low) (
    ap (λ (ns : List ℕ). take (count_kept (is_some t)) ns) is
    ∙ kept_top t st.operands values (front ++ (reverse (numbers locals) ++ low)) kept_is
    )
    ∙ laid_on values caller.operands (cells_under caller.frame.locals outer)

nothing_kept : (operands values : List Value) → kept None operands ≡ Some values → values ≡ []
nothing_kept operands values e = let none : [] ≡ values = cc in sym none

-- back in the caller, or where nothing but entries is left
left_stands
    : (p : Program) (v : View) (function : Function) (ops : List Op) (stop : ℕ) (locals : List Value) (t : Option ValType) (number : ℕ) (caller : Caller) (rest : Sequence) (outer : List Around)
    → (labels : List Label) (frames : List Frame) (st : State) (f : Frame) (cells front : List ℕ) (values : List Value)
    → Chain p.linked function ops stop v.used (length locals) v.entries (AroundCall t number caller rest ∷ outer) labels frames
    → v.frames ≡ frames → slice_get frames 0 ≡ Some f → drop (length v.labels - f.opened) v.labels ≡ labels
    → cells ≡ numbers st.operands ++ (front ++ (reverse (numbers locals) ++ (numbers caller.operands ++ cells_under caller.frame.locals outer)))
    → kept t st.operands ≡ Some values
    → length v.frames ≡ st.frames → v.used ≤ 65536 → length v.frames ≤ 4096
    → Typed p number (pending_at rest outer (left_call caller st values)) ⊎ Idle p (pending_at rest outer (left_call caller st values))
    → StandsFor p (left_view v cells (is_some function.result) f) (pending_at rest outer (left_call caller st values))
left_stands p v function ops stop locals t number caller rest outer labels [] st f cells front values chain frames_are live labels_are cells_are kept_is counted few_cells few_frames goes = absurd chain
left_stands p v function ops stop locals t number caller rest outer labels (g ∷ []) st f cells front values chain frames_are live labels_are cells_are kept_is counted few_cells few_frames (inl typing) =
    let none = subst (λ (xs : List Around). TypedAround p.linked typing.runs typing.last xs) chain.1.entries_are typing.outside in
    absurd (no_typed_entries p.linked typing.runs typing.last v.entries none)
left_stands p v function ops stop locals t number caller rest outer labels (g ∷ []) st f cells front values chain frames_are live labels_are cells_are kept_is counted few_cells few_frames (inr idle) =
    let same : g ≡ f = cc in
    let border = chain.0 in
    let low = chain.1 in
    let below = ap (λ (x : Frame). x.below) same in
    let zero_below = border.below ∙ low.outermost.no_cells in
    let base : f.base ≡ length caller.operands + height_under (length caller.frame.locals) outer = sym (ap (λ (x : Frame). x.base) same) ∙ border.base in
    let none : values ≡ [] = nothing_kept st.operands values (subst (λ (x : Option ValType). kept x st.operands ≡ Some values) low.outermost.no_result kept_is) in
    let left = left_cells t st caller outer locals cells front values f.base cells_are base kept_is in
    let count = ap (λ (fs : List Frame). length fs) frames_are in
    inr (record {
      entries_are = low.entries_are;
      no_cells = ap (λ (x : Option ValType). cut (count_kept (is_some x)) f.base cells) (sym border.result)
          ∙ left
          ∙ ap (λ (vs : List Value). numbers (vs ++ caller.operands) ++ cells_under caller.frame.locals outer) none
          ∙ ap (λ (vs : List Value). numbers vs ++ cells_under caller.frame.locals outer) low.outermost.no_operands
          ∙ ap (λ (xs : List Around). cells_under caller.frame.locals xs) low.entries_are
          ∙ nothing_under v.entries caller.frame.locals;
      no_labels = labels_are ∙ low.no_labels;
      no_frames = ap (λ (fs : List Frame). drop 1 fs) frames_are;
      unused = sym below ∙ zero_below;
      none_live = omega (arith, counted, count);
      rests = subst (λ (x : Frame). operator_at p.linked x.function x.place ≡ Some End) same low.rests;
      typing = idle;
    })
  where
    nothing_under : (entries : List ℕ) (values : List Value) → cells_under values (entering entries) ≡ []
    nothing_under [] values = refl
    nothing_under (e ∷ entries) values = refl
left_stands p v function ops stop locals t number caller rest outer labels (g ∷ k ∷ frames) st f cells front values chain frames_are live labels_are cells_are kept_is counted few_cells few_frames (inr idle) =
    absurd (no_entry_chain p.linked chain.1.code.function chain.1.code.body.ops (g.place + size rest) g.below (length caller.frame.locals) v.entries outer labels (k ∷ frames) chain.2 idle.entries)
left_stands p v function ops stop locals t number caller rest outer labels (g ∷ k ∷ frames) st f cells front values chain frames_are live labels_are cells_are kept_is counted few_cells few_frames (inl typing) =
    let same : g ≡ f = cc in
    let border = chain.0 in
    let back = chain.1 in
    let more = chain.2 in
    let base : f.base ≡ length caller.operands + height_under (length caller.frame.locals) outer = sym (ap (λ (x : Frame). x.base) same) ∙ border.base in
    let left = left_cells t st caller outer locals cells front values f.base cells_are base kept_is in
    let count = ap (λ (fs : List Frame). length fs) frames_are in
    let total = border.total in
    let dropped : drop 1 v.frames ≡ k ∷ frames = ap (λ (fs : List Frame). drop 1 fs) frames_are in
    let cells_left : cut (count_kept (is_some function.result)) f.base cells ≡ numbers (values ++ caller.operands) ++ cells_under caller.frame.locals outer
    = ap (λ (x : Option ValType). cut (count_kept (is_some x)) f.base cells) (sym border.result) ∙ left in
    let typing' = subst (λ (j : ℕ). Typed p j (pending_at rest outer (left_call caller st values))) back.same typing in
    let short : length (k ∷ frames) ≤ 4096 = omega (arith, count, few_frames) in
    inl (
    subst (λ (x : Frame). Running p (left_view v cells (is_some function.result) x) (pending_at rest outer (left_call caller st values))) same
    (record {
      code = back.code;
      here = back.stands;
      chain = subst (λ (ls : List Label). Chain p.linked back.code.function back.code.body.ops (g.place + size rest) g.below (length caller.frame.locals) v.entries outer ls (drop 1 v.frames)) (sym (subst (λ (x : Frame). drop (length v.labels - x.opened) v.labels ≡ labels) (sym same) labels_are))
          (subst (λ (fs : List Frame). Chain p.linked back.code.function back.code.body.ops (g.place + size rest) g.below (length caller.frame.locals) v.entries outer labels fs) (sym dropped) more);
      cells = ap (λ (x : Frame). cut (count_kept (is_some function.result)) x.base cells) same ∙ cells_left;
      used = border.below;
      live = live_after (length (drop 1 v.frames)) (length (k ∷ frames)) (ap (λ (fs : List Frame). length fs) dropped) (omega (arith, count, counted));
      few_cells = omega (arith, total, few_cells);
      few_frames = subst (λ (fs : List Frame). length fs ≤ 4096) (sym dropped) short;
      typing = typing';
    })
    )
  where
    live_after : (n m : ℕ) → n ≡ m → m ≡ st.frames - 1 → n ≡ st.frames - 1
    live_after n m a b = a ∙ b

-- the frame of the call that runs, and where its labels end
record Below (p : Program) (v : View) (w : Pending) (r : Running p v w) (f : Frame) : Type 0 where
  labels_are : drop (length v.labels - f.opened) v.labels ≡ drop (open_in w.around) v.labels

below : (p : Program) (v : View) (w : Pending) (r : Running p v w) (f : Frame) → slice_get v.frames 0 ≡ Some f → Below p v w r f
below p v w r f live =
    let room = room_of p v w r in
    let same : room.f ≡ f = given room.f f (slice_get v.frames 0) room.found live in
    let opened = ap (λ (g : Frame). g.opened) same in
    let labels = room.labels in
    let count : length v.labels - f.opened ≡ open_in w.around = omega (arith, labels, opened) in
    record { labels_are = ap (λ (n : ℕ). drop n v.labels) count }
  where
    given : (x y : Frame) (o : Option Frame) → o ≡ Some x → o ≡ Some y → x ≡ y
    given x y o e f = cc

pub left_holds
    : (p : Program) (v : View) (w : Pending) (h : Holds p v w) (r : Running p v w) (st : State) (cells : List ℕ) (f : Frame) (w' : Pending) → slice_get v.frames 0 ≡ Some f
    → cells ≡ numbers st.operands ++ cells_under w.state.frame.locals w.around → st.frames ≡ w.state.frames → st.store ≡ w.state.store
    → past_call (call_of p v w r).t (call_of p v w r).caller (call_of p v w r).rest (call_of p v w r).outer st ≡ Some w'
    → Typed p (caller_in w.around) w' ⊎ Idle p w'
    → Holds p (left_view v cells (is_some r.code.function.result) f) w'
left_holds p v w h r st cells f w' live cells_are same_frames same back goes =
    let c = call_of p v w r in
    let b = comes_with c.t c.caller c.rest c.outer st w' back in
    let under = c.under w.state.frame.locals in
    let counted : length v.frames ≡ st.frames = r.live ∙ sym same_frames in
    let goes' = subst (λ (j : ℕ). Typed p j (pending_at c.rest c.outer (left_call c.caller st b.values)) ⊎ Idle p (pending_at c.rest c.outer (left_call c.caller st b.values))) c.called
    (subst (λ (x : Pending). Typed p (caller_in w.around) x ⊎ Idle p x) b.is goes) in
    let stands = left_stands p v r.code.function r.code.body.ops c.stop w.state.frame.locals c.t c.number c.caller c.rest c.outer (drop (open_in w.around) v.labels) v.frames st f cells under.0 b.values
    c.chain refl live (below p v w r f live).labels_are (cells_are ∙ ap (λ (ns : List ℕ). numbers st.operands ++ ns) under.1) b.kept_is counted r.few_cells r.few_frames goes' in
    subst (λ (x : Pending). Holds p (left_view v cells (is_some r.code.function.result) f) x) (sym b.is)
    (record {
      program = h.program;
      stands = stands;
      store = record {
        memory = h.store.memory ∙ ap (λ (s : Store). s.memory) (sym same);
        globals = h.store.globals ∙ ap (λ (s : Store). numbers s.globals) (sym same);
        table = h.store.table ∙ ap (λ (s : Store). s.table) (sym same);
        room = h.store.room;
      };
      few_entries = h.few_entries;
    })

-- what a call that comes back needs: its result lies over its locals
pub record LeftFits (p : Program) (v : View) (cells : List ℕ) (keep : Bool) (f : Frame) : Type 0 where
  pub cells_fit : f.base + count_kept keep ≤ length cells
  pub labels_fit : f.opened ≤ length v.labels

pub left_fits
    : (p : Program) (v : View) (w : Pending) (h : Holds p v w) (r : Running p v w) (st : State) (cells : List ℕ) (f : Frame) (w' : Pending) → slice_get v.frames 0 ≡ Some f
    → cells ≡ numbers st.operands ++ cells_under w.state.frame.locals w.around
    → past_call (call_of p v w r).t (call_of p v w r).caller (call_of p v w r).rest (call_of p v w r).outer st ≡ Some w'
    → LeftFits p v cells (is_some r.code.function.result) f
left_fits p v w h r st cells f w' live cells_are back =
    let c = call_of p v w r in
    let b = comes_with c.t c.caller c.rest c.outer st w' back in
    let at = border_of p.linked r.code.function r.code.body.ops c.stop v.used (length w.state.frame.locals) v.entries c.t c.number c.caller c.rest c.outer (drop (open_in w.around) v.labels) v.frames c.chain in
    let same : at.f ≡ f = given at.f f (slice_get v.frames 0) at.found live in
    let base = at.border.base in
    let base_same = ap (λ (g : Frame). g.base) same in
    let opened = at.border.opened in
    let opened_same = ap (λ (g : Frame). g.opened) same in
    let count = c.count in
    let enough = subst (λ (x : Option ValType). count_kept (is_some x) ≤ length st.operands) at.border.result (kept_within c.t st.operands b.values b.kept_is) in
    let long = ap (λ (ns : List ℕ). length ns) cells_are ∙ length-append (numbers st.operands) (cells_under w.state.frame.locals w.around) in
    let ops = length-numbers st.operands in
    let low = length-cells_under w.state.frame.locals w.around in
    let height = c.height in
    record {
      cells_fit = omega (arith, base, base_same, enough, long, ops, low, height);
      labels_fit = omega (arith, opened, opened_same, count);
    }
  where
    given : (x y : Frame) (o : Option Frame) → o ≡ Some x → o ≡ Some y → x ≡ y
    given x y o e f = cc
