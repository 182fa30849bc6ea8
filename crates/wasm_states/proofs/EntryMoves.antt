-- Entries from outside, and the end of all.
use Rattle.std.proofs.Common.{◌≡◌, ℕ, ◌+◌, ◌<◌, true, false, inl, inr, ◌⊎◌, List, [], ◌∷◌, ◌++◌, length, drop, map, Option, Some, None, slice_get, refl, sym, ap, subst, ◌∙◌, arith}
use Rattle.wasm_ops.specs.declared.operators.Op.TheVariants.{End}
use Rattle.wasm_ops.specs.declared.traps.Trap.TheVariants.{StackExhausted}
use Rattle.wasm_ops.specs.Sequence.{Sequence, Done, size}
use Rattle.wasm_meaning.specs.Bytes.{zeros}
use Rattle.wasm_meaning.specs.Control.{Arguments, take_arguments}
use Rattle.wasm_meaning.specs.Execution.{caller_of, cells_of}
use Rattle.wasm_meaning.specs.Pending.{Around, AroundCall, Entering, Pending, entering}
use Rattle.wasm_meaning.specs.Programs.{Program, defined}
use Rattle.wasm_meaning.specs.State.{Function, State, Fell, Trapped}
use Rattle.wasm_meaning.specs.Values.{Value, numbers, zero_of}
use Rattle.wasm_meaning.proofs.ModuleFacts.{is_within}
use Rattle.wasm_pending.specs.Steps.{pending_at, in_call}
use Rattle.wasm_pending.specs.Typed.{TypedAround, Outermost, CallerTyped, Typed, Idle}
use Rattle.wasm_pending.proofs.Calls.{entry_typed}
use Rattle.wasm_store.specs.View.{View}
use Rattle.wasm_store.specs.declared.calls.Frame.{Frame}
use Rattle.wasm_store.specs.declared.labels.Label.{Label}
use Rattle.wasm_states.specs.Calling.{has_room_for, entry_view}
use Rattle.wasm_states.specs.Chains.{cells_under, height_under, Border, Lowest, Chain}
use Rattle.wasm_states.specs.Codes.{Stands}
use Rattle.wasm_states.specs.Holding.{Holds, IsState, free_moves}
use Rattle.wasm_states.specs.Running.{Running, Resting}
use Rattle.wasm_states.specs.Steps.{RunsOut, Reaches, Moves, Stops}
use Rattle.wasm_states.proofs.LeaveLaws.{no_typed_entries}
use Rattle.wasm_states.proofs.CallMoves.{fits_of, room_same, frame_of, locals_lie}
use Rattle.wasm_states.proofs.CodeLaws.{code_of, is_code}
use Rattle.wasm_states.proofs.RunLaws.{enters_run, enters_trap, done_out}
use Rattle.wasm_states.proofs.StateLaws.{room_of}

-- where no call is live, the code rests
pub resting_of : (p : Program) (v : View) (w : Pending) → Holds p v w → length v.frames ≡ 0 → Resting p v w
resting_of p v w h none = by h.stands
  where
    by : Running p v w ⊎ Resting p v w → Resting p v w
    by (inl r) =
        let room = room_of p v w r in
        let lt = is_within v.frames 0 room.f room.found in
        let bad : ⊥ = omega (arith, none, lt) in absurd bad
    by (inr rests) = rests

pub no_frames : (fs : List Frame) → length fs ≡ 0 → fs ≡ []
no_frames [] e = refl
no_frames (f ∷ fs) e = let bad : ⊥ = omega (arith, e) in absurd bad

-- the next entry stands first
record NextEntry (entries : List ℕ) (number : ℕ) : Type 0 where
  more : List ℕ
  is : entries ≡ number ∷ more

next_entry : (entries : List ℕ) (number : ℕ) → slice_get entries 0 ≡ Some number → NextEntry entries number
next_entry [] number e = let bad : ⊥ = cc in absurd bad
next_entry (j ∷ entries) number e = let same : j ≡ number = cc in record { more = entries; is = ap (λ (k : ℕ). k ∷ entries) same }

entry_outermost
    : (p : Program) (f : Function) (tag : ℕ) (taken : Arguments) (entries : List ℕ) (st : State) (number : ℕ) → Typed p number (in_call f tag taken Done (entering entries) st)
    → Outermost p.linked f.result (caller_of st taken.under) Done (entering entries)
entry_outermost p f tag taken entries st number typing = by typing.outside.1
  where
    by
        : Outermost p.linked f.result (caller_of st taken.under) Done (entering entries)
        ⊎ ((c : CallerTyped p.linked f.result tag (caller_of st taken.under) Done (entering entries)) × TypedAround p.linked c.runs c.last (entering entries))
        → Outermost p.linked f.result (caller_of st taken.under) Done (entering entries)
    by (inl out) = out
    by (inr more) = absurd (no_typed_entries p.linked more.0.runs more.0.last entries more.1)

-- the function and its entry
pub record EntersWith (p : Program) (v : View) (number : ℕ) (f : Function) : Type 0 where
  pub none_live : length v.frames ≡ 0
  pub next : slice_get v.entries 0 ≡ Some number
  pub known : slice_get (defined p.linked) number ≡ Some f

-- what is pending before an entry
record BeforeEntry (p : Program) (v : View) (w : Pending) (number : ℕ) : Type 0 where
  more : List ℕ
  entries_are : v.entries ≡ number ∷ more
  whole : w ≡ pending_at Done (Entering number ∷ entering more) w.state
  idle : Idle p (pending_at Done (Entering number ∷ entering more) w.state)

before_entry : (p : Program) (v : View) (w : Pending) (number : ℕ) → Resting p v w → slice_get v.entries 0 ≡ Some number → BeforeEntry p v w number
before_entry p v w number rests next =
    let n = next_entry v.entries number next in
    let around : w.around ≡ Entering number ∷ entering n.more = rests.entries_are ∙ ap (λ (es : List ℕ). entering es) n.is in
    let whole : w ≡ pending_at Done (Entering number ∷ entering n.more) w.state
    = ap (λ (s : Sequence). record w { sequence = s }) rests.typing.no_sequence ∙ ap (λ (xs : List Around). pending_at Done xs w.state) around in
    record { more = n.more; entries_are = n.is; whole = whole; idle = subst (λ (x : Pending). Idle p x) whole rests.typing }

entry_stands
    : (p : Program) (v : View) (w : Pending) (number : ℕ) (f : Function) (more : List ℕ) (taken : Arguments) → Holds p v w → (rests : Resting p v w) → EntersWith p v number f
    → v.entries ≡ number ∷ more → take_arguments f.params w.state.operands ≡ Some taken → f.params ≡ []
    → Typed p number (in_call f number taken Done (entering more) w.state) → has_room_for (cells_of f) v ≡ true
    → Running p (entry_view number (length f.locals) (cells_of f) v) (in_call f number taken Done (entering more) w.state)
entry_stands p v w number f more taken h rests e entries_are takes no_params typing room =
    let st = w.state in
    let made = code_of p.linked number f e.known in
    let code = is_code p.linked h.program.formed number made.0 in
    let frame = frame_of v (length v.cells) 0 in
    let caller = caller_of st taken.under in
    let same_function : made.0.function ≡ f = made.1 in
    let out = entry_outermost p f number taken more st number typing in
    let no_cells = ap (λ (ns : List ℕ). length ns) rests.no_cells in
    let no_under = ap (λ (vs : List Value). length vs) out.no_operands in
    let nothing : height_under (length st.frame.locals) (entering more) ≡ 0 = none_under more (length st.frame.locals) in
    let no_labels = ap (λ (ls : List Label). length ls) rests.no_labels in
    let unused = rests.unused in
    let border : Border f made.0.body.ops (0 + size f.body) (v.used + cells_of f) frame f.result (length taken.under + height_under (length st.frame.locals) (entering more)) (length v.labels) caller = record {
      closes = subst (λ (g : Function). slice_get made.0.body.ops (0 + size g.body) ≡ Some End) same_function (ap (λ (k : ℕ). slice_get made.0.body.ops k) (no_place (size made.0.function.body)) ∙ code.whole.closes);
      result = refl;
      base = omega (arith, no_cells, no_under, nothing);
      opened = refl;
      below = unused ∙ sym rests.typing.no_cells;
      total = refl;
      counted = omega (arith, no_cells, no_labels);
    } in
    let lowest : Lowest p.linked frame f.result caller Done (drop 1 v.entries) (entering more) v.labels = record {
      outermost = out;
      no_labels = rests.no_labels;
      entries_are = ap (λ (es : List ℕ). entering (drop 1 es)) (sym entries_are);
      rests = rests.rests;
    } in
    let frames_are = no_frames v.frames e.none_live in
    let chain : Chain p.linked f made.0.body.ops (0 + size f.body) (v.used + cells_of f) (length (taken.arguments ++ map zero_of f.locals)) (drop 1 v.entries) (AroundCall f.result number caller Done ∷ entering more) v.labels (frame ∷ v.frames)
    = subst (λ (fs : List Frame). Chain p.linked f made.0.body.ops (0 + size f.body) (v.used + cells_of f) (length (taken.arguments ++ map zero_of f.locals)) (drop 1 v.entries) (AroundCall f.result number caller Done ∷ entering more) v.labels (frame ∷ fs)) (sym frames_are) (border, lowest) in
    let none_there : cells_under st.frame.locals (entering more) ≡ [] = no_cells_under more st.frame.locals in
    let cells_here : v.cells ≡ numbers st.operands ++ cells_under st.frame.locals (entering more)
    = rests.no_cells ∙ sym (ap (λ (vs : List Value). numbers vs ++ cells_under st.frame.locals (entering more)) rests.typing.no_operands ∙ none_there) in
    let fits = fits_of v (cells_of f) room in
    let live_none = rests.none_live in
    let live = e.none_live in
    record {
      code = record made.0 { function = f; known = e.known };
      here = subst (λ (g : Function). Stands made.0.body.ops 0 g.body) same_function code.whole.stands;
      chain = chain;
      cells = ap (λ (ns : List ℕ). zeros (length f.locals) ++ ns) cells_here ∙ locals_lie f.params f.locals st.operands taken (cells_under st.frame.locals (entering more)) takes;
      used = ap (λ (n : ℕ). n + cells_of f) (unused ∙ sym rests.typing.no_cells);
      live = omega (arith, live_none, live);
      few_cells = fits.few_cells;
      few_frames = omega (arith, live);
      typing = typing;
    }
  where
    no_place : (n : ℕ) → 0 + n ≡ n
    no_place n = omega arith

    none_under : (es : List ℕ) (locals : ℕ) → height_under locals (entering es) ≡ 0
    none_under [] locals = refl
    none_under (j ∷ es) locals = refl

    no_cells_under : (es : List ℕ) (values : List Value) → cells_under values (entering es) ≡ []
    no_cells_under [] values = refl
    no_cells_under (j ∷ es) values = refl

no_params_of : (p : Program) (number : ℕ) (f : Function) (more : List ℕ) (st : State) → Idle p (pending_at Done (Entering number ∷ entering more) st) → slice_get (defined p.linked) number ≡ Some f → f.params ≡ []
no_params_of p number f more st idle known =
    let can = idle.entries.0 in
    let same : can.runs ≡ f = given can.runs f (slice_get (defined p.linked) number) can.is known in
    ap (λ (g : Function). g.params) (sym same) ∙ can.no_params
  where
    given : (x y : Function) (o : Option Function) → o ≡ Some x → o ≡ Some y → x ≡ y
    given x y o e f = cc

pub entry_moves
    : (p : Program) (v : View) (number : ℕ) (f : Function) → EntersWith p v number f → has_room_for (cells_of f) v ≡ true
    → Moves p v (entry_view number (length f.locals) (cells_of f) v) 0
entry_moves p v number f e room = record {
  moves = λ w h.
      let rests = resting_of p v w h e.none_live in
      let b = before_entry p v w number rests e.next in
      let enters = entry_typed p h.program number number f (entering b.more) w.state b.idle e.known in
      let stands = entry_stands p v w number f b.more enters.taken h rests e b.entries_are enters.takes (no_params_of p number f b.more w.state b.idle e.known) enters.typed room in
      let same = room_same v w.state f (cells_of f) (e.none_live ∙ sym rests.none_live) (rests.unused ∙ sym rests.typing.no_cells) refl in
      let fewer = ap (λ (es : List ℕ). length (drop 1 es)) b.entries_are in
      let few = h.few_entries in
      let count = ap (λ (es : List ℕ). length es) b.entries_are in
      subst (λ (x : Pending). Reaches p x 0 (entry_view number (length f.locals) (cells_of f) v)) (sym b.whole)
      (record {
        pending = in_call f number enters.taken Done (entering b.more) w.state;
        holds = record {
          program = h.program;
          stands = inl stands;
          store = record { memory = h.store.memory; globals = h.store.globals; table = h.store.table; room = h.store.room };
          few_entries = omega (arith, fewer, few, count);
        };
        runs = enters_run p number (entering b.more) w.state f enters.taken e.known enters.takes (same ∙ room);
      });
}

pub entry_stops
    : (p : Program) (v : View) (number : ℕ) (f : Function) → EntersWith p v number f → has_room_for (cells_of f) v ≡ false
    → Stops p v 0 (Trapped StackExhausted)
entry_stops p v number f e none = record {
  stops = λ w h.
      let rests = resting_of p v w h e.none_live in
      let b = before_entry p v w number rests e.next in
      let enters = entry_typed p h.program number number f (entering b.more) w.state b.idle e.known in
      let same = room_same v w.state f (cells_of f) (e.none_live ∙ sym rests.none_live) (rests.unused ∙ sym rests.typing.no_cells) refl in
      subst (λ (x : Pending). RunsOut p x 0 (Trapped StackExhausted)) (sym b.whole)
      (enters_trap p number (entering b.more) w.state f enters.taken e.known enters.takes (same ∙ none));
}

-- the entry is one of the module's own functions
pub entry_known : (p : Program) (v : View) (number : ℕ) → IsState p v → length v.frames ≡ 0 → slice_get v.entries 0 ≡ Some number → number < length (defined p.linked)
entry_known p v number state none next =
    let rests = resting_of p v state.pending state.holds none in
    let b = before_entry p v state.pending number rests next in
    is_within (defined p.linked) number b.idle.entries.0.runs b.idle.entries.0.is

-- an entry less is to come
pub entry_frees : (v : View) (number locals cells : ℕ) → slice_get v.entries 0 ≡ Some number → free_moves v ≡ free_moves (entry_view number locals cells v) + 1
entry_frees v number locals cells next =
    let n = next_entry v.entries number next in
    let count = ap (λ (es : List ℕ). length es) n.is in
    let fewer = ap (λ (es : List ℕ). length (drop 1 es)) n.is in
    omega (arith, count, fewer)

pub no_entries : (es : List ℕ) → slice_get es 0 ≡ None → es ≡ []
no_entries [] e = refl
no_entries (j ∷ es) e = let bad : ⊥ = cc in absurd bad

-- nothing is left to run
pub all_ended : (p : Program) (v : View) → length v.frames ≡ 0 → slice_get v.entries 0 ≡ None → Stops p v 0 Fell
all_ended p v none next = record {
  stops = λ w h.
      let rests = resting_of p v w h none in
      let around : w.around ≡ [] = rests.entries_are ∙ ap (λ (es : List ℕ). entering es) (no_entries v.entries next) in
      let whole : w ≡ pending_at Done [] w.state = ap (λ (s : Sequence). record w { sequence = s }) rests.typing.no_sequence ∙ ap (λ (xs : List Around). pending_at Done xs w.state) around in
      subst (λ (x : Pending). RunsOut p x 0 Fell) (sym whole) (done_out p w.state);
}
