-- Calls of functions, and entries from outside.
use Rattle.std.proofs.Common.{◌≡◌, ℕ, zero, suc, ◌+◌, ◌-◌, ◌<◌, ◌≤◌, Bool, true, false, cond, ◌&&◌, nat_lt, nat_le, inl, List, [], ◌∷◌, ◌++◌, length, reverse, map, Option, Some, None, slice_get, refl, sym, ap, subst, ◌∙◌, append_assoc, append-nil, length-append, arith}
use Rattle.std.proofs.lemmas.Bool.Decides.{nat_tests}
use Rattle.std.proofs.lemmas.List.{map-append, reverse-append, reverse-reverse, length-reverse}
use Rattle.wasm_ops.specs.declared.modules.Module.{Module}
use Rattle.wasm_ops.specs.declared.operators.Op.{Op}
use Rattle.wasm_ops.specs.declared.operators.Op.TheVariants.{End}
use Rattle.wasm_ops.specs.declared.traps.Trap.TheVariants.{StackExhausted}
use Rattle.wasm_ops.specs.declared.types.ValType.{ValType}
use Rattle.wasm_ops.specs.declared.types.ValType.TheVariants.{I32, I64}
use Rattle.wasm_ops.specs.Sequence.{Sequence, Plain, size}
use Rattle.wasm_meaning.specs.Bytes.{zeros}
use Rattle.wasm_meaning.specs.Control.{Arguments, take_values, take_arguments}
use Rattle.wasm_meaning.specs.Effects.{Calls}
use Rattle.wasm_meaning.specs.Execution.{Caller, caller_of, cells_of, has_room, most_frames, most_cells}
use Rattle.wasm_meaning.specs.Operators.{effect}
use Rattle.wasm_meaning.specs.Pending.{Around, AroundCall}
use Rattle.wasm_meaning.specs.Programs.{Program, defined, instance_of}
use Rattle.wasm_meaning.specs.State.{Function, Frame as StateFrame, Store, State, Trapped}
use Rattle.wasm_meaning.specs.Values.{Value, number_in, numbers, has_type, zero_of}
use Rattle.wasm_meaning.proofs.ModuleFacts.{is_within}
use Rattle.wasm_pending.specs.Steps.{pending_at, in_call}
use Rattle.wasm_pending.specs.Typed.{Typed}
use Rattle.wasm_pending.proofs.Calls.{call_typed}
use Rattle.wasm_pending.proofs.Plains.{keeps_as}
use Rattle.wasm_store.specs.View.{View}
use Rattle.wasm_store.specs.declared.calls.Frame.{Frame}
use Rattle.wasm_store.specs.declared.labels.Label.{Label}
use Rattle.wasm_states.specs.Calling.{has_room_for, call_view}
use Rattle.wasm_states.specs.Chains.{cells_under, height_under, Border, Back, Chain}
use Rattle.wasm_states.specs.Codes.{Stands}
use Rattle.wasm_states.specs.Holding.{Holds}
use Rattle.wasm_states.specs.Running.{Running}
use Rattle.wasm_states.specs.Steps.{RunsOut, Reaches}
use Rattle.wasm_states.proofs.ChainLaws.{length-numbers, length-cells_under}
use Rattle.wasm_states.proofs.CodeLaws.{code_of, is_code}
use Rattle.wasm_states.proofs.RunLaws.{calls_run, calls_trap}
use Rattle.wasm_states.proofs.StateLaws.{room_of}

-- Arguments.

-- the operands that became arguments
pub record TakesFront (params : List ValType) (operands before : List Value) (taken : Arguments) : Type 0 where
  pub front : List Value
  pub operands_are : operands ≡ front ++ taken.under
  pub arguments_are : taken.arguments ≡ reverse front ++ before
  pub many : length front ≡ length params

pub takes_front
    : (params : List ValType) (operands before : List Value) (taken : Arguments) → take_values params operands before ≡ Some taken
    → TakesFront params operands before taken
takes_front [] operands before taken e =
    let same : record { arguments = before; under = operands } ≡ taken = cc in
    record {
      front = [];
      operands_are = ap (λ (a : Arguments). a.under) same;
      arguments_are = sym (ap (λ (a : Arguments). a.arguments) same);
      many = refl;
    }
takes_front (t ∷ params) [] before taken e = let bad : ⊥ = cc in absurd bad
takes_front (t ∷ params) (v ∷ operands) before taken e = by (has_type t v) e (λ same. takes_front params operands (v ∷ before) taken same)
  where
    by
        : (b : Bool) → cond b (take_values params operands (v ∷ before)) None ≡ Some taken
        → (take_values params operands (v ∷ before) ≡ Some taken → TakesFront params operands (v ∷ before) taken) → TakesFront (t ∷ params) (v ∷ operands) before taken
    by false e deeper = let bad : ⊥ = cc in absurd bad
    by true e deeper =
        let more = deeper e in
        record {
          front = v ∷ more.front;
          operands_are = ap (λ (vs : List Value). v ∷ vs) more.operands_are;
          arguments_are = more.arguments_are ∙ sym (ap (λ (vs : List Value). vs ++ before) (reverse-append (v ∷ []) more.front) ∙ append_assoc (reverse more.front) (v ∷ []) before);
          many = ap suc more.many;
        }

pub numbers-reverse : (vs : List Value) → numbers (reverse vs) ≡ reverse (numbers vs)
numbers-reverse [] = refl
numbers-reverse (v ∷ vs) =
    ap (λ (xs : List Value). numbers xs) (reverse-append (v ∷ []) vs)
    ∙ map-append number_in (reverse vs) (v ∷ [])
    ∙ ap (λ (ns : List ℕ). ns ++ number_in v ∷ []) (numbers-reverse vs)
    ∙ sym (reverse-append (number_in v ∷ []) (numbers vs))

zero_is : (t : ValType) → number_in (zero_of t) ≡ 0
zero_is I32 = refl
zero_is I64 = refl

zeros_are : (ts : List ValType) → numbers (map zero_of ts) ≡ zeros (length ts)
zeros_are [] = refl
zeros_are (t ∷ ts) = ap (λ (n : ℕ). n ∷ numbers (map zero_of ts)) (zero_is t) ∙ ap (λ (ns : List ℕ). 0 ∷ ns) (zeros_are ts)

one_zero : List ℕ
one_zero = 0 ∷ []

zero_behind : (n : ℕ) → zeros n ++ one_zero ≡ 0 ∷ zeros n
unfolding one_zero
zero_behind zero = refl
zero_behind (suc n) = ap (λ (ns : List ℕ). 0 ∷ ns) (zero_behind n)

reverse-zeros : (n : ℕ) → reverse (zeros n) ≡ zeros n
unfolding one_zero
reverse-zeros zero = refl
reverse-zeros (suc n) = reverse-append one_zero (zeros n) ∙ ap (λ (ns : List ℕ). ns ++ one_zero) (reverse-zeros n) ∙ zero_behind n

-- the locals of the function lie where its arguments lay, and above them
pub locals_lie
    : (params locals : List ValType) (operands : List Value) (taken : Arguments) (low : List ℕ) → take_arguments params operands ≡ Some taken
    → zeros (length locals) ++ (numbers operands ++ low) ≡ reverse (numbers (taken.arguments ++ map zero_of locals)) ++ (numbers taken.under ++ low)
locals_lie params locals operands taken low e =
    let f = takes_front (reverse params) operands [] taken e in
    let back : reverse (numbers taken.arguments) ≡ numbers f.front
    = ap (λ (vs : List Value). reverse (numbers vs)) (f.arguments_are ∙ append-nil (reverse f.front))
    ∙ ap (λ (ns : List ℕ). reverse ns) (numbers-reverse f.front)
    ∙ reverse-reverse (numbers f.front) in
    let upper : reverse (numbers (taken.arguments ++ map zero_of locals)) ≡ zeros (length locals) ++ numbers f.front
    = ap (λ (ns : List ℕ). reverse ns) (map-append number_in taken.arguments (map zero_of locals))
    ∙ reverse-append (numbers taken.arguments) (numbers (map zero_of locals))
    ∙ ap (λ (ns : List ℕ). reverse ns ++ reverse (numbers taken.arguments)) (zeros_are locals)
    ∙ ap (λ (ns : List ℕ). ns ++ reverse (numbers taken.arguments)) (reverse-zeros (length locals))
    ∙ ap (λ (ns : List ℕ). zeros (length locals) ++ ns) back in
    ap (λ (vs : List Value). zeros (length locals) ++ (numbers vs ++ low)) f.operands_are
    ∙ ap (λ (ns : List ℕ). zeros (length locals) ++ (ns ++ low)) (map-append number_in f.front taken.under)
    ∙ ap (λ (ns : List ℕ). zeros (length locals) ++ ns) (append_assoc (numbers f.front) (numbers taken.under) low)
    ∙ sym (append_assoc (zeros (length locals)) (numbers f.front) (numbers taken.under ++ low))
    ∙ ap (λ (ns : List ℕ). ns ++ (numbers taken.under ++ low)) (sym upper)

pub as_many : (params : List ValType) (operands : List Value) (taken : Arguments) → take_arguments params operands ≡ Some taken → length operands ≡ length params + length taken.under
as_many params operands taken e =
    let f = takes_front (reverse params) operands [] taken e in
    let long = ap (λ (vs : List Value). length vs) f.operands_are ∙ length-append f.front taken.under in
    omega (arith, long, f.many, length-reverse params)

-- Room.

-- both limits leave room
pub record Fits (v : View) (cells : ℕ) : Type 0 where
  pub few_frames : length v.frames < 4096
  pub few_cells : v.used + cells ≤ 65536

pub fits_of : (v : View) (cells : ℕ) → has_room_for cells v ≡ true → Fits v cells
fits_of v cells e = by (nat_lt (length v.frames) most_frames) (nat_le (v.used + cells) most_cells) refl refl e
  where
    by : (a b : Bool) → nat_lt (length v.frames) most_frames ≡ a → nat_le (v.used + cells) most_cells ≡ b → a && b ≡ true → Fits v cells
    by true true a b e = record { few_frames = grind (arith, nat_tests); few_cells = grind (arith, nat_tests) }
    by true false a b e = let bad : ⊥ = cc in absurd bad
    by false b a c e = let bad : ⊥ = cc in absurd bad

pub room_same : (v : View) (st : State) (f : Function) (cells : ℕ) → length v.frames ≡ st.frames → v.used ≡ st.cells → cells ≡ cells_of f → has_room st f ≡ has_room_for cells v
room_same v st f cells frames used same =
    sym (ap (λ (n : ℕ). nat_lt n most_frames && nat_le (v.used + cells) most_cells) frames
    ∙ ap (λ (n : ℕ). nat_lt st.frames most_frames && nat_le (n + cells) most_cells) used
    ∙ ap (λ (n : ℕ). nat_lt st.frames most_frames && nat_le (st.cells + n) most_cells) same)

-- Calls.

-- the frame that a call lays
abbrev pub frame_of : View → (cells params : ℕ) → Frame
frame_of v cells params = record { function = v.function; place = v.place; base = cells - params; opened = length v.labels; below = v.used }

call_chain
    : (m : Module) (function : Function) (body_ops : List Op) (stop used' locals' : ℕ) (entries : List ℕ) (around : List Around) (labels : List Label) (frames : List Frame)
    → (t : Option ValType) (number : ℕ) (caller : Caller) (rest : Sequence) (f : Frame) (back : Back m f number rest)
    → Border function body_ops stop used' f t (length caller.operands + height_under (length caller.frame.locals) around) (length labels) caller
    → Chain m back.code.function back.code.body.ops (f.place + size rest) f.below (length caller.frame.locals) entries around labels frames
    → 0 < length frames
    → Chain m function body_ops stop used' locals' entries (AroundCall t number caller rest ∷ around) labels (f ∷ frames)
call_chain m function body_ops stop used' locals' entries around labels [] t number caller rest f back border chain live = let bad : ⊥ = omega (arith, live) in absurd bad
call_chain m function body_ops stop used' locals' entries around labels (g ∷ frames) t number caller rest f back border chain live = (border, back, chain)

pub record CallsWith (p : Program) (v : View) (o : Op) (rest : Sequence) (around : List Around) (st to : State) (f : Function) (cells : List ℕ) (number : ℕ) : Type 0 where
  pub calls : effect (instance_of p) o st ≡ Calls f to
  pub known : slice_get (defined p.linked) number ≡ Some f
  pub cells_are : cells ≡ numbers to.operands ++ cells_under st.frame.locals around
  pub no_more : length cells ≤ length v.cells

call_stands
    : (p : Program) (v : View) (o : Op) (rest : Sequence) (around : List Around) (st to : State) (f : Function) (cells : List ℕ) (number : ℕ) (taken : Arguments)
    → (h : Holds p v (pending_at (Plain o rest) around st)) → (r : Running p v (pending_at (Plain o rest) around st))
    → CallsWith p v o rest around st to f cells number → take_arguments f.params to.operands ≡ Some taken
    → Typed p number (in_call f v.function taken rest around to) → has_room_for (cells_of f) v ≡ true
    → Running p (call_view number (length f.params) (length f.locals) (cells_of f) (record v { place = v.place + 1; cells = cells })) (in_call f v.function taken rest around to)
call_stands p v o rest around st to f cells number taken h r c takes typing room =
    let w = pending_at (Plain o rest) around st in
    let keeps = keeps_as p h.program v.function o rest around st r.typing (Calls f to) c.calls in
    let made = code_of p.linked number f c.known in
    let code = is_code p.linked h.program.formed number made.0 in
    let frame = frame_of (record v { place = v.place + 1 }) (length cells) (length f.params) in
    let caller = caller_of to taken.under in
    let back : Back p.linked frame v.function rest = record { same = refl; code = r.code; stands = r.here.2 } in
    let room_here = room_of p v w r in
    let fits = room_here.fits in
    let many = as_many f.params to.operands taken takes in
    let long = ap (λ (ns : List ℕ). length ns) c.cells_are ∙ length-append (numbers to.operands) (cells_under st.frame.locals around) in
    let ops = length-numbers to.operands in
    let low = length-cells_under st.frame.locals around in
    let same_frame = ap (λ (g : StateFrame). height_under (length g.locals) around) keeps.frame in
    let base : length cells - length f.params ≡ length taken.under + height_under (length to.frame.locals) around = omega (arith, many, long, ops, low, same_frame) in
    let below : v.used ≡ to.cells = r.used ∙ sym keeps.cells in
    let more = c.no_more in
    let same_function : made.0.function ≡ f = made.1 in
    let border : Border f made.0.body.ops (0 + size f.body) (v.used + cells_of f) frame f.result (length taken.under + height_under (length to.frame.locals) around) (length v.labels) caller = record {
      closes = subst (λ (g : Function). slice_get made.0.body.ops (0 + size g.body) ≡ Some End) same_function (ap (λ (k : ℕ). slice_get made.0.body.ops k) (no_place (size made.0.function.body)) ∙ code.whole.closes);
      result = refl;
      base = base;
      opened = refl;
      below = below;
      total = refl;
      counted = omega (arith, fits, more);
    } in
    let stop : v.place + size (Plain o rest) ≡ v.place + 1 + size rest = omega arith in
    let chain = subst (λ (k : ℕ). Chain p.linked r.code.function r.code.body.ops k v.used (length st.frame.locals) v.entries around v.labels v.frames) stop r.chain in
    let chain' = subst (λ (g : StateFrame). Chain p.linked r.code.function r.code.body.ops (v.place + 1 + size rest) v.used (length g.locals) v.entries around v.labels v.frames) (sym keeps.frame) chain in
    let live = is_within v.frames 0 room_here.f room_here.found in
    let all = call_chain p.linked f made.0.body.ops (0 + size f.body) (v.used + cells_of f) (length (taken.arguments ++ map zero_of f.locals)) v.entries around v.labels v.frames
    f.result v.function caller rest frame back border chain' live in
    let cells' : zeros (length f.locals) ++ cells ≡ reverse (numbers (taken.arguments ++ map zero_of f.locals)) ++ (numbers taken.under ++ cells_under to.frame.locals around)
    = ap (λ (ns : List ℕ). zeros (length f.locals) ++ ns) (c.cells_are ∙ ap (λ (g : StateFrame). numbers to.operands ++ cells_under g.locals around) (sym keeps.frame))
    ∙ locals_lie f.params f.locals to.operands taken (cells_under to.frame.locals around) takes in
    let fits' = fits_of v (cells_of f) room in
    let live_is = r.live in
    let frames_same = keeps.frames in
    let few = fits'.few_frames in
    record {
      code = record made.0 { function = f; known = c.known };
      here = subst (λ (g : Function). Stands made.0.body.ops 0 g.body) same_function code.whole.stands;
      chain = all;
      cells = cells';
      used = ap (λ (n : ℕ). n + cells_of f) below;
      live = omega (arith, live_is, frames_same);
      few_cells = fits'.few_cells;
      few_frames = omega (arith, few);
      typing = typing;
    }
  where
    no_place : (n : ℕ) → 0 + n ≡ n
    no_place n = omega arith

-- a call that has room
pub call_reaches
    : (p : Program) (v : View) (o : Op) (rest : Sequence) (around : List Around) (st to : State) (f : Function) (cells : List ℕ) (number : ℕ)
    → Holds p v (pending_at (Plain o rest) around st) → Running p v (pending_at (Plain o rest) around st)
    → CallsWith p v o rest around st to f cells number → has_room_for (cells_of f) v ≡ true
    → Reaches p (pending_at (Plain o rest) around st) 1 (call_view number (length f.params) (length f.locals) (cells_of f) (record v { place = v.place + 1; cells = cells }))
call_reaches p v o rest around st to f cells number h r c room =
    let keeps = keeps_as p h.program v.function o rest around st r.typing (Calls f to) c.calls in
    let enters = call_typed p h.program v.function number f o rest around st to r.typing c.calls c.known in
    let stands = call_stands p v o rest around st to f cells number enters.taken h r c enters.takes enters.typed room in
    let same = room_same v to f (cells_of f) (r.live ∙ sym keeps.frames) (r.used ∙ sym keeps.cells) refl in
    record {
      pending = in_call f v.function enters.taken rest around to;
      holds = record {
        program = h.program;
        stands = inl stands;
        store = record {
          memory = h.store.memory ∙ ap (λ (s : Store). s.memory) (sym keeps.store);
          globals = h.store.globals ∙ ap (λ (s : Store). numbers s.globals) (sym keeps.store);
          table = h.store.table ∙ ap (λ (s : Store). s.table) (sym keeps.store);
          room = h.store.room;
        };
        few_entries = h.few_entries;
      };
      runs = calls_run p o rest around st to f v.function enters.taken c.calls enters.takes (same ∙ room) (ap (λ (s : Store). s.streams) keeps.store);
    }

-- one that has none
pub call_stops
    : (p : Program) (v : View) (o : Op) (rest : Sequence) (around : List Around) (st to : State) (f : Function) (cells : List ℕ) (number : ℕ)
    → Holds p v (pending_at (Plain o rest) around st) → Running p v (pending_at (Plain o rest) around st)
    → CallsWith p v o rest around st to f cells number → has_room_for (cells_of f) v ≡ false
    → RunsOut p (pending_at (Plain o rest) around st) 1 (Trapped StackExhausted)
call_stops p v o rest around st to f cells number h r c none =
    let keeps = keeps_as p h.program v.function o rest around st r.typing (Calls f to) c.calls in
    let enters = call_typed p h.program v.function number f o rest around st to r.typing c.calls c.known in
    let same = room_same v to f (cells_of f) (r.live ∙ sym keeps.frames) (r.used ∙ sym keeps.cells) refl in
    calls_trap p o rest around st to f enters.taken c.calls enters.takes (same ∙ none) (ap (λ (s : Store). s.streams) keeps.store)

-- the arguments are there
pub call_has_arguments
    : (p : Program) (v : View) (o : Op) (rest : Sequence) (around : List Around) (st to : State) (f : Function) (cells : List ℕ) (number : ℕ)
    → Holds p v (pending_at (Plain o rest) around st) → Running p v (pending_at (Plain o rest) around st)
    → CallsWith p v o rest around st to f cells number → length f.params ≤ length cells
call_has_arguments p v o rest around st to f cells number h r c =
    let enters = call_typed p h.program v.function number f o rest around st to r.typing c.calls c.known in
    let many = as_many f.params to.operands enters.taken enters.takes in
    let long = ap (λ (ns : List ℕ). length ns) c.cells_are ∙ length-append (numbers to.operands) (cells_under st.frame.locals around) in
    let ops = length-numbers to.operands in
    omega (arith, many, long, ops)
