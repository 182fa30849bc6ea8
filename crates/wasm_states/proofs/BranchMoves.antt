-- Branches to blocks and loops, and out of the call that runs; returns, and ends of bodies.
use Rattle.std.proofs.Common.{◌≡◌, ℕ, suc, ◌+◌, ◌-◌, ◌<◌, ◌≤◌, Bool, true, false, cond, nat_lt, ◌⊎◌, List, [], ◌∷◌, ◌++◌, length, take, drop, Option, Some, slice_get, is_some, refl, sym, ap, subst, ◌∙◌, append_assoc, length-append, arith}
use Rattle.std.proofs.lemmas.Bool.Decides.{nat_tests}
use Rattle.wasm_ops.specs.declared.modules.Module.{Module}
use Rattle.wasm_ops.specs.declared.operators.Op.{Op}
use Rattle.wasm_ops.specs.declared.operators.Op.TheVariants.{Return}
use Rattle.wasm_ops.specs.declared.types.ValType.{ValType}
use Rattle.wasm_ops.specs.Sequence.{Sequence, Done, Plain, size}
use Rattle.wasm_meaning.specs.Effects.{Branches}
use Rattle.wasm_meaning.specs.Execution.{Caller}
use Rattle.wasm_meaning.specs.Operators.{effect}
use Rattle.wasm_meaning.specs.Pending.{Around, AroundBlock, AroundLoop, AroundCall, Entering, Pending}
use Rattle.wasm_meaning.specs.Programs.{Program, defined, instance_of}
use Rattle.wasm_meaning.specs.State.{Function, Frame as StateFrame, Store, State, with_operands}
use Rattle.wasm_meaning.specs.Values.{numbers}
use Rattle.wasm_meaning.proofs.ModuleFacts.{is_within}
use Rattle.wasm_pending.specs.Frames.{open_in, caller_in}
use Rattle.wasm_pending.specs.Steps.{pending_at, past_call, branched}
use Rattle.wasm_pending.specs.Typed.{Typed, Idle}
use Rattle.wasm_pending.proofs.Branches.{branch_within, branch_lands, branch_returns, return_typed, body_ends}
use Rattle.wasm_pending.proofs.Plains.{keeps_as}
use Rattle.wasm_store.specs.Stacks.{kept as count_kept, cut}
use Rattle.wasm_store.specs.View.{View, returned}
use Rattle.wasm_store.specs.declared.calls.Frame.{Frame}
use Rattle.wasm_store.specs.declared.labels.Label.{Label}
use Rattle.wasm_states.specs.Chains.{cells_under, Chain}
use Rattle.wasm_states.specs.Holding.{Holds}
use Rattle.wasm_states.specs.Leaving.{has_result, gives_result, leave_from, leave_view, CanLeave, go_to_label, branch_from, branch_view, CanBranch}
use Rattle.wasm_states.specs.Running.{Running}
use Rattle.wasm_states.specs.Steps.{RunsOn, Reaches}
use Rattle.wasm_states.proofs.ChainLaws.{length-numbers, length-cells_under, laid_on, cut_to, branches_to}
use Rattle.wasm_states.proofs.Moving.{moved_to, reaches_in}
use Rattle.wasm_states.proofs.RunLaws.{branches_run, returns_run, falls_run}
use Rattle.wasm_states.proofs.StateLaws.{call_of, room_of}
use Rattle.wasm_states.proofs.LeaveLaws.{comes_with, left_view, left_holds, left_fits}

-- Branches.

-- a vessel behind a branch to a label of a block or a loop
abbrev pub label_view : View → (cells : List ℕ) (label : ℕ) → Label → View
label_view v cells label l = moved_to v l.target (cut (count_kept l.result) l.height cells) (drop (suc label) v.labels)

record LabelLands (p : Program) (v : View) (w : Pending) (cells : List ℕ) (label : ℕ) (l : Label) : Type 0 where
  reaches : Reaches p w 1 (label_view v cells label l)
  fits : l.height + count_kept l.result ≤ length cells

label_lands
    : (p : Program) (v : View) (o : Op) (rest : Sequence) (around : List Around) (st to : State) (label : ℕ) (cells : List ℕ) (l : Label)
    → Holds p v (pending_at (Plain o rest) around st) → Running p v (pending_at (Plain o rest) around st)
    → effect (instance_of p) o st ≡ Branches label to → cells ≡ numbers to.operands ++ cells_under st.frame.locals around
    → label < open_in around → slice_get v.labels label ≡ Some l
    → LabelLands p v (pending_at (Plain o rest) around st) cells label l
label_lands p v o rest around st to label cells l h r branches cells_are lt found =
    let w = pending_at (Plain o rest) around st in
    let ops = r.code.body.ops in
    let keeps = keeps_as p h.program v.function o rest around st r.typing (Branches label to) branches in
    let lands = branch_lands p h.program v.function o rest around st r.typing label to branches lt in
    let b = branches_to p.linked r.code.function ops v.used (length st.frame.locals) v.entries label (v.place + size (Plain o rest)) around v.labels v.frames r.chain lt in
    let same : b.l ≡ l = given b.l l (slice_get v.labels label) b.found found in
    let w' = lands.pending in
    let f = b.lands to w' lands.is in
    let under = b.under st.frame.locals in
    let low = numbers b.base ++ cells_under st.frame.locals b.outer in
    let upper = numbers to.operands ++ under.0 in
    let whole : cells ≡ upper ++ low = cells_are ∙ ap (λ (ns : List ℕ). numbers to.operands ++ ns) under.1 ∙ sym (append_assoc (numbers to.operands) under.0 low) in
    let lies = b.lies in
    let long : length low ≡ b.l.height
    = length-append (numbers b.base) (cells_under st.frame.locals b.outer)
    ∙ ap (λ (n : ℕ). n + length (cells_under st.frame.locals b.outer)) (length-numbers b.base)
    ∙ ap (λ (n : ℕ). length b.base + n) (length-cells_under st.frame.locals b.outer)
    ∙ sym lies in
    let cut_is : cut (count_kept b.l.result) b.l.height cells ≡ numbers (f.values ++ b.base) ++ cells_under st.frame.locals b.outer
    = cut_to (count_kept b.l.result) b.l.height cells upper low whole long
    ∙ ap (λ (ns : List ℕ). ns ++ low) (ap (λ (ns : List ℕ). take (count_kept b.l.result) ns) cells_are ∙ f.top (cells_under st.frame.locals around))
    ∙ laid_on f.values b.base (cells_under st.frame.locals b.outer) in
    let st' = with_operands to (f.values ++ b.base) in
    let w'' = pending_at b.s b.outer st' in
    let frame : st'.frame ≡ st.frame = keeps.frame in
    let typing = subst (λ (x : Pending). Typed p v.function x) f.is lands.typed in
    let chain = subst (λ (g : StateFrame). Chain p.linked r.code.function ops (b.l.target + size b.s) v.used (length g.locals) v.entries b.outer (drop (suc label) v.labels) v.frames) (sym frame) b.chain in
    let cells_there = subst (λ (g : StateFrame). cut (count_kept b.l.result) b.l.height cells ≡ numbers (f.values ++ b.base) ++ cells_under g.locals b.outer) (sym frame) cut_is in
    let lands' : branched label around to ≡ Some w'' = lands.is ∙ ap (λ (x : Pending). Some x) f.is in
    let here : Reaches p w 1 (label_view v cells label b.l)
    = reaches_in p v w h r 1 b.l.target (cut (count_kept b.l.result) b.l.height cells) (drop (suc label) v.labels) w''
    (record { here = b.stands; chain = chain; cells_are = cells_there; same_cells = keeps.cells; same_frames = keeps.frames; typing = typing })
    keeps.store (branches_run p o rest around st to label w'' branches lands' (ap (λ (s : Store). s.streams) keeps.store)) in
    let all = ap (λ (ns : List ℕ). length ns) whole ∙ length-append upper low in
    let up = length-append (numbers to.operands) under.0 in
    let ops_count = length-numbers to.operands in
    let enough = f.enough in
    let fits : b.l.height + count_kept b.l.result ≤ length cells = omega (arith, all, up, ops_count, enough, long) in
    subst (λ (x : Label). LabelLands p v w cells label x) same (record { reaches = here; fits = fits })
  where
    given : (x y : Label) (o : Option Label) → o ≡ Some x → o ≡ Some y → x ≡ y
    given x y o e f = cc

-- Both kinds of branch.

result_is : (p : Program) (v : View) (w : Pending) (r : Running p v w) → gives_result p v ≡ is_some r.code.function.result
result_is p v w r = ap (λ (o : Option Function). has_result o) r.code.known

is_known : (p : Program) (v : View) (w : Pending) (r : Running p v w) → v.function < length (defined p.linked)
is_known p v w r = is_within (defined p.linked) v.function r.code.function r.code.known

is_live : (p : Program) (v : View) (w : Pending) (r : Running p v w) → 0 < length v.frames
is_live p v w r =
    let room = room_of p v w r in
    is_within v.frames 0 room.f room.found

given_frame : (x y : Frame) (o : Option Frame) → o ≡ Some x → o ≡ Some y → x ≡ y
given_frame x y o e f = cc

-- where an operator branches, with these cells left over
pub record BranchGoes (p : Program) (v : View) (w : Pending) (cells : List ℕ) (label : ℕ) : Type 0 where
  pub reaches : Reaches p w 1 (branch_view p label (record v { cells = cells }))
  pub can : CanBranch p label (record v { cells = cells })

own_goes
    : (p : Program) (v : View) (o : Op) (rest : Sequence) (around : List Around) (st to : State) (label : ℕ) (cells : List ℕ) (f : Frame)
    → Holds p v (pending_at (Plain o rest) around st) → Running p v (pending_at (Plain o rest) around st)
    → effect (instance_of p) o st ≡ Branches label to → cells ≡ numbers to.operands ++ cells_under st.frame.locals around
    → label ≡ open_in around → slice_get v.frames 0 ≡ Some f → nat_lt label (length v.labels - f.opened) ≡ false
    → BranchGoes p v (pending_at (Plain o rest) around st) cells label
own_goes p v o rest around st to label cells f h r branches cells_are own live beyond =
    let w = pending_at (Plain o rest) around st in
    let keeps = keeps_as p h.program v.function o rest around st r.typing (Branches label to) branches in
    let back = branch_returns p h.program v.function o rest around st r.typing label to branches own in
    let c = call_of p v w r in
    let w' = back.pending in
    let here : past_call c.t c.caller c.rest c.outer to ≡ Some w' = sym (ap (λ (n : ℕ). branched n around to) own ∙ c.branches to) ∙ back.is in
    let holds = left_holds p v w h r to cells f w' live cells_are keeps.frames keeps.store here back.goes in
    let fits = left_fits p v w h r to cells f w' live cells_are here in
    let keep = result_is p v w r in
    let view : branch_view p label (record v { cells = cells }) ≡ left_view v cells (is_some r.code.function.result) f
    = ap (λ (x : Option Frame). branch_from x (gives_result p v) label (record v { cells = cells })) live
    ∙ ap (λ (b : Bool). cond b (go_to_label (slice_get v.labels label) label (record v { cells = cells })) (returned (gives_result p v) f (record v { cells = cells }))) beyond
    ∙ ap (λ (b : Bool). returned b f (record v { cells = cells })) keep in
    record {
      reaches = record {
        pending = w';
        holds = subst (λ (x : View). Holds p x w') (sym view) holds;
        runs = branches_run p o rest around st to label w' branches back.is (streams_back c.t c.caller c.rest c.outer to w' here ∙ ap (λ (s : Store). s.streams) keeps.store);
      };
      can = record {
        live = is_live p v w r;
        known = is_known p v w r;
        labels = λ g e. subst (λ (x : Frame). x.opened ≤ length v.labels) (given_frame f g (slice_get v.frames 0) live e) fits.labels_fit;
        inside = λ g l e lt found.
            let same = ap (λ (x : Frame). x.opened) (given_frame f g (slice_get v.frames 0) live e) in
            let short : label < length v.labels - f.opened = omega (arith, lt, same) in
            let bad : ⊥ = not_less label (length v.labels - f.opened) beyond short in absurd bad;
        outside = λ g e over.
            subst (λ (x : Frame). x.base + count_kept (gives_result p v) ≤ length cells) (given_frame f g (slice_get v.frames 0) live e)
            (subst (λ (b : Bool). f.base + count_kept b ≤ length cells) (sym keep) fits.cells_fit);
      };
    }
  where
    streams_back
        : (t : Option ValType) (caller : Caller) (rest : Sequence) (outer : List Around) (st : State) (w' : Pending) → past_call t caller rest outer st ≡ Some w'
        → w'.state.store.streams ≡ st.store.streams
    streams_back t caller rest outer st w' e = ap (λ (x : Pending). x.state.store.streams) (comes_with t caller rest outer st w' e).is

    not_less : (n m : ℕ) → nat_lt n m ≡ false → n < m → ⊥
    not_less n m e lt = grind (arith, nat_tests)

label_goes
    : (p : Program) (v : View) (o : Op) (rest : Sequence) (around : List Around) (st to : State) (label : ℕ) (cells : List ℕ) (f : Frame)
    → Holds p v (pending_at (Plain o rest) around st) → Running p v (pending_at (Plain o rest) around st)
    → effect (instance_of p) o st ≡ Branches label to → cells ≡ numbers to.operands ++ cells_under st.frame.locals around
    → label < open_in around → slice_get v.frames 0 ≡ Some f → nat_lt label (length v.labels - f.opened) ≡ true
    → BranchGoes p v (pending_at (Plain o rest) around st) cells label
label_goes p v o rest around st to label cells f h r branches cells_are lt live yes_less =
    let w = pending_at (Plain o rest) around st in
    let b = branches_to p.linked r.code.function r.code.body.ops v.used (length st.frame.locals) v.entries label (v.place + size (Plain o rest)) around v.labels v.frames r.chain lt in
    let lands = label_lands p v o rest around st to label cells b.l h r branches cells_are lt b.found in
    let room = room_of p v w r in
    let opened = ap (λ (x : Frame). x.opened) (given_frame room.f f (slice_get v.frames 0) room.found live) in
    let labels = room.labels in
    let more : label + 1 ≡ suc label = omega arith in
    let view : branch_view p label (record v { cells = cells }) ≡ label_view v cells label b.l
    = ap (λ (x : Option Frame). branch_from x (gives_result p v) label (record v { cells = cells })) live
    ∙ ap (λ (x : Bool). cond x (go_to_label (slice_get v.labels label) label (record v { cells = cells })) (returned (gives_result p v) f (record v { cells = cells }))) yes_less
    ∙ ap (λ (x : Option Label). go_to_label x label (record v { cells = cells })) b.found
    ∙ ap (λ (n : ℕ). moved_to v b.l.target (cut (count_kept b.l.result) b.l.height cells) (drop n v.labels)) more in
    record {
      reaches = subst (λ (x : View). Reaches p w 1 x) (sym view) lands.reaches;
      can = record {
        live = is_live p v w r;
        known = is_known p v w r;
        labels = λ g e. omega (arith, labels, opened, ap (λ (x : Frame). x.opened) (given_frame f g (slice_get v.frames 0) live e));
        inside = λ g l e less found. subst (λ (x : Label). x.height + count_kept x.result ≤ length cells) (given_label b.l l (slice_get v.labels label) b.found found) lands.fits;
        outside = λ g e over.
            let same = ap (λ (x : Frame). x.opened) (given_frame f g (slice_get v.frames 0) live e) in
            let bad : ⊥ = omega (arith, over, lt, labels, opened, same) in absurd bad;
      };
    }
  where
    given_label : (x y : Label) (o : Option Label) → o ≡ Some x → o ≡ Some y → x ≡ y
    given_label x y o e f = cc

pub branch_goes
    : (p : Program) (v : View) (o : Op) (rest : Sequence) (around : List Around) (st to : State) (label : ℕ) (cells : List ℕ)
    → Holds p v (pending_at (Plain o rest) around st) → Running p v (pending_at (Plain o rest) around st)
    → effect (instance_of p) o st ≡ Branches label to → cells ≡ numbers to.operands ++ cells_under st.frame.locals around
    → BranchGoes p v (pending_at (Plain o rest) around st) cells label
branch_goes p v o rest around st to label cells h r branches cells_are =
    let w = pending_at (Plain o rest) around st in
    let room = room_of p v w r in
    let labels = room.labels in
    let most = branch_within p h.program v.function o rest around st r.typing label to branches in
    let count : length v.labels - room.f.opened ≡ open_in around = omega (arith, labels) in
    by (nat_lt label (length v.labels - room.f.opened)) room.f most count room.found refl
  where
    by
        : (b : Bool) (f : Frame) → label ≤ open_in around → length v.labels - f.opened ≡ open_in around → slice_get v.frames 0 ≡ Some f
        → nat_lt label (length v.labels - f.opened) ≡ b
        → BranchGoes p v (pending_at (Plain o rest) around st) cells label
    by true f most count live e =
        let lt : label < length v.labels - f.opened = grind (arith, nat_tests) in
        label_goes p v o rest around st to label cells f h r branches cells_are (omega (arith, lt, count)) live e
    by false f most count live e =
        let le : length v.labels - f.opened ≤ label = grind (arith, nat_tests) in
        own_goes p v o rest around st to label cells f h r branches cells_are (omega (arith, le, count, most)) live e

-- Returns, and ends of bodies.

-- where a call is left, with these cells
pub record LeaveGoes (p : Program) (v : View) (w : Pending) (price : ℕ) : Type 0 where
  pub reaches : Reaches p w price (leave_view p v)
  pub can : CanLeave p v

leave_goes
    : (p : Program) (v : View) (w : Pending) (price : ℕ) (w' : Pending) → (h : Holds p v w) → (r : Running p v w)
    → past_call (call_of p v w r).t (call_of p v w r).caller (call_of p v w r).rest (call_of p v w r).outer w.state ≡ Some w'
    → Typed p (caller_in w.around) w' ⊎ Idle p w' → RunsOn p w price w'
    → LeaveGoes p v w price
leave_goes p v w price w' h r back goes runs =
    let room = room_of p v w r in
    let holds = left_holds p v w h r w.state v.cells room.f w' room.found r.cells refl refl back goes in
    let fits = left_fits p v w h r w.state v.cells room.f w' room.found r.cells back in
    let keep = result_is p v w r in
    let view : leave_view p v ≡ left_view v v.cells (is_some r.code.function.result) room.f
    = ap (λ (x : Option Frame). leave_from x (gives_result p v) v) room.found ∙ ap (λ (b : Bool). returned b room.f v) keep in
    record {
      reaches = record { pending = w'; holds = subst (λ (x : View). Holds p x w') (sym view) holds; runs = runs };
      can = record {
        live = is_live p v w r;
        known = is_known p v w r;
        cells = λ g e.
            subst (λ (x : Frame). x.base + count_kept (gives_result p v) ≤ length v.cells) (given_frame room.f g (slice_get v.frames 0) room.found e)
            (subst (λ (b : Bool). room.f.base + count_kept b ≤ length v.cells) (sym keep) fits.cells_fit);
        labels = λ g e. subst (λ (x : Frame). x.opened ≤ length v.labels) (given_frame room.f g (slice_get v.frames 0) room.found e) fits.labels_fit;
      };
    }

streams_left
    : (t : Option ValType) (caller : Caller) (rest : Sequence) (outer : List Around) (st : State) (w' : Pending) → past_call t caller rest outer st ≡ Some w'
    → w'.state.store.streams ≡ st.store.streams
streams_left t caller rest outer st w' e = ap (λ (x : Pending). x.state.store.streams) (comes_with t caller rest outer st w' e).is

pub return_goes
    : (p : Program) (v : View) (rest : Sequence) (around : List Around) (st : State) → Holds p v (pending_at (Plain Return rest) around st)
    → Running p v (pending_at (Plain Return rest) around st) → LeaveGoes p v (pending_at (Plain Return rest) around st) 1
return_goes p v rest around st h r =
    let w = pending_at (Plain Return rest) around st in
    let back = return_typed p h.program v.function Return rest around st r.typing st refl in
    let c = call_of p v w r in
    let here : past_call c.t c.caller c.rest c.outer st ≡ Some back.pending = sym (c.returns st) ∙ back.is in
    leave_goes p v w 1 back.pending h r here back.goes
    (returns_run p Return rest around st st back.pending refl back.is (streams_left c.t c.caller c.rest c.outer st back.pending here))

-- a sequence of the body itself, in no block
record InBody (around : List Around) : Type 0 where
  t : Option ValType
  number : ℕ
  caller : Caller
  rest : Sequence
  outer : List Around
  is : around ≡ AroundCall t number caller rest ∷ outer

in_body
    : (m : Module) (function : Function) (ops : List Op) (stop used locals : ℕ) (entries : List ℕ) (around : List Around) (labels : List Label) (frames : List Frame)
    → Chain m function ops stop used locals entries around labels frames → open_in around ≤ 0 → InBody around
in_body m function ops stop used locals entries [] labels frames chain none = absurd chain
in_body m function ops stop used locals entries (AroundBlock t base rest ∷ around) labels frames chain none = let bad : ⊥ = omega (arith, none) in absurd bad
in_body m function ops stop used locals entries (AroundLoop t base body rest ∷ around) labels frames chain none = let bad : ⊥ = omega (arith, none) in absurd bad
in_body m function ops stop used locals entries (AroundCall t number caller rest ∷ around) labels frames chain none =
    record { t = t; number = number; caller = caller; rest = rest; outer = around; is = refl }
in_body m function ops stop used locals entries (Entering number ∷ around) labels frames chain none = absurd chain

body_goes
    : (p : Program) (v : View) (t : Option ValType) (number : ℕ) (caller : Caller) (rest : Sequence) (outer : List Around) (st : State)
    → Holds p v (pending_at Done (AroundCall t number caller rest ∷ outer) st) → Running p v (pending_at Done (AroundCall t number caller rest ∷ outer) st)
    → LeaveGoes p v (pending_at Done (AroundCall t number caller rest ∷ outer) st) 0
body_goes p v t number caller rest outer st h r =
    let around = AroundCall t number caller rest ∷ outer in
    let w = pending_at Done around st in
    let back = body_ends p v.function t number caller rest outer st r.typing in
    let c = call_of p v w r in
    leave_goes p v w 0 back.pending h r (sym (c.returns st) ∙ back.is) back.goes
    (falls_run p around st back.pending back.is (streams_left t caller rest outer st back.pending back.is))

pub end_goes
    : (p : Program) (v : View) (w : Pending) (f : Frame) → Holds p v w → Running p v w → w.sequence ≡ Done → slice_get v.frames 0 ≡ Some f → length v.labels ≤ f.opened
    → LeaveGoes p v w 0
end_goes p v w f h r done live none =
    let room = room_of p v w r in
    let opened = ap (λ (x : Frame). x.opened) (given_frame room.f f (slice_get v.frames 0) room.found live) in
    let labels = room.labels in
    let b = in_body p.linked r.code.function r.code.body.ops (v.place + size w.sequence) v.used (length w.state.frame.locals) v.entries w.around v.labels v.frames r.chain (omega (arith, labels, opened, none)) in
    let whole : w ≡ pending_at Done (AroundCall b.t b.number b.caller b.rest ∷ b.outer) w.state
    = ap (λ (s : Sequence). record w { sequence = s }) done ∙ ap (λ (xs : List Around). pending_at Done xs w.state) b.is in
    subst (λ (x : Pending). LeaveGoes p v x 0) (sym whole)
    (body_goes p v b.t b.number b.caller b.rest b.outer w.state (subst (λ (x : Pending). Holds p v x) whole h) (subst (λ (x : Pending). Running p v x) whole r))
