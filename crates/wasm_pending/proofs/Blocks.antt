-- Blocks, loops and ifs: what is pending stays typed where they are opened, and where their ends are reached.
use Rattle.std.proofs.Common.{◌≡◌, ℕ, ◌+◌, ◌<◌, ◌≤◌, true, false, List, [], ◌∷◌, ◌++◌, length, Option, Some, None, Ok, slice_get, refl, sym, ap, subst, ◌∙◌, arith}
use Rattle.wasm_ops.specs.Sequence.{Sequence, Done, InBlock, InLoop, InIf, InIfElse}
use Rattle.wasm_ops.specs.Values.{IsOfType}
use Rattle.wasm_ops.specs.declared.types.ValType.{ValType}
use Rattle.wasm_ops.specs.declared.types.ValType.TheVariants.{I32}
use Rattle.wasm_meaning.specs.declared.blocks.BlockKind.TheVariants.{BlockBody, LoopBody, ThenBranch, ElseBranch}
use Rattle.wasm_meaning.specs.Fitting.{Fit, Falls, IsFair}
use Rattle.wasm_meaning.specs.Pending.{Around, AroundBlock, AroundLoop}
use Rattle.wasm_meaning.specs.Programs.{Program, defined}
use Rattle.wasm_meaning.specs.State.{Function, State, with_operands}
use Rattle.wasm_meaning.specs.Typing.{typed, depth, next, enter, within, ended, back, leave, turn}
use Rattle.wasm_meaning.specs.TypingOperands.{Walk, Operand, take_off, lay_result}
use Rattle.wasm_meaning.specs.ValidityChecks.{go_on}
use Rattle.wasm_meaning.specs.Values.{Value, Int32, Int64, has_type, number_in}
use Rattle.wasm_meaning.proofs.Fits.{went, off}
use Rattle.wasm_pending.proofs.Grows.{ended_same, take_off_same, typed_grows}
use Rattle.wasm_pending.proofs.Walks.{same_walk, fit_length, placed_behind, ended_are, join_ranged}
use Rattle.wasm_pending.specs.Frames.{in_frame, open_in, context}
use Rattle.wasm_pending.specs.Goals.{Chooses}
use Rattle.wasm_pending.specs.Steps.{pending_at, in_block, in_loop}
use Rattle.wasm_pending.specs.Typed.{IsRanged, AreRanged, StoreTyped, FrameTyped, Placed, behind_block, SequenceTyped, TypedAround, Typed}

-- at the first operator of a block
placed_inside
    : (outer entry : Walk) (base : List Value) (around inner : List Around) → entry.loose ≡ false → entry.types ≡ [] → entry.under ≡ outer.under + length outer.types
    → outer.most ≤ entry.most → in_frame inner ≡ length base + in_frame around → Placed outer base around → Placed entry [] inner
placed_inside outer entry base around inner firm none under most frame placed =
    let long = fit_length outer.types base placed.falls.1 in
    let no_more : length entry.types ≡ 0 = ap (λ (ts : List Operand). length ts) none in
    record {
      falls = (firm, subst (λ (ts : List Operand). Fit ts []) (sym none) tt);
      under = omega (arith, under, long, frame, placed.under);
      counted = omega (arith, under, most, no_more, placed.counted);
    }

module _ (program : Program) (function : ℕ) where
  -- a block's inner sequence, whose end is known, with what follows
  block_inside
      : (t : Option ValType) (body rest : Sequence) (around : List Around) (st : State) (f : Function) (outer entry inner done closed last : Walk)
      → slice_get (defined program.linked) function ≡ Some f
      → Placed outer st.operands around → entry.loose ≡ false → entry.types ≡ [] → entry.under ≡ outer.under + length outer.types → outer.most ≤ entry.most
      → typed (within BlockBody t (context program.linked f around)) body entry ≡ Ok inner
      → ended BlockBody t inner ≡ Ok done → inner.most ≤ closed.most
      → IsFair (length f.targets) body → open_in around + (depth body + 1) ≤ f.nest
      → SequenceTyped program.linked f rest (behind_block t outer closed) last around
      → TypedAround program.linked f last around
      → FrameTyped program.linked f st.frame → StoreTyped program st.store → AreRanged st.operands
      → Typed program function (in_block t body rest around st)
  block_inside t body rest around st f outer entry inner done closed last is placed firm none under most goes ends counted fair nest behind outside frame store ranged = record {
    runs = f;
    is = is;
    now = entry;
    last = inner;
    placed = placed_inside outer entry st.operands around (AroundBlock t st.operands rest ∷ around) firm none under most refl placed;
    sequence = record { goes = goes; fair = fair; nest = omega (arith, nest) };
    outside = (
      record { outer = outer; done = done; closed = closed; last = last; ends = ends; counted = counted; placed = placed; sequence = behind; ranged = ranged },
      outside,
    );
    frame = frame;
    store = store;
    ranged = tt;
  }

  pub block_typed
      : (t : Option ValType) (body rest : Sequence) (around : List Around) (st : State) → Typed program function (pending_at (InBlock t body rest) around st)
      → Typed program function (in_block t body rest around st)
  block_typed t body rest around st ty =
      let cx = context program.linked ty.runs around in
      let now = ty.now in
      let w = went (typed (within BlockBody t cx) body (enter now)) (λ inner. go_on (leave BlockBody t now inner) (λ x. typed cx rest x)) ty.last ty.sequence.goes in
      let v = went (leave BlockBody t now w.middle) (λ x. typed cx rest x) ty.last w.second in
      let l = went (ended BlockBody t w.middle) (λ done. Ok (next (lay_result t (back now done)))) v.middle v.first in
      let behind = subst (λ (x : Walk). typed cx rest x ≡ Ok ty.last) (sym (same_walk (behind_block t now l.middle) v.middle l.second)) v.second in
      let same = ended_same BlockBody t w.middle l.middle l.first in
      let nest = ty.sequence.nest in
      block_inside t body rest around st ty.runs now (enter now) w.middle l.middle l.middle ty.last ty.is ty.placed refl refl refl (omega arith) w.first l.first
      (omega (arith, same.most)) ty.sequence.fair.0 (omega (arith, nest)) (record { goes = behind; fair = ty.sequence.fair.1; nest = omega (arith, nest) }) ty.outside
      ty.frame ty.store ty.ranged

  pub loop_typed
      : (t : Option ValType) (body rest : Sequence) (around : List Around) (st : State) → Typed program function (pending_at (InLoop t body rest) around st)
      → Typed program function (in_loop t body rest around st)
  loop_typed t body rest around st ty =
      let cx = context program.linked ty.runs around in
      let now = ty.now in
      let w = went (typed (within LoopBody t cx) body (enter now)) (λ inner. go_on (leave LoopBody t now inner) (λ x. typed cx rest x)) ty.last ty.sequence.goes in
      let v = went (leave LoopBody t now w.middle) (λ x. typed cx rest x) ty.last w.second in
      let l = went (ended LoopBody t w.middle) (λ done. Ok (next (lay_result t (back now done)))) v.middle v.first in
      let behind = subst (λ (x : Walk). typed cx rest x ≡ Ok ty.last) (sym (same_walk (behind_block t now l.middle) v.middle l.second)) v.second in
      let same = ended_same LoopBody t w.middle l.middle l.first in
      let nest = ty.sequence.nest in
      record {
        runs = ty.runs;
        is = ty.is;
        now = enter now;
        last = w.middle;
        placed = placed_inside now (enter now) st.operands around (AroundLoop t st.operands body rest ∷ around) refl refl refl (omega arith) refl ty.placed;
        sequence = record { goes = w.first; fair = ty.sequence.fair.0; nest = omega (arith, nest) };
        outside = (
          record {
            outer = now;
            done = l.middle;
            closed = l.middle;
            last = ty.last;
            ends = l.first;
            counted = omega (arith, same.most);
            placed = ty.placed;
            turns = ty.sequence;
            sequence = record { goes = behind; fair = ty.sequence.fair.1; nest = omega (arith, nest) };
            ranged = ty.ranged;
          },
          ty.outside,
        );
        frame = ty.frame;
        store = ty.store;
        ranged = tt;
      }

  -- the operands without the last one, which is an i32
  number_small : (value : Value) → has_type I32 value ≡ true → IsRanged value → IsOfType I32 (number_in value)
  number_small (Int32 n) has ranged = ranged
  number_small (Int64 n) has ranged = let bad : ⊥ = cc in absurd bad

  placed_under : (now outer : Walk) (operands under : List Value) (around : List Around) → take_off (Some I32) now ≡ Ok outer → Falls outer under → length under < length operands
      → Placed now operands around → Placed outer under around
  placed_under now outer operands under around e falls less placed =
      let same = take_off_same (Some I32) now outer e in
      let a = fit_length now.types operands placed.falls.1 in
      let b = fit_length outer.types under falls.1 in
      record { falls = falls; under = same.under ∙ placed.under; counted = omega (arith, a, b, less, same.under, same.most, placed.counted) }

  -- an if without an else has no result
  no_else : (t : Option ValType) (inner done : Walk) → ended ThenBranch t inner ≡ Ok done → t ≡ None
  no_else None inner done e = refl
  no_else (Some t) inner done e = let bad : ⊥ = cc in absurd bad

  -- past an if without an else, as behind it
  passed
      : (t : Option ValType) (rest : Sequence) (around : List Around) (st : State) (f : Function) (outer closed last : Walk) → t ≡ None
      → slice_get (defined program.linked) function ≡ Some f → Placed outer st.operands around
      → SequenceTyped program.linked f rest (behind_block t outer closed) last around → TypedAround program.linked f last around
      → FrameTyped program.linked f st.frame → StoreTyped program st.store → AreRanged st.operands
      → Typed program function (pending_at rest around st)
  passed None rest around st f outer closed last none is placed behind outside frame store ranged = record {
    runs = f;
    is = is;
    now = behind_block None outer closed;
    last = last;
    placed = placed_behind None outer closed [] st.operands around tt placed;
    sequence = behind;
    outside = outside;
    frame = frame;
    store = store;
    ranged = ranged;
  }
  passed (Some t) rest around st f outer closed last none is placed behind outside frame store ranged = let bad : ⊥ = cc in absurd bad

  pub if_typed
      : (t : Option ValType) (inner rest : Sequence) (around : List Around) (st : State) → Typed program function (pending_at (InIf t inner rest) around st)
      → Chooses program function (λ under. in_block t inner rest around under) (λ under. pending_at rest around under) (λ taken. with_operands st taken.under) st
  if_typed t inner rest around st ty =
      let cx = context program.linked ty.runs around in
      let now = ty.now in
      let o = went (take_off (Some I32) now) (λ outer. go_on (typed (within ThenBranch t cx) inner (enter outer)) (λ one. go_on (leave ThenBranch t outer one) (λ x. typed cx rest x))) ty.last ty.sequence.goes in
      let outer = o.middle in
      let w = went (typed (within ThenBranch t cx) inner (enter outer)) (λ one. go_on (leave ThenBranch t outer one) (λ x. typed cx rest x)) ty.last o.second in
      let v = went (leave ThenBranch t outer w.middle) (λ x. typed cx rest x) ty.last w.second in
      let l = went (ended ThenBranch t w.middle) (λ done. Ok (next (lay_result t (back outer done)))) v.middle v.first in
      let none = no_else t w.middle l.middle l.first in
      let ends : ended BlockBody t w.middle ≡ Ok l.middle = as_block t w.middle l.middle none l.first in
      let behind = subst (λ (x : Walk). typed cx rest x ≡ Ok ty.last) (sym (same_walk (behind_block t outer l.middle) v.middle l.second)) v.second in
      let same = ended_same ThenBranch t w.middle l.middle l.first in
      let nest = ty.sequence.nest in
      let n = off I32 now outer st.operands o.first ty.placed.falls in
      let long = ap (λ (vs : List Value). length vs) n.is in
      let all = subst (λ (vs : List Value). AreRanged vs) n.is ty.ranged in
      let placed = placed_under now outer st.operands n.under around o.first n.rest (omega (arith, long)) ty.placed in
      let rest_is : SequenceTyped program.linked ty.runs rest (behind_block t outer l.middle) ty.last around = record { goes = behind; fair = ty.sequence.fair.1; nest = omega (arith, nest) } in
      record {
        taken = record { number = number_in n.value; under = n.under };
        takes = n.taken;
        small = number_small n.value n.has all.0;
        then_typed = block_inside t inner rest around (with_operands st n.under) ty.runs outer (enter outer) w.middle l.middle l.middle ty.last ty.is placed refl refl refl (omega arith) w.first ends
            (omega (arith, same.most)) ty.sequence.fair.0 (omega (arith, nest)) rest_is ty.outside ty.frame ty.store all.1;
        else_typed = passed t rest around (with_operands st n.under) ty.runs outer l.middle ty.last none ty.is placed rest_is ty.outside ty.frame ty.store all.1;
      }
    where
      as_block : (t : Option ValType) (inner done : Walk) → t ≡ None → ended ThenBranch t inner ≡ Ok done → ended BlockBody t inner ≡ Ok done
      as_block None inner done none e = e
      as_block (Some t) inner done none e = let bad : ⊥ = cc in absurd bad

  pub if_else_typed
      : (t : Option ValType) (inner other rest : Sequence) (around : List Around) (st : State) → Typed program function (pending_at (InIfElse t inner other rest) around st)
      → Chooses program function (λ under. in_block t inner rest around under) (λ under. in_block t other rest around under) (λ taken. with_operands st taken.under) st
  if_else_typed t inner other rest around st ty =
      let cx = context program.linked ty.runs around in
      let now = ty.now in
      let o = went (take_off (Some I32) now) (λ outer.
      go_on (typed (within ThenBranch t cx) inner (enter outer)) (λ one.
      go_on (turn t outer one) (λ between.
      go_on (typed (within ElseBranch t cx) other between) (λ two.
      go_on (leave ElseBranch t outer two) (λ x. typed cx rest x))))) ty.last ty.sequence.goes in
      let outer = o.middle in
      let w = went (typed (within ThenBranch t cx) inner (enter outer)) (λ one.
      go_on (turn t outer one) (λ between.
      go_on (typed (within ElseBranch t cx) other between) (λ two.
      go_on (leave ElseBranch t outer two) (λ x. typed cx rest x)))) ty.last o.second in
      let b = went (turn t outer w.middle) (λ between.
      go_on (typed (within ElseBranch t cx) other between) (λ two.
      go_on (leave ElseBranch t outer two) (λ x. typed cx rest x))) ty.last w.second in
      let u = went (typed (within ElseBranch t cx) other b.middle) (λ two. go_on (leave ElseBranch t outer two) (λ x. typed cx rest x)) ty.last b.second in
      let v = went (leave ElseBranch t outer u.middle) (λ x. typed cx rest x) ty.last u.second in
      let first = went (ended ElseBranch t w.middle) (λ done. Ok (enter (back outer done))) b.middle b.first in
      let l = went (ended ElseBranch t u.middle) (λ done. Ok (next (lay_result t (back outer done)))) v.middle v.first in
      let between : enter (back outer first.middle) ≡ b.middle = same_walk (enter (back outer first.middle)) b.middle first.second in
      let behind = subst (λ (x : Walk). typed cx rest x ≡ Ok ty.last) (sym (same_walk (behind_block t outer l.middle) v.middle l.second)) v.second in
      let same_one = ended_same ElseBranch t w.middle first.middle first.first in
      let same_two = ended_same ElseBranch t u.middle l.middle l.first in
      let between_most = ap (λ (x : Walk). x.most) between in
      let one_grows = typed_grows (within ThenBranch t cx) inner (enter outer) w.middle w.first in
      let other_grows = typed_grows (within ElseBranch t cx) other b.middle u.middle u.first in
      let nest = ty.sequence.nest in
      let n = off I32 now outer st.operands o.first ty.placed.falls in
      let long = ap (λ (vs : List Value). length vs) n.is in
      let all = subst (λ (vs : List Value). AreRanged vs) n.is ty.ranged in
      let placed = placed_under now outer st.operands n.under around o.first n.rest (omega (arith, long)) ty.placed in
      let rest_is : SequenceTyped program.linked ty.runs rest (behind_block t outer l.middle) ty.last around = record { goes = behind; fair = ty.sequence.fair.2; nest = omega (arith, nest) } in
      record {
        taken = record { number = number_in n.value; under = n.under };
        takes = n.taken;
        small = number_small n.value n.has all.0;
        then_typed = block_inside t inner rest around (with_operands st n.under) ty.runs outer (enter outer) w.middle first.middle l.middle ty.last ty.is placed refl refl refl (omega arith) w.first first.first
            (omega (arith, same_one.most, between_most, other_grows, same_two.most)) ty.sequence.fair.0 (omega (arith, nest)) rest_is ty.outside ty.frame ty.store all.1;
        else_typed = block_inside t other rest around (with_operands st n.under) ty.runs outer b.middle u.middle l.middle l.middle ty.last ty.is placed
            (sym (ap (λ (x : Walk). x.loose) between)) (sym (ap (λ (x : Walk). x.types) between)) (sym (ap (λ (x : Walk). x.under) between))
            (omega (arith, between_most, one_grows, same_one.most)) u.first l.first
            (omega (arith, same_two.most)) ty.sequence.fair.1 (omega (arith, nest)) rest_is ty.outside ty.frame ty.store all.1;
      }

  -- Ends.

  pub block_ends
      : (t : Option ValType) (base : List Value) (rest : Sequence) (around : List Around) (st : State)
      → Typed program function (pending_at Done (AroundBlock t base rest ∷ around) st)
      → Typed program function (pending_at rest around (with_operands st (st.operands ++ base)))
  block_ends t base rest around st ty =
      let b = ty.outside.0 in
      let same = same_walk ty.now ty.last ty.sequence.goes in
      let falls = subst (λ (x : Walk). Falls x st.operands) same ty.placed.falls in
      let are = ended_are BlockBody t ty.last b.done st.operands b.ends falls in
      record {
        runs = ty.runs;
        is = ty.is;
        now = behind_block t b.outer b.closed;
        last = b.last;
        placed = placed_behind t b.outer b.closed st.operands base around are b.placed;
        sequence = b.sequence;
        outside = ty.outside.1;
        frame = ty.frame;
        store = ty.store;
        ranged = join_ranged st.operands base ty.ranged b.ranged;
      }

  pub loop_ends
      : (t : Option ValType) (base : List Value) (body rest : Sequence) (around : List Around) (st : State)
      → Typed program function (pending_at Done (AroundLoop t base body rest ∷ around) st)
      → Typed program function (pending_at rest around (with_operands st (st.operands ++ base)))
  loop_ends t base body rest around st ty =
      let b = ty.outside.0 in
      let same = same_walk ty.now ty.last ty.sequence.goes in
      let falls = subst (λ (x : Walk). Falls x st.operands) same ty.placed.falls in
      let are = ended_are LoopBody t ty.last b.done st.operands b.ends falls in
      record {
        runs = ty.runs;
        is = ty.is;
        now = behind_block t b.outer b.closed;
        last = b.last;
        placed = placed_behind t b.outer b.closed st.operands base around are b.placed;
        sequence = b.sequence;
        outside = ty.outside.1;
        frame = ty.frame;
        store = ty.store;
        ranged = join_ranged st.operands base ty.ranged b.ranged;
      }
