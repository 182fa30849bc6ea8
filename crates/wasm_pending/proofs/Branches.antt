-- Branches and returns: the label is there, and what is pending behind it is typed.
use Rattle.std.proofs.Common.{◌≡◌, ◌⊎◌, inl, inr, ℕ, zero, suc, ◌+◌, ◌<◌, ◌≤◌, List, [], ◌∷◌, ◌++◌, Option, Some, None, slice_get, refl, sym, ap, subst, ◌∙◌, option_map, arith}
use Rattle.std.specs.Prelude.{option_to_list}
use Rattle.wasm_ops.specs.Sequence.{Sequence, Done, Plain}
use Rattle.wasm_ops.specs.declared.modules.Module.{Module}
use Rattle.wasm_ops.specs.declared.operators.Op.{Op}
use Rattle.wasm_ops.specs.declared.types.ValType.{ValType}
use Rattle.wasm_meaning.specs.declared.blocks.BlockKind.TheVariants.{BlockBody}
use Rattle.wasm_meaning.specs.Effects.{Branches, Returns}
use Rattle.wasm_meaning.specs.Execution.{Caller, left_call}
use Rattle.wasm_meaning.specs.Fitting.{AreOf, Falls}
use Rattle.wasm_meaning.specs.Operators.{effect}
use Rattle.wasm_meaning.specs.Pending.{Around, AroundBlock, AroundLoop, AroundCall, Entering}
use Rattle.wasm_meaning.specs.Programs.{Program, IsProgram, instance_of, defined}
use Rattle.wasm_meaning.specs.State.{Function, Frame, Store, State, with_operands}
use Rattle.wasm_meaning.specs.TypingOperands.{Walk}
use Rattle.wasm_meaning.specs.Values.{Value}
use Rattle.wasm_meaning.proofs.Fits.{Keeps, keeps_all}
use Rattle.wasm_pending.proofs.Plains.{fits_as, keeps_as}
use Rattle.wasm_pending.proofs.Walks.{same_walk, join_ranged, kept_ranged, placed_behind, ended_are}
use Rattle.wasm_pending.specs.Frames.{open_in, labels_in}
use Rattle.wasm_pending.specs.Goals.{Lands, ComesBack}
use Rattle.wasm_pending.specs.Steps.{pending_at, past_call, branched, returned}
use Rattle.wasm_pending.specs.Typed.{AreRanged, StoreTyped, FrameTyped, CallerTyped, Outermost, TypedAround, Typed, Idle}

-- Labels.

-- no label is outside of the function's own
pub label_within : (f : Function) (around : List Around) (label : ℕ) (due : Option ValType) → slice_get (labels_in f around) label ≡ Some due → label ≤ open_in around
label_within f [] zero due e = omega arith
label_within f [] (suc label) due e = let bad : ⊥ = cc in absurd bad
label_within f (AroundBlock t base rest ∷ around) zero due e = omega arith
label_within f (AroundBlock t base rest ∷ around) (suc label) due e = let more = label_within f around label due e in omega (arith, more)
label_within f (AroundLoop t base body rest ∷ around) zero due e = omega arith
label_within f (AroundLoop t base body rest ∷ around) (suc label) due e = let more = label_within f around label due e in omega (arith, more)
label_within f (AroundCall t function caller rest ∷ around) zero due e = omega arith
label_within f (AroundCall t function caller rest ∷ around) (suc label) due e = let bad : ⊥ = cc in absurd bad
label_within f (Entering function ∷ around) zero due e = omega arith
label_within f (Entering function ∷ around) (suc label) due e = let bad : ⊥ = cc in absurd bad

-- the outermost label takes the function's result
own_label : (f : Function) (around : List Around) → slice_get (labels_in f around) (open_in around) ≡ Some f.result
own_label f [] = refl
own_label f (AroundBlock t base rest ∷ around) =
    let same : 1 + open_in around ≡ suc (open_in around) = omega arith in ap (λ (k : ℕ). slice_get (t ∷ labels_in f around) k) same ∙ own_label f around
own_label f (AroundLoop t base body rest ∷ around) =
    let same : 1 + open_in around ≡ suc (open_in around) = omega arith in ap (λ (k : ℕ). slice_get (None ∷ labels_in f around) k) same ∙ own_label f around
own_label f (AroundCall t function caller rest ∷ around) = refl
own_label f (Entering function ∷ around) = refl

-- a branch to it is a return
pub own_returns : (m : Module) (f : Function) (end : Walk) (around : List Around) (st : State) → TypedAround m f end around → branched (open_in around) around st ≡ returned around st
own_returns m f end [] st outside = absurd outside
own_returns m f end (AroundBlock t base rest ∷ around) st outside =
    let same : 1 + open_in around ≡ suc (open_in around) = omega arith in
    ap (λ (k : ℕ). branched k (AroundBlock t base rest ∷ around) st) same ∙ own_returns m f outside.0.last around st outside.1
own_returns m f end (AroundLoop t base body rest ∷ around) st outside =
    let same : 1 + open_in around ≡ suc (open_in around) = omega arith in
    ap (λ (k : ℕ). branched k (AroundLoop t base body rest ∷ around) st) same ∙ own_returns m f outside.0.last around st outside.1
own_returns m f end (AroundCall t function caller rest ∷ around) st outside = refl
own_returns m f end (Entering function ∷ around) st outside = absurd outside

given_due : (t due : Option ValType) → ◌≡◌ {A = Option (Option ValType)} (Some t) (Some due) → due ≡ t
given_due t due e = cc

-- Branches to blocks and loops.

module _ (program : Program) (function : ℕ) (f : Function) (is : slice_get (defined program.linked) function ≡ Some f) where
  pub lands
      : (end : Walk) (around : List Around) (label : ℕ) (due : Option ValType) (st : State) → TypedAround program.linked f end around → label < open_in around
      → slice_get (labels_in f around) label ≡ Some due → Keeps due st.operands → FrameTyped program.linked f st.frame → StoreTyped program st.store → AreRanged st.operands
      → Lands program function (branched label around st)
  lands end [] label due st outside below found keeps frame store ranged = absurd outside
  lands end (AroundBlock t base rest ∷ around) zero due st outside below found keeps frame store ranged =
      let b = outside.0 in
      let k : Keeps t st.operands = subst (λ (x : Option ValType). Keeps x st.operands) (given_due t due found) keeps in
      record {
        pending = pending_at rest around (with_operands st (k.values ++ base));
        is = ap (λ (o : Option (List Value)). option_map (λ values. pending_at rest around (with_operands st (values ++ base))) o) k.is;
        typed = record {
          runs = f;
          is = is;
          now = _;
          last = b.last;
          placed = placed_behind t b.outer b.closed k.values base around k.are b.placed;
          sequence = b.sequence;
          outside = outside.1;
          frame = frame;
          store = store;
          ranged = join_ranged k.values base (kept_ranged t st.operands k.values k.is ranged) b.ranged;
        };
      }
  lands end (AroundBlock t base rest ∷ around) (suc label) due st outside below found keeps frame store ranged =
      let more = lands outside.0.last around label due st outside.1 (omega (arith, below)) found keeps frame store ranged in
      record { pending = more.pending; is = more.is; typed = more.typed }
  lands end (AroundLoop t base body rest ∷ around) zero due st outside below found keeps frame store ranged =
      let b = outside.0 in
      record {
        pending = _;
        is = refl;
        typed = record {
          runs = f;
          is = is;
          now = b.outer;
          last = b.last;
          placed = b.placed;
          sequence = b.turns;
          outside = outside.1;
          frame = frame;
          store = store;
          ranged = b.ranged;
        };
      }
  lands end (AroundLoop t base body rest ∷ around) (suc label) due st outside below found keeps frame store ranged =
      let more = lands outside.0.last around label due st outside.1 (omega (arith, below)) found keeps frame store ranged in
      record { pending = more.pending; is = more.is; typed = more.typed }
  lands end (AroundCall t w caller rest ∷ around) label due st outside below found keeps frame store ranged = let bad : ⊥ = omega (arith, below) in absurd bad
  lands end (Entering w ∷ around) label due st outside below found keeps frame store ranged = absurd outside

-- Back from a call.

nothing_are : (values : List Value) → AreOf [] values → values ≡ []
nothing_are [] are = refl
nothing_are (v ∷ values) are = absurd are

module _ (program : Program) where
  back_outermost
      : (t : Option ValType) (w : ℕ) (caller : Caller) (rest : Sequence) (around : List Around) (st : State) (values : List Value) → Outermost program.linked t caller rest around
      → AreOf (option_to_list t) values → StoreTyped program st.store → Idle program (pending_at rest around (left_call caller st values))
  back_outermost None w caller rest around st values out are store = record {
    no_sequence = out.no_rest;
    no_operands = ap (λ (vs : List Value). vs ++ caller.operands) (nothing_are values are) ∙ out.no_operands;
    no_locals = out.no_locals;
    no_cells = out.no_cells;
    entries = out.entries;
    store = store;
  }
  back_outermost (Some t) w caller rest around st values out are store = let none = out.no_result in let bad : ⊥ = cc in absurd bad

  back_in_caller
      : (t : Option ValType) (w : ℕ) (caller : Caller) (rest : Sequence) (around : List Around) (st : State) (values : List Value)
      → (c : CallerTyped program.linked t w caller rest around) → TypedAround program.linked c.runs c.last around → AreOf (option_to_list t) values → AreRanged values → StoreTyped program st.store
      → Typed program w (pending_at rest around (left_call caller st values))
  back_in_caller t w caller rest around st values c outside are ranged store = record {
    runs = c.runs;
    is = c.is;
    now = c.now;
    last = c.last;
    placed = c.placed values are;
    sequence = c.sequence;
    outside = outside;
    frame = c.frame;
    store = store;
    ranged = join_ranged values caller.operands ranged c.ranged;
  }

  back_typed
      : (f : Function) (end : Walk) (t : Option ValType) (w : ℕ) (caller : Caller) (rest : Sequence) (around : List Around) (st : State)
      → TypedAround program.linked f end (AroundCall t w caller rest ∷ around) → Keeps f.result st.operands → StoreTyped program st.store → AreRanged st.operands
      → ComesBack program (AroundCall t w caller rest ∷ around) (past_call t caller rest around st)
  back_typed f end t w caller rest around st outside keeps store ranged =
      let k : Keeps t st.operands = subst (λ (x : Option ValType). Keeps x st.operands) (sym outside.0.result) keeps in
      let values_ranged = kept_ranged t st.operands k.values k.is ranged in
      record {
        pending = pending_at rest around (left_call caller st k.values);
        is = ap (λ (o : Option (List Value)). option_map (λ values. pending_at rest around (left_call caller st values)) o) k.is;
        goes = by k.values k.are values_ranged outside.1;
      }
    where
      by
          : (values : List Value) → AreOf (option_to_list t) values → AreRanged values
          → Outermost program.linked t caller rest around ⊎ ((c : CallerTyped program.linked t w caller rest around) × TypedAround program.linked c.runs c.last around)
          → Typed program w (pending_at rest around (left_call caller st values)) ⊎ Idle program (pending_at rest around (left_call caller st values))
      by values are values_ranged (inl out) = inr (back_outermost t w caller rest around st values out are store)
      by values are values_ranged (inr (c, more)) = inl (back_in_caller t w caller rest around st values c more are values_ranged store)

  pub returned_typed
      : (f : Function) (end : Walk) (around : List Around) (st : State) → TypedAround program.linked f end around → Keeps f.result st.operands → StoreTyped program st.store → AreRanged st.operands
      → ComesBack program around (returned around st)
  returned_typed f end [] st outside keeps store ranged = absurd outside
  returned_typed f end (AroundBlock t base rest ∷ around) st outside keeps store ranged =
      let more = returned_typed f outside.0.last around st outside.1 keeps store ranged in record { pending = more.pending; is = more.is; goes = more.goes }
  returned_typed f end (AroundLoop t base body rest ∷ around) st outside keeps store ranged =
      let more = returned_typed f outside.0.last around st outside.1 keeps store ranged in record { pending = more.pending; is = more.is; goes = more.goes }
  returned_typed f end (AroundCall t w caller rest ∷ around) st outside keeps store ranged = back_typed f end t w caller rest around st outside keeps store ranged
  returned_typed f end (Entering w ∷ around) st outside keeps store ranged = absurd outside

-- The operators.

module _ (program : Program) (is : IsProgram program) (function : ℕ) (o : Op) (rest : Sequence) (around : List Around) (st : State) (ty : Typed program function (pending_at (Plain o rest) around st)) where
  -- a branch finds its label
  pub branch_within : (label : ℕ) (after : State) → effect (instance_of program) o st ≡ Branches label after → label ≤ open_in around
  branch_within label after same =
      let fits = fits_as program is function o rest around st ty (Branches label after) same in
      label_within ty.runs around label fits.due fits.found

  -- a branch to a block or a loop
  pub branch_lands : (label : ℕ) (after : State) → effect (instance_of program) o st ≡ Branches label after → label < open_in around → Lands program function (branched label around after)
  branch_lands label after same below =
      let fits = fits_as program is function o rest around st ty (Branches label after) same in
      let keeps = keeps_as program is function o rest around st ty (Branches label after) same in
      lands program function ty.runs ty.is ty.last around label fits.due after ty.outside below fits.found fits.keeps
      (subst (λ (x : Frame). FrameTyped program.linked ty.runs x) (sym keeps.frame) ty.frame) (subst (λ (x : Store). StoreTyped program x) (sym keeps.store) ty.store) (keeps.operands ty.ranged)

  -- a branch to the function's own label
  pub branch_returns : (label : ℕ) (after : State) → effect (instance_of program) o st ≡ Branches label after → label ≡ open_in around → ComesBack program around (branched label around after)
  branch_returns label after same own =
      let fits = fits_as program is function o rest around st ty (Branches label after) same in
      let keeps = keeps_as program is function o rest around st ty (Branches label after) same in
      let found : slice_get (labels_in ty.runs around) (open_in around) ≡ Some fits.due = ap (λ (k : ℕ). slice_get (labels_in ty.runs around) k) (sym own) ∙ fits.found in
      let due = given_due ty.runs.result fits.due (sym (own_label ty.runs around) ∙ found) in
      let back = returned_typed program ty.runs ty.last around after ty.outside (subst (λ (x : Option ValType). Keeps x after.operands) due fits.keeps)
      (subst (λ (x : Store). StoreTyped program x) (sym keeps.store) ty.store) (keeps.operands ty.ranged) in
      record { pending = back.pending; is = ap (λ (k : ℕ). branched k around after) own ∙ own_returns program.linked ty.runs ty.last around after ty.outside ∙ back.is; goes = back.goes }

  pub return_typed : (after : State) → effect (instance_of program) o st ≡ Returns after → ComesBack program around (returned around after)
  return_typed after same =
      let fits = fits_as program is function o rest around st ty (Returns after) same in
      let keeps = keeps_as program is function o rest around st ty (Returns after) same in
      returned_typed program ty.runs ty.last around after ty.outside fits.keeps (subst (λ (x : Store). StoreTyped program x) (sym keeps.store) ty.store) (keeps.operands ty.ranged)

-- the end of a function's body
pub body_ends
    : (program : Program) (function : ℕ) (t : Option ValType) (w : ℕ) (caller : Caller) (rest : Sequence) (around : List Around) (st : State)
    → Typed program function (pending_at Done (AroundCall t w caller rest ∷ around) st)
    → ComesBack program (AroundCall t w caller rest ∷ around) (past_call t caller rest around st)
body_ends program function t w caller rest around st ty =
    let same = same_walk ty.now ty.last ty.sequence.goes in
    let falls = subst (λ (x : Walk). Falls x st.operands) same ty.placed.falls in
    let body = ty.outside.0 in
    let are = ended_are BlockBody ty.runs.result ty.last body.done st.operands body.ends falls in
    back_typed program ty.runs ty.last t w caller rest around st ty.outside (keeps_all ty.runs.result st.operands are) ty.store ty.ranged
