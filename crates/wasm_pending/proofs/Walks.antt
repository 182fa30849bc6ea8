-- Small facts of walks, values and frames, which each step uses.
use Rattle.std.proofs.Common.{◌≡◌, suc, Bool, true, false, cond, List, [], ◌∷◌, ◌++◌, length, map, Option, Some, None, Result, Ok, refl, sym, ap, subst, ◌∙◌, arith, append-nil}
use Rattle.std.specs.Prelude.{option_to_list}
use Rattle.wasm_ops.specs.Sequence.{Sequence, Plain}
use Rattle.wasm_ops.specs.declared.modules.Module.{Module}
use Rattle.wasm_ops.specs.declared.operators.Op.{Op}
use Rattle.wasm_ops.specs.declared.types.ValType.{ValType}
use Rattle.wasm_ops.specs.declared.types.ValType.TheVariants.{I32, I64}
use Rattle.wasm_meaning.specs.declared.blocks.BlockKind.{BlockKind}
use Rattle.wasm_meaning.specs.declared.violations.Rule.TheVariants.{IfWithoutElse}
use Rattle.wasm_meaning.specs.declared.violations.Violation.{Violation}
use Rattle.wasm_meaning.specs.Execution.{kept, kept_one}
use Rattle.wasm_meaning.specs.Fitting.{AreOf, Fit, Falls, FrameFits}
use Rattle.wasm_meaning.specs.Pending.{Around}
use Rattle.wasm_meaning.specs.Programs.{Program}
use Rattle.wasm_meaning.specs.State.{Function, Frame, State}
use Rattle.wasm_meaning.specs.Typing.{typed, next, back, lacks_else, emptied_of, emptied, ended}
use Rattle.wasm_meaning.specs.TypingOperands.{Walk, Operand, breaks, take_result, lay_result}
use Rattle.wasm_meaning.specs.ValidityChecks.{go_on}
use Rattle.wasm_meaning.specs.Values.{Value, has_type, zero_of}
use Rattle.wasm_meaning.proofs.Fits.{went, took_result, laid_result}
use Rattle.wasm_meaning.proofs.Ready.{Ready}
use Rattle.wasm_pending.proofs.Grows.{lay_result_same}
use Rattle.wasm_pending.specs.Frames.{in_frame, context}
use Rattle.wasm_pending.specs.Typed.{IsRanged, AreRanged, StoreTyped, FrameTyped, Placed, behind_block, SequenceTyped}

pub same_walk : (x y : Walk) → ◌≡◌ {A = Result Walk Violation} (Ok x) (Ok y) → x ≡ y
same_walk x y e = cc

-- Values.

pub join_ranged : (values others : List Value) → AreRanged values → AreRanged others → AreRanged (values ++ others)
join_ranged [] others a b = b
join_ranged (v ∷ values) others a b = (a.0, join_ranged values others a.1 b)

zero_ranged : (t : ValType) → IsRanged (zero_of t)
zero_ranged I32 = omega arith
zero_ranged I64 = omega arith

pub zeros_ranged : (ts : List ValType) → AreRanged (map zero_of ts)
zeros_ranged [] = tt
zeros_ranged (t ∷ ts) = (zero_ranged t, zeros_ranged ts)

pub kept_ranged : (t : Option ValType) (operands values : List Value) → kept t operands ≡ Some values → AreRanged operands → AreRanged values
kept_ranged None operands values e all = let here : [] ≡ values = cc in subst (λ (xs : List Value). AreRanged xs) here tt
kept_ranged (Some t) [] values e all = let bad : ⊥ = cc in absurd bad
kept_ranged (Some t) (v ∷ operands) values e all = by (has_type t v) e
  where
    by : (b : Bool) → kept_one b v ≡ Some values → AreRanged values
    by true f = let here : v ∷ [] ≡ values = cc in subst (λ (xs : List Value). AreRanged xs) here (all.0, tt)
    by false f = let bad : ⊥ = cc in absurd bad

-- Frames.

pub ready_of
    : (program : Program) (f : Function) (around : List Around) (st : State) → FrameTyped program.linked f st.frame → StoreTyped program st.store
    → Ready (context program.linked f around) st
ready_of program f around st frame store =
    record { frame = record { locals = frame.fits.locals; targets = frame.fits.targets }; store = store.fits }

pub frame_of
    : (m : Module) (f : Function) (around : List Around) (frame : Frame) → FrameFits (context m f around) frame → AreRanged frame.locals → FrameTyped m f frame
frame_of m f around frame fits ranged = record { fits = record { locals = fits.locals; targets = fits.targets }; locals = ranged }

-- Placing.

pub fit_length : (types : List Operand) (values : List Value) → Fit types values → length types ≡ length values
fit_length [] [] fit = refl
fit_length [] (v ∷ values) fit = absurd fit
fit_length (t ∷ types) [] fit = absurd fit
fit_length (t ∷ types) (v ∷ values) fit = ap suc (fit_length types values fit.1)

-- behind an operator
pub placed_next : (after : Walk) (operands : List Value) (around : List Around) → Falls after operands → after.under ≡ in_frame around → Placed (next after) operands around
placed_next after operands around falls under = record { falls = (falls.0, falls.1); under = under; counted = omega arith }

-- behind a block, whose result is laid on the list around it
pub placed_behind
    : (t : Option ValType) (outer closed : Walk) (values base : List Value) (around : List Around) → AreOf (option_to_list t) values → Placed outer base around
    → Placed (behind_block t outer closed) (values ++ base) around
placed_behind t outer closed values base around are placed =
    let laid = laid_result t values base (back outer closed) are (placed.falls.0, placed.falls.1) in
    let same = lay_result_same t (back outer closed) in
    placed_next (lay_result t (back outer closed)) (values ++ base) around laid (same.under ∙ placed.under)

pub rest_typed
    : (m : Module) (f : Function) (o : Op) (rest : Sequence) (now after last : Walk) (around : List Around) → SequenceTyped m f (Plain o rest) now last around
    → typed (context m f around) rest (next after) ≡ Ok last → SequenceTyped m f rest (next after) last around
rest_typed m f o rest now after last around s goes = record { goes = goes; fair = s.fair.2; nest = s.nest }

-- The end of a block.

nothing_under : (types : List Operand) (now done : Walk) (values : List Value) → emptied_of types now ≡ Ok done → Fit types values → values ≡ []
nothing_under [] now done [] e fit = refl
nothing_under [] now done (v ∷ values) e fit = absurd fit
nothing_under (t ∷ types) now done values e fit = let bad : ⊥ = cc in absurd bad

-- the operands there are its result
pub ended_are
    : (kind : BlockKind) (t : Option ValType) (inner done : Walk) (values : List Value) → ended kind t inner ≡ Ok done → Falls inner values
    → AreOf (option_to_list t) values
ended_are kind t inner done values e falls = by (lacks_else kind t) e
  where
    by : (b : Bool) → cond b (breaks IfWithoutElse inner) (go_on (take_result t inner) emptied) ≡ Ok done → AreOf (option_to_list t) values
    by true f = let bad : ⊥ = cc in absurd bad
    by false f =
        let w = went (take_result t inner) emptied done f in
        let r = took_result t inner w.middle values w.first falls in
        let none = nothing_under w.middle.types w.middle done r.under w.second r.rest.1 in
        let same : values ≡ r.keeps.values = r.whole ∙ ap (λ (xs : List Value). r.keeps.values ++ xs) none ∙ append-nil r.keeps.values in
        subst (λ (xs : List Value). AreOf (option_to_list t) xs) (sym same) r.keeps.are
