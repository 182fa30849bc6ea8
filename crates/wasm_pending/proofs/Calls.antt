-- Calls and entries: the function that is called is typed where it begins.
use Rattle.std.proofs.Common.{◌≡◌, ◌⊎◌, inl, inr, ℕ, List, [], ◌∷◌, ◌++◌, map, Some, None, slice_get, refl, sym, ap, subst, ◌∙◌, arith}
use Rattle.wasm_ops.specs.Sequence.{Sequence, Done, Plain}
use Rattle.wasm_ops.specs.declared.operators.Op.{Op}
use Rattle.wasm_ops.specs.declared.types.ValType.{ValType}
use Rattle.wasm_meaning.specs.Control.{Arguments, take_arguments}
use Rattle.wasm_meaning.specs.Effects.{Calls}
use Rattle.wasm_meaning.specs.Execution.{caller_of}
use Rattle.wasm_meaning.specs.Fitting.{AreOf}
use Rattle.wasm_meaning.specs.Operators.{effect}
use Rattle.wasm_meaning.specs.Pending.{Around, Entering}
use Rattle.wasm_meaning.specs.Programs.{Program, IsProgram, instance_of, defined}
use Rattle.wasm_meaning.specs.State.{Function, Frame, Store, State}
use Rattle.wasm_meaning.specs.Typing.{next}
use Rattle.wasm_meaning.specs.TypingOperands.{start}
use Rattle.wasm_meaning.specs.Values.{zero_of}
use Rattle.wasm_meaning.proofs.Fits.{append_are, zeros_are, given_some}
use Rattle.wasm_pending.proofs.Effects.{arguments_ranged}
use Rattle.wasm_pending.proofs.Functions.{measured}
use Rattle.wasm_pending.proofs.Plains.{at_operator, fits_as, keeps_as}
use Rattle.wasm_pending.proofs.Walks.{placed_next, join_ranged, zeros_ranged}
use Rattle.wasm_pending.specs.Goals.{Enters}
use Rattle.wasm_pending.specs.Steps.{pending_at, in_call}
use Rattle.wasm_pending.specs.Typed.{AreRanged, StoreTyped, FrameTyped, CallerTyped, Outermost, TypedAround, Typed, Idle}

module _ (program : Program) (is : IsProgram program) where
  -- in a function of the program, with its arguments
  begins
      : (callee caller : ℕ) (f : Function) (taken : Arguments) (rest : Sequence) (around : List Around) (st : State) → slice_get (defined program.linked) callee ≡ Some f
      → AreOf f.params taken.arguments → AreRanged taken.arguments → StoreTyped program st.store
      → (Outermost program.linked f.result (caller_of st taken.under) rest around
      ⊎ ((c : CallerTyped program.linked f.result caller (caller_of st taken.under) rest around) × TypedAround program.linked c.runs c.last around))
      → Typed program callee (in_call f caller taken rest around st)
  begins callee caller f taken rest around st known are ranged store behind =
      let m = measured program is callee f known in
      let nest = m.nest in
      record {
        runs = f;
        is = known;
        now = start;
        last = m.fits.last;
        placed = record { falls = (refl, tt); under = refl; counted = omega arith };
        sequence = record { goes = m.fits.walk; fair = m.fits.fair; nest = omega (arith, nest) };
        outside = (record { done = m.fits.done; result = refl; ends = m.fits.ends; height = m.height }, behind);
        frame = record {
          fits = record { locals = append_are f.params f.locals taken.arguments (map zero_of f.locals) are (zeros_are f.locals); targets = refl };
          locals = join_ranged taken.arguments (map zero_of f.locals) ranged (zeros_ranged f.locals);
        };
        store = store;
        ranged = tt;
      }

  pub call_typed
      : (function callee : ℕ) (f : Function) (o : Op) (rest : Sequence) (around : List Around) (st after : State)
      → Typed program function (pending_at (Plain o rest) around st) → effect (instance_of program) o st ≡ Calls f after → slice_get (defined program.linked) callee ≡ Some f
      → Enters program function callee f rest around after
  call_typed function callee f o rest around st after ty same known =
      let here = at_operator program is function o rest around st ty in
      let fits = fits_as program is function o rest around st ty (Calls f after) same in
      let keeps = keeps_as program is function o rest around st ty (Calls f after) same in
      let both = arguments_ranged f.params after.operands fits.taken fits.takes (keeps.operands ty.ranged) in
      let frame = subst (λ (x : Frame). FrameTyped program.linked ty.runs x) (sym keeps.frame) ty.frame in
      record {
        taken = fits.taken;
        takes = fits.takes;
        typed = begins callee function f fits.taken rest around after known fits.arguments both.0 (subst (λ (x : Store). StoreTyped program x) (sym keeps.store) ty.store)
            (inr (
              record {
                runs = ty.runs;
                is = ty.is;
                now = next here.behind;
                last = ty.last;
                placed = λ values are. placed_next here.behind (values ++ fits.taken.under) around (fits.behind values are) here.under;
                sequence = here.sequence;
                frame = frame;
                ranged = both.1;
              },
              ty.outside,
            ));
      }

  -- a function is entered from outside, whatever number stands for who called
  pub entry_typed
      : (function tag : ℕ) (f : Function) (around : List Around) (st : State) → Idle program (pending_at Done (Entering function ∷ around) st)
      → slice_get (defined program.linked) function ≡ Some f
      → Enters program tag function f Done around st
  entry_typed function tag f around st idle known =
      let can = idle.entries.0 in
      let same : can.runs ≡ f = given_some can.runs f (slice_get (defined program.linked) function) can.is known in
      let no_params : f.params ≡ [] = sym (ap (λ (g : Function). g.params) same) ∙ can.no_params in
      let no_result : f.result ≡ None = sym (ap (λ (g : Function). g.result) same) ∙ can.no_result in
      record {
        taken = record { arguments = []; under = st.operands };
        takes = ap (λ (ts : List ValType). take_arguments ts st.operands) no_params;
        typed = begins function tag f (record { arguments = []; under = st.operands }) Done around st known
            (subst (λ (ts : List ValType). AreOf ts []) (sym no_params) tt) tt idle.store
            (inl (record {
              no_result = no_result;
              no_operands = idle.no_operands;
              no_locals = idle.no_locals;
              no_cells = idle.no_cells;
              no_rest = refl;
              entries = idle.entries.1;
            }));
      }
