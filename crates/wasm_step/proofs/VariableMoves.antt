-- Locals and globals: what their operators find, and how they move the vessel.
use Rattle.std.proofs.Common.{◌≡◌, ℕ, ◌+◌, ◌<◌, ◌≤◌, ◌^◌, List, ◌∷◌, ◌++◌, length, reverse, drop, Option, Some, slice_get, slice_set, refl, sym, ap, subst, ◌∙◌, length-drop, arith}
use Rattle.wasm_ops.specs.Sequence.{Sequence, Plain}
use Rattle.wasm_ops.specs.declared.operators.Op.{Op}
use Rattle.wasm_ops.specs.declared.operators.Op.TheVariants as op
use Rattle.wasm_meaning.specs.Effects.{Goes, gives}
use Rattle.wasm_meaning.specs.Operators.{effect}
use Rattle.wasm_meaning.specs.Pending.{Around}
use Rattle.wasm_meaning.specs.Programs.{Program, instance_of}
use Rattle.wasm_meaning.specs.State.{State, with_operands, with_locals, with_globals}
use Rattle.wasm_meaning.specs.Values.{Value, number_in, numbers}
use Rattle.wasm_meaning.specs.Variable.{local_set_from, local_tee_from, sets_locals, global_set_from, sets_globals}
use Rattle.wasm_meaning.proofs.ModuleFacts.{is_within, all_at}
use Rattle.wasm_pending.specs.Steps.{pending_at}
use Rattle.wasm_pending.specs.Typed.{IsRanged, AreRanged}
use Rattle.wasm_store.specs.View.{View}
use Rattle.wasm_store.specs.declared.calls.Frame.{Frame}
use Rattle.wasm_states.proofs.ChainLaws.{length-numbers}
use Rattle.wasm_states.proofs.StateLaws.{push_fits, room_of}
use Rattle.wasm_states.specs.Chains.{cells_under}
use Rattle.wasm_states.specs.Holding.{Holds}
use Rattle.wasm_states.specs.Running.{Running}
use Rattle.wasm_states.specs.Steps.{Moves}
use Rattle.wasm_step.proofs.CellLaws.{length_set, numbers_get, numbers_set, set_ranged, lying, local_cell, local_set_cell}
use Rattle.wasm_step.proofs.Going.{plainly, fits_in, has_all, Going, going_moves, stack_goes, top_number, rest_numbers, some_cell}
use Rattle.wasm_step.proofs.NumericMoves.{popped, pushed, moved_as}
use Rattle.wasm_step.proofs.Shapes.{Got, get_has, Set, local_set_has, local_tee_has, global_set_has}
use Rattle.wasm_step.specs.Arms.{before, IsAt}
use Rattle.wasm_ops.specs.Sequence.{IsPlain}

-- the call that runs has its frame
pub live_frame : (p : Program) (v : View) (o : Op) → IsAt p v o → IsPlain o → 0 < length v.frames
live_frame p v o at plain =
    let w = plainly p v o at plain in
    let room = room_of p (before v) (pending_at (Plain o w.rest) w.around w.st) w.runs in
    let has = is_within v.frames 0 room.f room.found in
    omega (arith, has)

-- a place among cells is no large number
pub small_place : (base index count : ℕ) → base + index < count → count ≤ 65536 → base + index < 2 ^ 32
small_place base index count within few = omega (arith, within, few)

-- a frame that a vessel still has
pub frame_as : (v v1 : View) (f : Frame) → v1 ≡ popped v → slice_get v.frames 0 ≡ Some f → slice_get v1.frames 0 ≡ Some f
frame_as v v1 f off found = ap (λ (x : View). slice_get x.frames 0) off ∙ found

-- local.get

module _ (p : Program) (v : View) (index : ℕ) (at : IsAt p v (op.LocalGet index)) (f : Frame) (found : slice_get v.frames 0 ≡ Some f) where
  get_at
      : (rest : Sequence) (around : List Around) (st : State) → Holds p (before v) (pending_at (Plain (op.LocalGet index) rest) around st)
      → Running p (before v) (pending_at (Plain (op.LocalGet index) rest) around st) → Got (slice_get st.frame.locals index)
  get_at rest around st h r = get_has (slice_get st.frame.locals index) st (has_all p v (op.LocalGet index) rest around st h r)

  pub get_within : f.base + index < length v.cells
  get_within =
      let w = plainly p v (op.LocalGet index) at refl in
      let u = get_at w.rest w.around w.st w.holds w.runs in
      let l = lying p (before v) (Plain (op.LocalGet index) w.rest) w.around w.st f w.runs found in
      let within = is_within w.st.frame.locals index u.value u.is in
      let many = l.many in
      omega (arith, within, many)

  get_gives
      : (rest : Sequence) (around : List Around) (st : State) → Holds p (before v) (pending_at (Plain (op.LocalGet index) rest) around st)
      → Running p (before v) (pending_at (Plain (op.LocalGet index) rest) around st) → (n : ℕ) → slice_get (reverse v.cells) (f.base + index) ≡ Some n
      → Going p v (op.LocalGet index) around st v.memory v.globals (n ∷ v.cells)
  get_gives rest around st h r n top =
      let u = get_at rest around st h r in
      let l = lying p (before v) (Plain (op.LocalGet index) rest) around st f r found in
      let within = is_within st.frame.locals index u.value u.is in
      let same : n ≡ number_in u.value =
      local_cell v.cells st.operands st.frame.locals l.front l.low f.base index n u.value (r.cells ∙ ap (λ (ns : List ℕ). numbers st.operands ++ ns) (l.under st.frame.locals)) l.base u.is within top in
      let goes : effect (instance_of p) (op.LocalGet index) st ≡ Goes (with_operands st (u.value ∷ st.operands)) = ap (λ (o : Option Value). gives o st) u.is in
      stack_goes p v (op.LocalGet index) rest around st (u.value ∷ st.operands) (n ∷ v.cells) h r goes
      (ap (λ (k : ℕ). k ∷ v.cells) same ∙ ap (λ (ns : List ℕ). number_in u.value ∷ ns) r.cells)
      (all_at IsRanged st.frame.locals index u.value r.typing.frame.locals u.is, r.typing.ranged)

  pub get_moves : (v1 : View) (n : ℕ) → slice_get (reverse v.cells) (f.base + index) ≡ Some n → v1 ≡ pushed n v → Moves p (before v) v1 1
  get_moves v1 n top on =
      moved_as p (before v) (pushed n v) v1 1 on
      (going_moves p v (op.LocalGet index) at refl v.memory v.globals (n ∷ v.cells) (λ rest around st h r. get_gives rest around st h r n top))

  pub get_room : (n : ℕ) → slice_get (reverse v.cells) (f.base + index) ≡ Some n → length v.cells < 65536
  get_room n top = push_fits p (before v) (pushed n v) 1 n at.state (get_moves (pushed n v) n top refl) refl

-- local.set

module _ (p : Program) (v : View) (index : ℕ) (at : IsAt p v (op.LocalSet index)) where
  set_at
      : (rest : Sequence) (around : List Around) (st : State) → Holds p (before v) (pending_at (Plain (op.LocalSet index) rest) around st)
      → Running p (before v) (pending_at (Plain (op.LocalSet index) rest) around st) → Set st.frame.locals index st.operands
  set_at rest around st h r = local_set_has index st.operands st (has_all p v (op.LocalSet index) rest around st h r)

  pub set_some : 0 < length v.cells
  set_some =
      let w = plainly p v (op.LocalSet index) at refl in
      let u = set_at w.rest w.around w.st w.holds w.runs in
      some_cell v.cells (cells_under w.st.frame.locals w.around) w.st.operands u.under u.value w.runs.cells u.is

  module _ (f : Frame) (found : slice_get v.frames 0 ≡ Some f) where
    pub set_within : (v1 : View) → v1 ≡ popped v → f.base + index < length v1.cells
    set_within v1 off =
        let w = plainly p v (op.LocalSet index) at refl in
        let u = set_at w.rest w.around w.st w.holds w.runs in
        let l = lying p (before v) (Plain (op.LocalSet index) w.rest) w.around w.st f w.runs found in
        let within = is_within w.st.frame.locals index u.old u.found in
        let free = l.free in
        let some = ap (λ (vs : List Value). length vs) u.is in
        let long = ap (λ (x : View). length x.cells) off in
        omega (arith, within, free, some, long, length-drop 1 v.cells)

    pub set_few : (v1 : View) → v1 ≡ popped v → f.base + index < 2 ^ 32
    set_few v1 off =
        let within = set_within v1 off in
        let few = fits_in p v (op.LocalSet index) at in
        let long = ap (λ (x : View). length x.cells) off in
        omega (arith, within, few, long, length-drop 1 v.cells)

    set_gives
        : (rest : Sequence) (around : List Around) (st : State) → Holds p (before v) (pending_at (Plain (op.LocalSet index) rest) around st)
        → Running p (before v) (pending_at (Plain (op.LocalSet index) rest) around st) → (n : ℕ) → slice_get v.cells 0 ≡ Some n
        → Going p v (op.LocalSet index) around st v.memory v.globals (reverse (slice_set (reverse (drop 1 v.cells)) (f.base + index) n))
    set_gives rest around st h r n top =
        let u = set_at rest around st h r in
        let low = cells_under st.frame.locals around in
        let l = lying p (before v) (Plain (op.LocalSet index) rest) around st f r found in
        let within = is_within st.frame.locals index u.old u.found in
        let same = top_number v.cells low st.operands u.under u.value n r.cells u.is top in
        let are : drop 1 v.cells ≡ numbers u.under ++ (l.front ++ (reverse (numbers st.frame.locals) ++ l.low)) =
        rest_numbers v.cells low st.operands u.under u.value r.cells u.is ∙ ap (λ (ns : List ℕ). numbers u.under ++ ns) (l.under st.frame.locals) in
        let cells_are : reverse (slice_set (reverse (drop 1 v.cells)) (f.base + index) n) ≡ numbers u.under ++ cells_under (slice_set st.frame.locals index u.value) around =
        ap (λ (k : ℕ). reverse (slice_set (reverse (drop 1 v.cells)) (f.base + index) k)) same
        ∙ local_set_cell (drop 1 v.cells) u.under st.frame.locals l.front l.low f.base index u.value are l.base within
        ∙ ap (λ (ns : List ℕ). numbers u.under ++ ns) (sym (l.under (slice_set st.frame.locals index u.value))) in
        let all = subst (λ (vs : List Value). AreRanged vs) u.is r.typing.ranged in
        record {
          to = with_locals (with_operands st u.under) (slice_set st.frame.locals index u.value);
          goes = ap (λ (vs : List Value). local_set_from vs index st) u.is ∙ ap (λ (ls : Option (List Value)). sets_locals ls (with_operands st u.under)) u.replaces;
          keeps = record {
            memory_is = h.store.memory;
            globals_are = h.store.globals;
            table_is = refl;
            cells_are = cells_are;
            as_many_locals = length_set st.frame.locals index u.value;
            operands_ranged = all.1;
            locals_ranged = set_ranged st.frame.locals index u.value r.typing.frame.locals all.0;
            globals_ranged = r.typing.store.globals;
          };
        }

    pub set_moves
        : (v1 v2 : View) (n : ℕ) → slice_get v.cells 0 ≡ Some n → v1 ≡ popped v → v2 ≡ record v1 { cells = reverse (slice_set (reverse v1.cells) (f.base + index) n) }
        → Moves p (before v) v2 1
    set_moves v1 v2 n top off on =
        moved_as p (before v) (record v { cells = reverse (slice_set (reverse (drop 1 v.cells)) (f.base + index) n) }) v2 1
        (on ∙ ap (λ (x : View). record x { cells = reverse (slice_set (reverse x.cells) (f.base + index) n) }) off)
        (going_moves p v (op.LocalSet index) at refl v.memory v.globals (reverse (slice_set (reverse (drop 1 v.cells)) (f.base + index) n)) (λ rest around st h r. set_gives rest around st h r n top))

-- local.tee

module _ (p : Program) (v : View) (index : ℕ) (at : IsAt p v (op.LocalTee index)) where
  tee_at
      : (rest : Sequence) (around : List Around) (st : State) → Holds p (before v) (pending_at (Plain (op.LocalTee index) rest) around st)
      → Running p (before v) (pending_at (Plain (op.LocalTee index) rest) around st) → Set st.frame.locals index st.operands
  tee_at rest around st h r = local_tee_has index st.operands st (has_all p v (op.LocalTee index) rest around st h r)

  pub tee_some : 0 < length v.cells
  tee_some =
      let w = plainly p v (op.LocalTee index) at refl in
      let u = tee_at w.rest w.around w.st w.holds w.runs in
      some_cell v.cells (cells_under w.st.frame.locals w.around) w.st.operands u.under u.value w.runs.cells u.is

  module _ (f : Frame) (found : slice_get v.frames 0 ≡ Some f) where
    pub tee_within : f.base + index < length v.cells
    tee_within =
        let w = plainly p v (op.LocalTee index) at refl in
        let u = tee_at w.rest w.around w.st w.holds w.runs in
        let l = lying p (before v) (Plain (op.LocalTee index) w.rest) w.around w.st f w.runs found in
        let within = is_within w.st.frame.locals index u.old u.found in
        let many = l.many in
        omega (arith, within, many)

    tee_gives
        : (rest : Sequence) (around : List Around) (st : State) → Holds p (before v) (pending_at (Plain (op.LocalTee index) rest) around st)
        → Running p (before v) (pending_at (Plain (op.LocalTee index) rest) around st) → (n : ℕ) → slice_get v.cells 0 ≡ Some n
        → Going p v (op.LocalTee index) around st v.memory v.globals (reverse (slice_set (reverse v.cells) (f.base + index) n))
    tee_gives rest around st h r n top =
        let u = tee_at rest around st h r in
        let low = cells_under st.frame.locals around in
        let l = lying p (before v) (Plain (op.LocalTee index) rest) around st f r found in
        let within = is_within st.frame.locals index u.old u.found in
        let same = top_number v.cells low st.operands u.under u.value n r.cells u.is top in
        let are : v.cells ≡ numbers st.operands ++ (l.front ++ (reverse (numbers st.frame.locals) ++ l.low)) =
        r.cells ∙ ap (λ (ns : List ℕ). numbers st.operands ++ ns) (l.under st.frame.locals) in
        let cells_are : reverse (slice_set (reverse v.cells) (f.base + index) n) ≡ numbers st.operands ++ cells_under (slice_set st.frame.locals index u.value) around =
        ap (λ (k : ℕ). reverse (slice_set (reverse v.cells) (f.base + index) k)) same
        ∙ local_set_cell v.cells st.operands st.frame.locals l.front l.low f.base index u.value are l.base within
        ∙ ap (λ (ns : List ℕ). numbers st.operands ++ ns) (sym (l.under (slice_set st.frame.locals index u.value))) in
        let all = subst (λ (vs : List Value). AreRanged vs) u.is r.typing.ranged in
        record {
          to = with_locals st (slice_set st.frame.locals index u.value);
          goes = ap (λ (vs : List Value). local_tee_from vs index st) u.is ∙ ap (λ (ls : Option (List Value)). sets_locals ls st) u.replaces;
          keeps = record {
            memory_is = h.store.memory;
            globals_are = h.store.globals;
            table_is = refl;
            cells_are = cells_are;
            as_many_locals = length_set st.frame.locals index u.value;
            operands_ranged = r.typing.ranged;
            locals_ranged = set_ranged st.frame.locals index u.value r.typing.frame.locals all.0;
            globals_ranged = r.typing.store.globals;
          };
        }

    pub tee_moves
        : (v1 : View) (n : ℕ) → slice_get v.cells 0 ≡ Some n → v1 ≡ record v { cells = reverse (slice_set (reverse v.cells) (f.base + index) n) } → Moves p (before v) v1 1
    tee_moves v1 n top on =
        moved_as p (before v) (record v { cells = reverse (slice_set (reverse v.cells) (f.base + index) n) }) v1 1 on
        (going_moves p v (op.LocalTee index) at refl v.memory v.globals (reverse (slice_set (reverse v.cells) (f.base + index) n)) (λ rest around st h r. tee_gives rest around st h r n top))

-- Globals.

global_within : (p : Program) (v : View) (o : Op) (rest : Sequence) (around : List Around) (st : State) (index : ℕ) (value : Value) → Holds p (before v) (pending_at (Plain o rest) around st)
    → slice_get st.store.globals index ≡ Some value → index < length v.globals
global_within p v o rest around st index value h found =
    let within = is_within st.store.globals index value found in
    let long = ap (λ (ns : List ℕ). length ns) h.store.globals in
    omega (arith, within, long, length-numbers st.store.globals)

module _ (p : Program) (v : View) (index : ℕ) (at : IsAt p v (op.GlobalGet index)) where
  global_at
      : (rest : Sequence) (around : List Around) (st : State) → Holds p (before v) (pending_at (Plain (op.GlobalGet index) rest) around st)
      → Running p (before v) (pending_at (Plain (op.GlobalGet index) rest) around st) → Got (slice_get st.store.globals index)
  global_at rest around st h r = get_has (slice_get st.store.globals index) st (has_all p v (op.GlobalGet index) rest around st h r)

  pub global_get_within : index < length v.globals
  global_get_within =
      let w = plainly p v (op.GlobalGet index) at refl in
      let u = global_at w.rest w.around w.st w.holds w.runs in
      global_within p v (op.GlobalGet index) w.rest w.around w.st index u.value w.holds u.is

  global_get_gives
      : (rest : Sequence) (around : List Around) (st : State) → Holds p (before v) (pending_at (Plain (op.GlobalGet index) rest) around st)
      → Running p (before v) (pending_at (Plain (op.GlobalGet index) rest) around st) → (n : ℕ) → slice_get v.globals index ≡ Some n
      → Going p v (op.GlobalGet index) around st v.memory v.globals (n ∷ v.cells)
  global_get_gives rest around st h r n top =
      let u = global_at rest around st h r in
      let here : slice_get v.globals index ≡ Some (number_in u.value) = ap (λ (ns : List ℕ). slice_get ns index) h.store.globals ∙ numbers_get st.store.globals index u.value u.is in
      let same = given n (number_in u.value) (slice_get v.globals index) top here in
      let goes : effect (instance_of p) (op.GlobalGet index) st ≡ Goes (with_operands st (u.value ∷ st.operands)) = ap (λ (o : Option Value). gives o st) u.is in
      stack_goes p v (op.GlobalGet index) rest around st (u.value ∷ st.operands) (n ∷ v.cells) h r goes
      (ap (λ (k : ℕ). k ∷ v.cells) same ∙ ap (λ (ns : List ℕ). number_in u.value ∷ ns) r.cells)
      (all_at IsRanged st.store.globals index u.value r.typing.store.globals u.is, r.typing.ranged)
    where
      given : (a b : ℕ) (o : Option ℕ) → o ≡ Some a → o ≡ Some b → a ≡ b
      given a b o e f = cc

  pub global_get_moves : (v1 : View) (n : ℕ) → slice_get v.globals index ≡ Some n → v1 ≡ pushed n v → Moves p (before v) v1 1
  global_get_moves v1 n top on =
      moved_as p (before v) (pushed n v) v1 1 on
      (going_moves p v (op.GlobalGet index) at refl v.memory v.globals (n ∷ v.cells) (λ rest around st h r. global_get_gives rest around st h r n top))

  pub global_get_room : (n : ℕ) → slice_get v.globals index ≡ Some n → length v.cells < 65536
  global_get_room n top = push_fits p (before v) (pushed n v) 1 n at.state (global_get_moves (pushed n v) n top refl) refl

module _ (p : Program) (v : View) (index : ℕ) (at : IsAt p v (op.GlobalSet index)) where
  global_set_at
      : (rest : Sequence) (around : List Around) (st : State) → Holds p (before v) (pending_at (Plain (op.GlobalSet index) rest) around st)
      → Running p (before v) (pending_at (Plain (op.GlobalSet index) rest) around st) → Set st.store.globals index st.operands
  global_set_at rest around st h r = global_set_has index st.operands st (has_all p v (op.GlobalSet index) rest around st h r)

  pub global_set_some : 0 < length v.cells
  global_set_some =
      let w = plainly p v (op.GlobalSet index) at refl in
      let u = global_set_at w.rest w.around w.st w.holds w.runs in
      some_cell v.cells (cells_under w.st.frame.locals w.around) w.st.operands u.under u.value w.runs.cells u.is

  pub global_set_within : (v1 : View) → v1 ≡ popped v → index < length v1.globals
  global_set_within v1 off =
      let w = plainly p v (op.GlobalSet index) at refl in
      let u = global_set_at w.rest w.around w.st w.holds w.runs in
      subst (λ (x : View). index < length x.globals) (sym off) (global_within p v (op.GlobalSet index) w.rest w.around w.st index u.old w.holds u.found)

  global_set_gives
      : (rest : Sequence) (around : List Around) (st : State) → Holds p (before v) (pending_at (Plain (op.GlobalSet index) rest) around st)
      → Running p (before v) (pending_at (Plain (op.GlobalSet index) rest) around st) → (n : ℕ) → slice_get v.cells 0 ≡ Some n
      → Going p v (op.GlobalSet index) around st v.memory (slice_set v.globals index n) (drop 1 v.cells)
  global_set_gives rest around st h r n top =
      let u = global_set_at rest around st h r in
      let low = cells_under st.frame.locals around in
      let same = top_number v.cells low st.operands u.under u.value n r.cells u.is top in
      let all = subst (λ (vs : List Value). AreRanged vs) u.is r.typing.ranged in
      record {
        to = with_globals (with_operands st u.under) (slice_set st.store.globals index u.value);
        goes = ap (λ (vs : List Value). global_set_from vs index st) u.is ∙ ap (λ (gs : Option (List Value)). sets_globals gs (with_operands st u.under)) u.replaces;
        keeps = record {
          memory_is = h.store.memory;
          globals_are = ap (λ (ns : List ℕ). slice_set ns index n) h.store.globals
              ∙ ap (λ (k : ℕ). slice_set (numbers st.store.globals) index k) same ∙ sym (numbers_set st.store.globals index u.value);
          table_is = refl;
          cells_are = rest_numbers v.cells low st.operands u.under u.value r.cells u.is;
          as_many_locals = refl;
          operands_ranged = all.1;
          locals_ranged = r.typing.frame.locals;
          globals_ranged = set_ranged st.store.globals index u.value r.typing.store.globals all.0;
        };
      }

  pub global_set_moves
      : (v1 v2 : View) (n : ℕ) → slice_get v.cells 0 ≡ Some n → v1 ≡ popped v → v2 ≡ record v1 { globals = slice_set v1.globals index n } → Moves p (before v) v2 1
  global_set_moves v1 v2 n top off on =
      moved_as p (before v) (record v { globals = slice_set v.globals index n; cells = drop 1 v.cells }) v2 1
      (on ∙ ap (λ (x : View). record x { globals = slice_set x.globals index n }) off)
      (going_moves p v (op.GlobalSet index) at refl v.memory (slice_set v.globals index n) (drop 1 v.cells) (λ rest around st h r. global_set_gives rest around st h r n top))
