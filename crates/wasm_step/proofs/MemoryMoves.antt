-- Loads, stores, and the size of memory: what their operators find, and how they move the vessel.
use Rattle.std.proofs.Common.{◌≡◌, ℕ, ◌+◌, ◌*◌, ◌<◌, ◌≤◌, ◌^◌, Bool, true, false, cond, nat_le, List, ◌∷◌, ◌++◌, length, drop, Option, Some, None, slice_get, refl, sym, ap, subst, ◌∙◌, arith}
use Rattle.std.specs.Prelude.{unwrap_or}
use Rattle.wasm_ops.specs.Sequence.{Sequence, Plain}
use Rattle.wasm_ops.specs.Values.{IsOfType}
use Rattle.wasm_ops.specs.WellFormed.{IsAccess}
use Rattle.wasm_ops.specs.declared.operators.Op.TheVariants as op
use Rattle.wasm_ops.specs.declared.traps.Trap.TheVariants.{OutOfBounds}
use Rattle.wasm_ops.specs.declared.types.Access.{Access}
use Rattle.wasm_ops.specs.declared.types.ValType.TheVariants.{I32}
use Rattle.wasm_meaning.specs.Bytes.{page, zeros, lies_in, with_bytes, bytes_of, loaded, stored, size_of, grown}
use Rattle.wasm_meaning.specs.Effects.{Goes, Taken}
use Rattle.wasm_meaning.specs.Memory.{widened, load_from, load_of, store_from, store_to, store_of, grow_from, grow_of}
use Rattle.wasm_meaning.specs.Operators.{effect}
use Rattle.wasm_meaning.specs.Pending.{Around}
use Rattle.wasm_meaning.specs.Programs.{Program, instance_of, most}
use Rattle.wasm_meaning.specs.State.{State, Trapped, with_operands, with_memory}
use Rattle.wasm_meaning.specs.Values.{Value, Int32, value_of, number_in, numbers}
use Rattle.wasm_pending.specs.Steps.{pending_at}
use Rattle.wasm_pending.specs.Typed.{AreRanged}
use Rattle.wasm_store.specs.View.{View}
use Rattle.wasm_states.proofs.StateLaws.{push_fits, most_within}
use Rattle.wasm_states.specs.Chains.{cells_under}
use Rattle.wasm_states.specs.Holding.{Holds}
use Rattle.wasm_states.specs.Running.{Running}
use Rattle.wasm_states.specs.Steps.{Moves, Stops}
use Rattle.wasm_step.proofs.Going.{plainly, fits_in, has_all, Going, going_moves, trapping_stops, stack_goes, top_number, rest_numbers, some_cell, rest_ranged}
use Rattle.wasm_step.proofs.NumericMoves.{popped, pushed, moved_as, room_for}
use Rattle.wasm_step.proofs.Shapes.{number_of_value, value_ranged, number_ranged, OneOff, load_has, Storing, store_has, grow_has}
use Rattle.wasm_step.specs.Arms.{before, IsAt}

same_answer : {A : Type 0} (x y : A) → Some x ≡ Some y → x ≡ y
same_answer x y e = cc

-- a base and an offset make no large number
pub sum_fits : (base place offset : ℕ) → base < 2 ^ 32 → place ≡ offset → offset < 2 ^ 32 → base + place < 2 ^ 64
sum_fits base place offset small same few = omega (arith, small, same, few)

-- Loads.

module _ (p : Program) (v : View) (access : Access) (align offset : ℕ) (at : IsAt p v (op.Load access align offset)) where
  load_at
      : (rest : Sequence) (around : List Around) (st : State) → Holds p (before v) (pending_at (Plain (op.Load access align offset) rest) around st)
      → Running p (before v) (pending_at (Plain (op.Load access align offset) rest) around st) → OneOff I32 st.operands
  load_at rest around st h r = load_has access offset st (has_all p v (op.Load access align offset) rest around st h r)

  pub load_some : 0 < length v.cells
  load_some =
      let w = plainly p v (op.Load access align offset) at refl in
      let u = load_at w.rest w.around w.st w.holds w.runs in
      some_cell v.cells (cells_under w.st.frame.locals w.around) w.st.operands u.under u.value w.runs.cells u.is

  pub load_access : IsAccess access
  load_access = let w = plainly p v (op.Load access align offset) at refl in w.runs.typing.sequence.fair.1

  pub load_base : (n : ℕ) → slice_get v.cells 0 ≡ Some n → n < 2 ^ 32
  load_base n top =
      let w = plainly p v (op.Load access align offset) at refl in
      let u = load_at w.rest w.around w.st w.holds w.runs in
      let all = subst (λ (vs : List Value). AreRanged vs) u.is w.runs.typing.ranged in
      let same = top_number v.cells (cells_under w.st.frame.locals w.around) w.st.operands u.under u.value n w.runs.cells u.is top in
      let small = number_ranged I32 u.value u.has all.0 in
      omega (arith, same, small)

  load_effect_is
      : (rest : Sequence) (around : List Around) (st : State) → (h : Holds p (before v) (pending_at (Plain (op.Load access align offset) rest) around st))
      → (r : Running p (before v) (pending_at (Plain (op.Load access align offset) rest) around st)) → (n : ℕ) (answer : Option ℕ) → slice_get v.cells 0 ≡ Some n
      → loaded v.memory (n + offset) access.width ≡ answer
      → effect (instance_of p) (op.Load access align offset) st ≡ load_of access answer (with_operands st (load_at rest around st h r).under)
  load_effect_is rest around st h r n answer top gives =
      let u = load_at rest around st h r in
      let same = top_number v.cells (cells_under st.frame.locals around) st.operands u.under u.value n r.cells u.is top in
      ap (λ (o : Option Taken). load_from access offset o st) u.taken
      ∙ ap (λ (k : ℕ). load_of access (loaded st.store.memory (k + offset) access.width) (with_operands st u.under)) (sym same)
      ∙ ap (λ (memory : List ℕ). load_of access (loaded memory (n + offset) access.width) (with_operands st u.under)) (sym h.store.memory)
      ∙ ap (λ (o : Option ℕ). load_of access o (with_operands st u.under)) gives

  load_gives
      : (rest : Sequence) (around : List Around) (st : State) → Holds p (before v) (pending_at (Plain (op.Load access align offset) rest) around st)
      → Running p (before v) (pending_at (Plain (op.Load access align offset) rest) around st) → (n number : ℕ) → slice_get v.cells 0 ≡ Some n
      → loaded v.memory (n + offset) access.width ≡ Some number → IsOfType access.value (widened access number)
      → Going p v (op.Load access align offset) around st v.memory v.globals (widened access number ∷ drop 1 v.cells)
  load_gives rest around st h r n number top gives small =
      let u = load_at rest around st h r in
      let low = cells_under st.frame.locals around in
      let value = value_of access.value (widened access number) in
      stack_goes p v (op.Load access align offset) rest around st (value ∷ u.under) (widened access number ∷ drop 1 v.cells) h r (load_effect_is rest around st h r n (Some number) top gives)
      (ap (λ (ns : List ℕ). widened access number ∷ ns) (rest_numbers v.cells low st.operands u.under u.value r.cells u.is)
      ∙ ap (λ (k : ℕ). k ∷ (numbers u.under ++ low)) (sym (number_of_value access.value (widened access number))))
      (value_ranged access.value (widened access number) small, rest_ranged st.operands u.under u.value u.is r.typing.ranged)

  pub load_moves
      : (v1 v2 : View) (n number m place width : ℕ) → slice_get v.cells 0 ≡ Some n → v1 ≡ popped v → place ≡ offset → width ≡ access.width
      → loaded v1.memory (n + place) width ≡ Some number → m ≡ widened access number → IsOfType access.value m → v2 ≡ pushed m v1 → Moves p (before v) v2 1
  load_moves v1 v2 n number m place width top off place_is width_is gives m_is small on =
      let here : loaded v.memory (n + offset) access.width ≡ Some number =
      ap (λ (x : View). loaded x.memory (n + offset) access.width) (sym off)
      ∙ ap (λ (k : ℕ). loaded v1.memory (n + k) access.width) (sym place_is)
      ∙ ap (λ (k : ℕ). loaded v1.memory (n + place) k) (sym width_is) ∙ gives in
      moved_as p (before v) (pushed (widened access number) (popped v)) v2 1 (on ∙ ap (λ (k : ℕ). pushed k v1) m_is ∙ ap (pushed (widened access number)) off)
      (going_moves p v (op.Load access align offset) at refl v.memory v.globals (widened access number ∷ drop 1 v.cells)
      (λ rest around st h r. load_gives rest around st h r n number top here (subst (λ (k : ℕ). IsOfType access.value k) m_is small)))

  pub load_stops
      : (v1 : View) (n place width : ℕ) → slice_get v.cells 0 ≡ Some n → v1 ≡ popped v → place ≡ offset → width ≡ access.width
      → loaded v1.memory (n + place) width ≡ None → Stops p (before v) 1 (Trapped OutOfBounds)
  load_stops v1 n place width top off place_is width_is gives =
      let here : loaded v.memory (n + offset) access.width ≡ None =
      ap (λ (x : View). loaded x.memory (n + offset) access.width) (sym off)
      ∙ ap (λ (k : ℕ). loaded v1.memory (n + k) access.width) (sym place_is)
      ∙ ap (λ (k : ℕ). loaded v1.memory (n + place) k) (sym width_is) ∙ gives in
      trapping_stops p v (op.Load access align offset) OutOfBounds at refl (λ rest around st h r. load_effect_is rest around st h r n None top here)

-- Stores.

stored_as : (memory : List ℕ) (at width n : ℕ) (b : Bool) → lies_in memory at width ≡ b → stored memory at width n ≡ cond b (Some (with_bytes memory at (bytes_of width n))) None
stored_as memory at width n b e = ap (λ (x : Bool). cond x (Some (with_bytes memory at (bytes_of width n))) None) e

module _ (p : Program) (v : View) (access : Access) (align offset : ℕ) (at : IsAt p v (op.Store access align offset)) where
  store_at
      : (rest : Sequence) (around : List Around) (st : State) → Holds p (before v) (pending_at (Plain (op.Store access align offset) rest) around st)
      → Running p (before v) (pending_at (Plain (op.Store access align offset) rest) around st) → Storing access st
  store_at rest around st h r = store_has access offset st (has_all p v (op.Store access align offset) rest around st h r)

  pub store_some : 0 < length v.cells
  store_some =
      let w = plainly p v (op.Store access align offset) at refl in
      let u = store_at w.rest w.around w.st w.holds w.runs in
      some_cell v.cells (cells_under w.st.frame.locals w.around) w.st.operands u.value.under u.value.value w.runs.cells u.value.is

  pub store_next : (v1 : View) → v1 ≡ popped v → 0 < length v1.cells
  store_next v1 off =
      let w = plainly p v (op.Store access align offset) at refl in
      let u = store_at w.rest w.around w.st w.holds w.runs in
      let low = cells_under w.st.frame.locals w.around in
      subst (λ (x : View). 0 < length x.cells) (sym off)
      (some_cell (drop 1 v.cells) low u.value.under u.base.under u.base.value (rest_numbers v.cells low w.st.operands u.value.under u.value.value w.runs.cells u.value.is) u.base.is)

  pub store_access : IsAccess access
  store_access = let w = plainly p v (op.Store access align offset) at refl in w.runs.typing.sequence.fair.1.0

  pub store_base : (v1 : View) (n : ℕ) → v1 ≡ popped v → slice_get v1.cells 0 ≡ Some n → n < 2 ^ 32
  store_base v1 n off top =
      let w = plainly p v (op.Store access align offset) at refl in
      let u = store_at w.rest w.around w.st w.holds w.runs in
      let low = cells_under w.st.frame.locals w.around in
      let are = rest_numbers v.cells low w.st.operands u.value.under u.value.value w.runs.cells u.value.is in
      let all = subst (λ (vs : List Value). AreRanged vs) u.base.is (rest_ranged w.st.operands u.value.under u.value.value u.value.is w.runs.typing.ranged) in
      let same = top_number (drop 1 v.cells) low u.value.under u.base.under u.base.value n are u.base.is (ap (λ (x : View). slice_get x.cells 0) (sym off) ∙ top) in
      let small = number_ranged I32 u.base.value u.base.has all.0 in
      omega (arith, same, small)

  store_effect_is
      : (rest : Sequence) (around : List Around) (st : State) → (h : Holds p (before v) (pending_at (Plain (op.Store access align offset) rest) around st))
      → (r : Running p (before v) (pending_at (Plain (op.Store access align offset) rest) around st)) → (number n : ℕ) (b : Bool) → slice_get v.cells 0 ≡ Some number
      → slice_get (drop 1 v.cells) 0 ≡ Some n → lies_in v.memory (n + offset) access.width ≡ b
      → effect (instance_of p) (op.Store access align offset) st
      ≡ store_of (cond b (Some (with_bytes v.memory (n + offset) (bytes_of access.width number))) None) (with_operands st (store_at rest around st h r).base.under)
  store_effect_is rest around st h r number n b top next lies =
      let u = store_at rest around st h r in
      let low = cells_under st.frame.locals around in
      let are = rest_numbers v.cells low st.operands u.value.under u.value.value r.cells u.value.is in
      let number_is = top_number v.cells low st.operands u.value.under u.value.value number r.cells u.value.is top in
      let base_is = top_number (drop 1 v.cells) low u.value.under u.base.under u.base.value n are u.base.is next in
      let to = with_operands st u.base.under in
      ap (λ (o : Option Taken). store_from access offset o st) u.value.taken
      ∙ ap (λ (o : Option Taken). store_to access offset (number_in u.value.value) o st) u.base.taken
      ∙ ap (λ (k : ℕ). store_of (stored st.store.memory (k + offset) access.width (number_in u.value.value)) to) (sym base_is)
      ∙ ap (λ (k : ℕ). store_of (stored st.store.memory (n + offset) access.width k) to) (sym number_is)
      ∙ ap (λ (memory : List ℕ). store_of (stored memory (n + offset) access.width number) to) (sym h.store.memory)
      ∙ ap (λ (o : Option (List ℕ)). store_of o to) (stored_as v.memory (n + offset) access.width number b lies)

  store_gives
      : (rest : Sequence) (around : List Around) (st : State) → Holds p (before v) (pending_at (Plain (op.Store access align offset) rest) around st)
      → Running p (before v) (pending_at (Plain (op.Store access align offset) rest) around st) → (number n : ℕ) → slice_get v.cells 0 ≡ Some number
      → slice_get (drop 1 v.cells) 0 ≡ Some n → lies_in v.memory (n + offset) access.width ≡ true
      → Going p v (op.Store access align offset) around st (with_bytes v.memory (n + offset) (bytes_of access.width number)) v.globals (drop 1 (drop 1 v.cells))
  store_gives rest around st h r number n top next lies =
      let u = store_at rest around st h r in
      let low = cells_under st.frame.locals around in
      let are = rest_numbers v.cells low st.operands u.value.under u.value.value r.cells u.value.is in
      record {
        to = with_memory (with_operands st u.base.under) (with_bytes v.memory (n + offset) (bytes_of access.width number));
        goes = store_effect_is rest around st h r number n true top next lies;
        keeps = record {
          memory_is = refl;
          globals_are = h.store.globals;
          table_is = refl;
          cells_are = rest_numbers (drop 1 v.cells) low u.value.under u.base.under u.base.value are u.base.is;
          as_many_locals = refl;
          operands_ranged = rest_ranged u.value.under u.base.under u.base.value u.base.is (rest_ranged st.operands u.value.under u.value.value u.value.is r.typing.ranged);
          locals_ranged = r.typing.frame.locals;
          globals_ranged = r.typing.store.globals;
        };
      }

  -- the bytes lie where they are to lie, told by the vessel without its two top cells
  lies_under
      : (v1 v2 : View) (n place width : ℕ) (b : Bool) → v1 ≡ popped v → v2 ≡ popped v1 → place ≡ offset → width ≡ access.width → lies_in v2.memory (n + place) width ≡ b
      → lies_in v.memory (n + offset) access.width ≡ b
  lies_under v1 v2 n place width b off off2 place_is width_is lies =
      ap (λ (x : View). lies_in x.memory (n + offset) access.width) (sym (off2 ∙ ap popped off))
      ∙ ap (λ (k : ℕ). lies_in v2.memory (n + k) access.width) (sym place_is)
      ∙ ap (λ (k : ℕ). lies_in v2.memory (n + place) k) (sym width_is) ∙ lies

  pub store_moves
      : (v1 v2 v3 : View) (number n place width : ℕ) → slice_get v.cells 0 ≡ Some number → v1 ≡ popped v → slice_get v1.cells 0 ≡ Some n → v2 ≡ popped v1
      → place ≡ offset → width ≡ access.width → lies_in v2.memory (n + place) width ≡ true
      → v3 ≡ record v2 { memory = unwrap_or (stored v2.memory (n + place) width number) v2.memory } → Moves p (before v) v3 1
  store_moves v1 v2 v3 number n place width top off next off2 place_is width_is lies on =
      let next_is : slice_get (drop 1 v.cells) 0 ≡ Some n = ap (λ (x : View). slice_get x.cells 0) (sym off) ∙ next in
      let here = lies_under v1 v2 n place width true off off2 place_is width_is lies in
      let two : v2 ≡ popped (popped v) = off2 ∙ ap popped off in
      let after : v3 ≡ record v { memory = with_bytes v.memory (n + offset) (bytes_of access.width number); cells = drop 1 (drop 1 v.cells) } =
      on
      ∙ ap (λ (x : View). record x { memory = unwrap_or (stored x.memory (n + place) width number) x.memory }) two
      ∙ ap (λ (k : ℕ). record (popped (popped v)) { memory = unwrap_or (stored v.memory (n + k) width number) v.memory }) place_is
      ∙ ap (λ (k : ℕ). record (popped (popped v)) { memory = unwrap_or (stored v.memory (n + offset) k number) v.memory }) width_is
      ∙ ap (λ (o : Option (List ℕ)). record (popped (popped v)) { memory = unwrap_or o v.memory }) (stored_as v.memory (n + offset) access.width number true here) in
      moved_as p (before v) (record v { memory = with_bytes v.memory (n + offset) (bytes_of access.width number); cells = drop 1 (drop 1 v.cells) }) v3 1 after
      (going_moves p v (op.Store access align offset) at refl (with_bytes v.memory (n + offset) (bytes_of access.width number)) v.globals (drop 1 (drop 1 v.cells))
      (λ rest around st h r. store_gives rest around st h r number n top next_is here))

  pub store_stops
      : (v1 v2 : View) (number n place width : ℕ) → slice_get v.cells 0 ≡ Some number → v1 ≡ popped v → slice_get v1.cells 0 ≡ Some n → v2 ≡ popped v1
      → place ≡ offset → width ≡ access.width → lies_in v2.memory (n + place) width ≡ false → Stops p (before v) 1 (Trapped OutOfBounds)
  store_stops v1 v2 number n place width top off next off2 place_is width_is lies =
      let next_is : slice_get (drop 1 v.cells) 0 ≡ Some n = ap (λ (x : View). slice_get x.cells 0) (sym off) ∙ next in
      trapping_stops p v (op.Store access align offset) OutOfBounds at refl
      (λ rest around st h r. store_effect_is rest around st h r number n false top next_is (lies_under v1 v2 n place width false off off2 place_is width_is lies))

-- The size of memory.

module _ (p : Program) (v : View) (at : IsAt p v op.MemorySize) where
  pub size_moves : (v1 : View) (n m : ℕ) → n ≡ m → m ≡ size_of v.memory → m < 2 ^ 32 → v1 ≡ pushed n v → Moves p (before v) v1 1
  size_moves v1 n m n_is m_is small on =
      let whole : n ≡ size_of v.memory = n_is ∙ m_is in
      moved_as p (before v) (pushed n v) v1 1 on
      (going_moves p v op.MemorySize at refl v.memory v.globals (n ∷ v.cells)
      (λ rest around st h r.
      let same : n ≡ size_of st.store.memory = whole ∙ ap (λ (memory : List ℕ). size_of memory) h.store.memory in
      stack_goes p v op.MemorySize rest around st (Int32 (size_of st.store.memory) ∷ st.operands) (n ∷ v.cells) h r refl
      (ap (λ (k : ℕ). k ∷ v.cells) same ∙ ap (λ (ns : List ℕ). size_of st.store.memory ∷ ns) r.cells)
      (omega (arith, same, n_is, small), r.typing.ranged)))

  pub size_room : (n m : ℕ) → n ≡ m → m ≡ size_of v.memory → m < 2 ^ 32 → length v.cells < 65536
  size_room n m n_is m_is small = push_fits p (before v) (pushed n v) 1 n at.state (size_moves (pushed n v) n m n_is m_is small refl) refl

-- the answer of a growth tells whether there was room
grew : (b : Bool) (size n : ℕ) → cond b (Some size) None ≡ Some n → (b ≡ true) × (size ≡ n)
grew true size n e = (refl, same_answer size n e)
grew false size n e = let bad : ⊥ = cc in absurd bad

grew_not : (b : Bool) (size : ℕ) → cond b (Some size) None ≡ None → b ≡ false
grew_not true size e = let bad : ⊥ = cc in absurd bad
grew_not false size e = refl

module _ (p : Program) (v : View) (at : IsAt p v op.MemoryGrow) where
  grow_at
      : (rest : Sequence) (around : List Around) (st : State) → Holds p (before v) (pending_at (Plain op.MemoryGrow rest) around st)
      → Running p (before v) (pending_at (Plain op.MemoryGrow rest) around st) → OneOff I32 st.operands
  grow_at rest around st h r = grow_has (most p) st (has_all p v op.MemoryGrow rest around st h r)

  pub grow_some : 0 < length v.cells
  grow_some =
      let w = plainly p v op.MemoryGrow at refl in
      let u = grow_at w.rest w.around w.st w.holds w.runs in
      some_cell v.cells (cells_under w.st.frame.locals w.around) w.st.operands u.under u.value w.runs.cells u.is

  pub grow_small : (n : ℕ) → slice_get v.cells 0 ≡ Some n → n < 2 ^ 32
  grow_small n top =
      let w = plainly p v op.MemoryGrow at refl in
      let u = grow_at w.rest w.around w.st w.holds w.runs in
      let all = subst (λ (vs : List Value). AreRanged vs) u.is w.runs.typing.ranged in
      let same = top_number v.cells (cells_under w.st.frame.locals w.around) w.st.operands u.under u.value n w.runs.cells u.is top in
      let small = number_ranged I32 u.value u.has all.0 in
      omega (arith, same, small)

  pub grow_least : (v1 : View) (limit : ℕ) → v1 ≡ popped v → limit ≡ most p → size_of v1.memory ≤ limit
  grow_least v1 limit off limit_is =
      let w = plainly p v op.MemoryGrow at refl in
      let within = w.runs.typing.store.memory.within in
      let same : size_of v1.memory ≡ size_of w.st.store.memory = ap (λ (x : View). size_of x.memory) off ∙ ap (λ (memory : List ℕ). size_of memory) w.holds.store.memory in
      omega (arith, within, same, limit_is)

  pub grow_most : (v1 : View) (limit : ℕ) → v1 ≡ popped v → limit ≡ most p → limit ≤ v1.pages
  grow_most v1 limit off limit_is =
      let room = at.state.holds.store.room in
      let within = most_within p in
      let same = ap (λ (x : View). x.pages) off in
      omega (arith, room, within, same, limit_is)

  pub grow_room : (v1 v2 : View) (memory : List ℕ) → v1 ≡ popped v → v2 ≡ record v1 { memory = memory } → length v2.cells < 65536
  grow_room v1 v2 memory off on =
      subst (λ (x : View). length x.cells < 65536) (sym (on ∙ ap (λ (x : View). record x { memory = memory }) off)) (room_for v.cells grow_some (fits_in p v op.MemoryGrow at))

  grow_effect_is
      : (rest : Sequence) (around : List Around) (st : State) → (h : Holds p (before v) (pending_at (Plain op.MemoryGrow rest) around st))
      → (r : Running p (before v) (pending_at (Plain op.MemoryGrow rest) around st)) → (n : ℕ) (b : Bool) → slice_get v.cells 0 ≡ Some n → nat_le (size_of v.memory + n) (most p) ≡ b
      → effect (instance_of p) op.MemoryGrow st ≡ grow_of (cond b (Some (v.memory ++ zeros (n * page))) None) (with_operands st (grow_at rest around st h r).under)
  grow_effect_is rest around st h r n b top room =
      let u = grow_at rest around st h r in
      let same = top_number v.cells (cells_under st.frame.locals around) st.operands u.under u.value n r.cells u.is top in
      let to = with_operands st u.under in
      ap (λ (o : Option Taken). grow_from (most p) o st) u.taken
      ∙ ap (λ (k : ℕ). grow_of (grown st.store.memory k (most p)) to) (sym same)
      ∙ ap (λ (memory : List ℕ). grow_of (grown memory n (most p)) to) (sym h.store.memory)
      ∙ ap (λ (x : Bool). grow_of (cond x (Some (v.memory ++ zeros (n * page))) None) to) room

  grow_gives
      : (rest : Sequence) (around : List Around) (st : State) → Holds p (before v) (pending_at (Plain op.MemoryGrow rest) around st)
      → Running p (before v) (pending_at (Plain op.MemoryGrow rest) around st) → (n size : ℕ) → slice_get v.cells 0 ≡ Some n → nat_le (size_of v.memory + n) (most p) ≡ true
      → size_of v.memory ≡ size → size < 2 ^ 32 → Going p v op.MemoryGrow around st (v.memory ++ zeros (n * page)) v.globals (size ∷ drop 1 v.cells)
  grow_gives rest around st h r n size top room size_is small =
      let u = grow_at rest around st h r in
      let low = cells_under st.frame.locals around in
      let here : size_of st.store.memory ≡ size = ap (λ (memory : List ℕ). size_of memory) (sym h.store.memory) ∙ size_is in
      record {
        to = with_memory (with_operands st (Int32 size ∷ u.under)) (v.memory ++ zeros (n * page));
        goes = grow_effect_is rest around st h r n true top room ∙ ap (λ (k : ℕ). Goes (with_memory (with_operands st (Int32 k ∷ u.under)) (v.memory ++ zeros (n * page)))) here;
        keeps = record {
          memory_is = refl;
          globals_are = h.store.globals;
          table_is = refl;
          cells_are = ap (λ (ns : List ℕ). size ∷ ns) (rest_numbers v.cells low st.operands u.under u.value r.cells u.is);
          as_many_locals = refl;
          operands_ranged = (small, rest_ranged st.operands u.under u.value u.is r.typing.ranged);
          locals_ranged = r.typing.frame.locals;
          globals_ranged = r.typing.store.globals;
        };
      }

  grow_refuses
      : (rest : Sequence) (around : List Around) (st : State) → Holds p (before v) (pending_at (Plain op.MemoryGrow rest) around st)
      → Running p (before v) (pending_at (Plain op.MemoryGrow rest) around st) → (n : ℕ) → slice_get v.cells 0 ≡ Some n → nat_le (size_of v.memory + n) (most p) ≡ false
      → Going p v op.MemoryGrow around st v.memory v.globals (4294967295 ∷ drop 1 v.cells)
  grow_refuses rest around st h r n top room =
      let u = grow_at rest around st h r in
      let low = cells_under st.frame.locals around in
      stack_goes p v op.MemoryGrow rest around st (Int32 4294967295 ∷ u.under) (4294967295 ∷ drop 1 v.cells) h r (grow_effect_is rest around st h r n false top room)
      (ap (λ (ns : List ℕ). 4294967295 ∷ ns) (rest_numbers v.cells low st.operands u.under u.value r.cells u.is))
      (omega arith, rest_ranged st.operands u.under u.value u.is r.typing.ranged)

  -- what the vessel without its top cell tells
  room_under : (v1 : View) (n limit : ℕ) (b : Bool) → v1 ≡ popped v → limit ≡ most p → nat_le (size_of v1.memory + n) limit ≡ b → nat_le (size_of v.memory + n) (most p) ≡ b
  room_under v1 n limit b off limit_is e =
      ap (λ (x : View). nat_le (size_of x.memory + n) (most p)) (sym off) ∙ ap (λ (k : ℕ). nat_le (size_of v1.memory + n) k) (sym limit_is) ∙ e

  pub grow_moves
      : (v1 v2 v3 : View) (n limit size pushes : ℕ) → slice_get v.cells 0 ≡ Some n → v1 ≡ popped v → limit ≡ most p
      → Some size ≡ cond (nat_le (size_of v1.memory + n) limit) (Some (size_of v1.memory)) None
      → v2 ≡ record v1 { memory = unwrap_or (grown v1.memory n limit) v1.memory } → limit < 2 ^ 32 → pushes ≡ size → v3 ≡ pushed pushes v2 → Moves p (before v) v3 1
  grow_moves v1 v2 v3 n limit size pushes top off limit_is answer on few pushes_is last =
      let least = grow_least v1 limit off limit_is in
      let g = grew (nat_le (size_of v1.memory + n) limit) (size_of v1.memory) size (sym answer) in
      let room = room_under v1 n limit true off limit_is g.0 in
      let size_is : size_of v.memory ≡ size = ap (λ (x : View). size_of x.memory) (sym off) ∙ g.1 in
      let same = g.1 in
      let small : size < 2 ^ 32 = omega (arith, same, least, few) in
      let grown_is : grown v1.memory n limit ≡ Some (v.memory ++ zeros (n * page)) =
      ap (λ (b : Bool). cond b (Some (v1.memory ++ zeros (n * page))) None) g.0 ∙ ap (λ (x : View). Some (x.memory ++ zeros (n * page))) off in
      let after : v3 ≡ record v { memory = v.memory ++ zeros (n * page); cells = size ∷ drop 1 v.cells } =
      last
      ∙ ap (λ (k : ℕ). pushed k v2) pushes_is
      ∙ ap (pushed size) (on ∙ ap (λ (o : Option (List ℕ)). record v1 { memory = unwrap_or o v1.memory }) grown_is ∙ ap (λ (x : View). record x { memory = v.memory ++ zeros (n * page) }) off) in
      moved_as p (before v) (record v { memory = v.memory ++ zeros (n * page); cells = size ∷ drop 1 v.cells }) v3 1 after
      (going_moves p v op.MemoryGrow at refl (v.memory ++ zeros (n * page)) v.globals (size ∷ drop 1 v.cells) (λ rest around st h r. grow_gives rest around st h r n size top room size_is small))

  pub grow_stays
      : (v1 v2 v3 : View) (n limit : ℕ) → slice_get v.cells 0 ≡ Some n → v1 ≡ popped v → limit ≡ most p
      → None ≡ cond (nat_le (size_of v1.memory + n) limit) (Some (size_of v1.memory)) None
      → v2 ≡ record v1 { memory = unwrap_or (grown v1.memory n limit) v1.memory } → v3 ≡ pushed 4294967295 v2 → Moves p (before v) v3 1
  grow_stays v1 v2 v3 n limit top off limit_is answer on last =
      let g = grew_not (nat_le (size_of v1.memory + n) limit) (size_of v1.memory) (sym answer) in
      let room = room_under v1 n limit false off limit_is g in
      let grown_is : grown v1.memory n limit ≡ None = ap (λ (b : Bool). cond b (Some (v1.memory ++ zeros (n * page))) None) g in
      let after : v3 ≡ pushed 4294967295 (popped v) =
      last ∙ ap (pushed 4294967295) (on ∙ ap (λ (o : Option (List ℕ)). record v1 { memory = unwrap_or o v1.memory }) grown_is ∙ off) in
      moved_as p (before v) (pushed 4294967295 (popped v)) v3 1 after
      (going_moves p v op.MemoryGrow at refl v.memory v.globals (4294967295 ∷ drop 1 v.cells) (λ rest around st h r. grow_refuses rest around st h r n top room))
