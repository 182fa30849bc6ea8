-- Constants, and numeric and parametric operators: what they find, and how they move the vessel.
use Rattle.std.proofs.Common.{◌≡◌, ℕ, ◌<◌, ◌≤◌, ◌==◌, ◌^◌, Bool, true, false, cond, List, ◌∷◌, ◌++◌, length, drop, Option, Some, Result, Ok, Err, IfSome, slice_get, refl, sym, ap, subst, ◌∙◌, option_map, length-drop, arith}
use Rattle.wasm_ops.specs.Arithmetic.{IsOperand, IsResult, one_operand, two_operands, unary_result, binary_result}
use Rattle.wasm_ops.specs.Operations.{IsOfOne, IsOfTwo, operation_of, operand_of, result_of, takes_one}
use Rattle.wasm_ops.specs.Sequence.{Sequence, Plain}
use Rattle.wasm_ops.specs.Values.{IsOfType}
use Rattle.wasm_ops.specs.declared.operations.Operation.{Operation}
use Rattle.wasm_ops.specs.declared.operators.Op.TheVariants as op
use Rattle.wasm_ops.specs.declared.traps.Trap.{Trap}
use Rattle.wasm_ops.specs.declared.traps.Trap.TheVariants.{Unreachable}
use Rattle.wasm_meaning.specs.Effects.{Goes, Taken}
use Rattle.wasm_meaning.specs.Numeric.{unary_effect, unary_of, unary_on, binary_effect, binary_of, binary_on, binary_first, computed}
use Rattle.wasm_meaning.specs.Operators.{effect}
use Rattle.wasm_meaning.specs.Parametric.{drop_from, select_on, select_from, select_of, chosen}
use Rattle.wasm_meaning.specs.Pending.{Around}
use Rattle.wasm_meaning.specs.Programs.{Program, instance_of}
use Rattle.wasm_meaning.specs.State.{State, Trapped, with_operands}
use Rattle.wasm_meaning.specs.Values.{Value, Int32, Int64, value_of, number_in, numbers}
use Rattle.wasm_pending.specs.Steps.{pending_at}
use Rattle.wasm_pending.specs.Typed.{IsRanged, AreRanged}
use Rattle.wasm_store.specs.View.{View}
use Rattle.wasm_states.proofs.StateLaws.{push_fits}
use Rattle.wasm_states.specs.Chains.{cells_under}
use Rattle.wasm_states.specs.Holding.{Holds}
use Rattle.wasm_states.specs.Running.{Running}
use Rattle.wasm_states.specs.Steps.{Moves, Stops}
use Rattle.wasm_step.proofs.Going.{plainly, has_all, Going, going_moves, trapping_stops, stack_goes, top_number, rest_numbers, some_cell, rest_ranged}
use Rattle.wasm_step.proofs.Shapes.{number_of_value, value_ranged, number_ranged, Unary, unary_has, Binary, binary_has, Dropped, drop_has, Selected, select_has}
use Rattle.wasm_step.specs.Arms.{before, IsAt}

-- Cells that come and go.

abbrev pub popped : View → View
popped v = record v { cells = drop 1 v.cells }

abbrev pub pushed : ℕ → View → View
pushed n v = record v { cells = n ∷ v.cells }

pub room_for : (cells : List ℕ) → 0 < length cells → length cells ≤ 65536 → length (drop 1 cells) < 65536
room_for cells some few = omega (arith, some, few, length-drop 1 cells)

pub moved_as : (p : Program) (u v' v'' : View) (price : ℕ) → v'' ≡ v' → Moves p u v' price → Moves p u v'' price
moved_as p u v' v'' price same m = subst (λ (x : View). Moves p u x price) (sym same) m

-- Constants.

pub const_i32_moves : (p : Program) (v : View) (n : ℕ) → IsAt p v (op.ConstI32 n) → n < 2 ^ 32 → Moves p (before v) (pushed n v) 1
const_i32_moves p v n at small =
    going_moves p v (op.ConstI32 n) at refl v.memory v.globals (n ∷ v.cells)
    (λ rest around st h r.
    stack_goes p v (op.ConstI32 n) rest around st (Int32 n ∷ st.operands) (n ∷ v.cells) h r refl (ap (λ (ns : List ℕ). n ∷ ns) r.cells) (small, r.typing.ranged))

pub const_i32_room : (p : Program) (v : View) (n : ℕ) → IsAt p v (op.ConstI32 n) → n < 2 ^ 32 → length v.cells < 65536
const_i32_room p v n at small = push_fits p (before v) (pushed n v) 1 n at.state (const_i32_moves p v n at small) refl

pub const_i64_moves : (p : Program) (v : View) (n : ℕ) → IsAt p v (op.ConstI64 n) → n < 2 ^ 64 → Moves p (before v) (pushed n v) 1
const_i64_moves p v n at small =
    going_moves p v (op.ConstI64 n) at refl v.memory v.globals (n ∷ v.cells)
    (λ rest around st h r.
    stack_goes p v (op.ConstI64 n) rest around st (Int64 n ∷ st.operands) (n ∷ v.cells) h r refl (ap (λ (ns : List ℕ). n ∷ ns) r.cells) (small, r.typing.ranged))

pub const_i64_room : (p : Program) (v : View) (n : ℕ) → IsAt p v (op.ConstI64 n) → n < 2 ^ 64 → length v.cells < 65536
const_i64_room p v n at small = push_fits p (before v) (pushed n v) 1 n at.state (const_i64_moves p v n at small) refl

pub nop_moves : (p : Program) (v : View) → IsAt p v op.Nop → Moves p (before v) v 1
nop_moves p v at =
    going_moves p v op.Nop at refl v.memory v.globals v.cells (λ rest around st h r. stack_goes p v op.Nop rest around st st.operands v.cells h r refl r.cells r.typing.ranged)

pub unreachable_stops : (p : Program) (v : View) → IsAt p v op.Unreachable → Stops p (before v) 1 (Trapped Unreachable)
unreachable_stops p v at = trapping_stops p v op.Unreachable Unreachable at refl (λ rest around st h r. refl)

-- Operators of one operand.

module _ (p : Program) (v : View) (byte : ℕ) (at : IsAt p v (op.Unary byte)) where
  unary_at
      : (rest : Sequence) (around : List Around) (st : State) → Holds p (before v) (pending_at (Plain (op.Unary byte) rest) around st)
      → Running p (before v) (pending_at (Plain (op.Unary byte) rest) around st) → Unary (operation_of byte) st
  unary_at rest around st h r = unary_has (operation_of byte) st (has_all p v (op.Unary byte) rest around st h r)

  pub unary_some : 0 < length v.cells
  unary_some =
      let w = plainly p v (op.Unary byte) at refl in
      let u = unary_at w.rest w.around w.st w.holds w.runs in
      some_cell v.cells (cells_under w.st.frame.locals w.around) w.st.operands u.off.under u.off.value w.runs.cells u.off.is

  pub unary_one : IsOfOne byte
  unary_one =
      let w = plainly p v (op.Unary byte) at refl in
      let u = unary_at w.rest w.around w.st w.holds w.runs in
      ap (λ (o : Option Operation). option_map takes_one o) u.is ∙ ap (λ (b : Bool). Some b) u.one

  pub unary_operand : (n : ℕ) → slice_get v.cells 0 ≡ Some n → IsOperand byte n
  unary_operand n top =
      let w = plainly p v (op.Unary byte) at refl in
      let u = unary_at w.rest w.around w.st w.holds w.runs in
      let all = subst (λ (vs : List Value). AreRanged vs) u.off.is w.runs.typing.ranged in
      let same = top_number v.cells (cells_under w.st.frame.locals w.around) w.st.operands u.off.under u.off.value n w.runs.cells u.off.is top in
      let small = number_ranged (operand_of u.operation) u.off.value u.off.has all.0 in
      subst (λ (o : Option Operation). IfSome o (λ operation. IsOfType (operand_of operation) n)) (sym u.is)
      (subst (λ (k : ℕ). IsOfType (operand_of u.operation) k) (sym same) small)

  unary_gives
      : (rest : Sequence) (around : List Around) (st : State) → Holds p (before v) (pending_at (Plain (op.Unary byte) rest) around st)
      → Running p (before v) (pending_at (Plain (op.Unary byte) rest) around st) → (n m : ℕ) → slice_get v.cells 0 ≡ Some n → unary_result byte n ≡ Some m → IsResult byte m
      → Going p v (op.Unary byte) around st v.memory v.globals (m ∷ drop 1 v.cells)
  unary_gives rest around st h r n m top gives small =
      let u = unary_at rest around st h r in
      let low = cells_under st.frame.locals around in
      let t = result_of u.operation in
      let same = top_number v.cells low st.operands u.off.under u.off.value n r.cells u.off.is top in
      let result_is : one_operand u.operation n ≡ m = given_number (ap (λ (o : Option Operation). option_map (λ operation. one_operand operation n) o) (sym u.is) ∙ gives) in
      let here : one_operand u.operation (number_in u.off.value) ≡ m = ap (λ (k : ℕ). one_operand u.operation k) (sym same) ∙ result_is in
      let m_small : IsOfType t m = subst (λ (o : Option Operation). IfSome o (λ operation. IsOfType (result_of operation) m)) u.is small in
      let goes : effect (instance_of p) (op.Unary byte) st ≡ Goes (with_operands st (value_of t m ∷ u.off.under)) =
      ap (λ (o : Option Operation). unary_effect o st) u.is
      ∙ ap (λ (b : Bool). unary_of b u.operation st) u.one
      ∙ ap (λ (o : Option Taken). unary_on u.operation o st) u.off.taken
      ∙ ap (λ (k : ℕ). Goes (with_operands st (value_of t k ∷ u.off.under))) here in
      stack_goes p v (op.Unary byte) rest around st (value_of t m ∷ u.off.under) (m ∷ drop 1 v.cells) h r goes
      (ap (λ (ns : List ℕ). m ∷ ns) (rest_numbers v.cells low st.operands u.off.under u.off.value r.cells u.off.is)
      ∙ ap (λ (k : ℕ). k ∷ (numbers u.off.under ++ low)) (sym (number_of_value t m)))
      (value_ranged t m m_small, rest_ranged st.operands u.off.under u.off.value u.off.is r.typing.ranged)
    where
      given_number : {a b : ℕ} → Some a ≡ Some b → a ≡ b
      given_number e = cc

  pub unary_moves
      : (v1 v2 : View) (n m : ℕ) → slice_get v.cells 0 ≡ Some n → v1 ≡ popped v → unary_result byte n ≡ Some m → IsResult byte m → v2 ≡ pushed m v1
      → Moves p (before v) v2 1
  unary_moves v1 v2 n m top off gives small on =
      moved_as p (before v) (pushed m (popped v)) v2 1 (on ∙ ap (pushed m) off)
      (going_moves p v (op.Unary byte) at refl v.memory v.globals (m ∷ drop 1 v.cells) (λ rest around st h r. unary_gives rest around st h r n m top gives small))

-- Operators of two operands.

module _ (p : Program) (v : View) (byte : ℕ) (at : IsAt p v (op.Binary byte)) where
  binary_at
      : (rest : Sequence) (around : List Around) (st : State) → Holds p (before v) (pending_at (Plain (op.Binary byte) rest) around st)
      → Running p (before v) (pending_at (Plain (op.Binary byte) rest) around st) → Binary (operation_of byte) st
  binary_at rest around st h r = binary_has (operation_of byte) st (has_all p v (op.Binary byte) rest around st h r)

  pub binary_some : 0 < length v.cells
  binary_some =
      let w = plainly p v (op.Binary byte) at refl in
      let u = binary_at w.rest w.around w.st w.holds w.runs in
      some_cell v.cells (cells_under w.st.frame.locals w.around) w.st.operands u.second.under u.second.value w.runs.cells u.second.is

  binary_more : 0 < length (drop 1 v.cells)
  binary_more =
      let w = plainly p v (op.Binary byte) at refl in
      let u = binary_at w.rest w.around w.st w.holds w.runs in
      let low = cells_under w.st.frame.locals w.around in
      some_cell (drop 1 v.cells) low u.second.under u.first.under u.first.value (rest_numbers v.cells low w.st.operands u.second.under u.second.value w.runs.cells u.second.is) u.first.is

  pub binary_next : (v1 : View) → v1 ≡ popped v → 0 < length v1.cells
  binary_next v1 off = subst (λ (x : View). 0 < length x.cells) (sym off) binary_more

  pub binary_two : IsOfTwo byte
  binary_two =
      let w = plainly p v (op.Binary byte) at refl in
      let u = binary_at w.rest w.around w.st w.holds w.runs in
      ap (λ (o : Option Operation). option_map takes_one o) u.is ∙ ap (λ (b : Bool). Some b) u.two

  pub binary_second : (n : ℕ) → slice_get v.cells 0 ≡ Some n → IsOperand byte n
  binary_second n top =
      let w = plainly p v (op.Binary byte) at refl in
      let u = binary_at w.rest w.around w.st w.holds w.runs in
      let all = subst (λ (vs : List Value). AreRanged vs) u.second.is w.runs.typing.ranged in
      let same = top_number v.cells (cells_under w.st.frame.locals w.around) w.st.operands u.second.under u.second.value n w.runs.cells u.second.is top in
      let small = number_ranged (operand_of u.operation) u.second.value u.second.has all.0 in
      subst (λ (o : Option Operation). IfSome o (λ operation. IsOfType (operand_of operation) n)) (sym u.is)
      (subst (λ (k : ℕ). IsOfType (operand_of u.operation) k) (sym same) small)

  binary_first_operand : (n : ℕ) → slice_get (drop 1 v.cells) 0 ≡ Some n → IsOperand byte n
  binary_first_operand n top =
      let w = plainly p v (op.Binary byte) at refl in
      let u = binary_at w.rest w.around w.st w.holds w.runs in
      let low = cells_under w.st.frame.locals w.around in
      let all = subst (λ (vs : List Value). AreRanged vs) u.first.is (rest_ranged w.st.operands u.second.under u.second.value u.second.is w.runs.typing.ranged) in
      let are = rest_numbers v.cells low w.st.operands u.second.under u.second.value w.runs.cells u.second.is in
      let same = top_number (drop 1 v.cells) low u.second.under u.first.under u.first.value n are u.first.is top in
      let small = number_ranged (operand_of u.operation) u.first.value u.first.has all.0 in
      subst (λ (o : Option Operation). IfSome o (λ operation. IsOfType (operand_of operation) n)) (sym u.is)
      (subst (λ (k : ℕ). IsOfType (operand_of u.operation) k) (sym same) small)

  pub binary_operand : (v1 : View) (n : ℕ) → v1 ≡ popped v → slice_get v1.cells 0 ≡ Some n → IsOperand byte n
  binary_operand v1 n off top = binary_first_operand n (ap (λ (x : View). slice_get x.cells 0) (sym off) ∙ top)

  -- what is computed from the two top cells
  binary_computes
      : (rest : Sequence) (around : List Around) (st : State) → (h : Holds p (before v) (pending_at (Plain (op.Binary byte) rest) around st))
      → (r : Running p (before v) (pending_at (Plain (op.Binary byte) rest) around st)) → (b a : ℕ) (answer : Result ℕ Trap) → slice_get v.cells 0 ≡ Some b → slice_get (drop 1 v.cells) 0 ≡ Some a
      → binary_result byte a b ≡ Some answer
      → effect (instance_of p) (op.Binary byte) st ≡ computed (binary_at rest around st h r).operation answer (with_operands st (binary_at rest around st h r).first.under)
  binary_computes rest around st h r b a answer top next gives =
      let u = binary_at rest around st h r in
      let low = cells_under st.frame.locals around in
      let second_is = top_number v.cells low st.operands u.second.under u.second.value b r.cells u.second.is top in
      let are = rest_numbers v.cells low st.operands u.second.under u.second.value r.cells u.second.is in
      let first_is = top_number (drop 1 v.cells) low u.second.under u.first.under u.first.value a are u.first.is next in
      let answer_is : two_operands u.operation a b ≡ answer = given_answer (ap (λ (o : Option Operation). option_map (λ operation. two_operands operation a b) o) (sym u.is) ∙ gives) in
      ap (λ (o : Option Operation). binary_effect o st) u.is
      ∙ ap (λ (x : Bool). binary_of x u.operation st) u.two
      ∙ ap (λ (o : Option Taken). binary_on u.operation o st) u.second.taken
      ∙ ap (λ (o : Option Taken). binary_first u.operation o (number_in u.second.value) st) u.first.taken
      ∙ ap (λ (k : ℕ). computed u.operation (two_operands u.operation (number_in u.first.value) k) (with_operands st u.first.under)) (sym second_is)
      ∙ ap (λ (k : ℕ). computed u.operation (two_operands u.operation k b) (with_operands st u.first.under)) (sym first_is)
      ∙ ap (λ (x : Result ℕ Trap). computed u.operation x (with_operands st u.first.under)) answer_is
    where
      given_answer : {x y : Result ℕ Trap} → Some x ≡ Some y → x ≡ y
      given_answer e = cc

  binary_gives
      : (rest : Sequence) (around : List Around) (st : State) → Holds p (before v) (pending_at (Plain (op.Binary byte) rest) around st)
      → Running p (before v) (pending_at (Plain (op.Binary byte) rest) around st) → (b a n : ℕ) → slice_get v.cells 0 ≡ Some b → slice_get (drop 1 v.cells) 0 ≡ Some a
      → binary_result byte a b ≡ Some (Ok n) → IsResult byte n
      → Going p v (op.Binary byte) around st v.memory v.globals (n ∷ drop 1 (drop 1 v.cells))
  binary_gives rest around st h r b a n top next gives small =
      let u = binary_at rest around st h r in
      let low = cells_under st.frame.locals around in
      let t = result_of u.operation in
      let are = rest_numbers v.cells low st.operands u.second.under u.second.value r.cells u.second.is in
      let n_small : IsOfType t n = subst (λ (o : Option Operation). IfSome o (λ operation. IsOfType (result_of operation) n)) u.is small in
      stack_goes p v (op.Binary byte) rest around st (value_of t n ∷ u.first.under) (n ∷ drop 1 (drop 1 v.cells)) h r (binary_computes rest around st h r b a (Ok n) top next gives)
      (ap (λ (ns : List ℕ). n ∷ ns) (rest_numbers (drop 1 v.cells) low u.second.under u.first.under u.first.value are u.first.is)
      ∙ ap (λ (k : ℕ). k ∷ (numbers u.first.under ++ low)) (sym (number_of_value t n)))
      (value_ranged t n n_small, rest_ranged u.second.under u.first.under u.first.value u.first.is (rest_ranged st.operands u.second.under u.second.value u.second.is r.typing.ranged))

  pub binary_moves
      : (v1 v2 v3 : View) (b a n : ℕ) → slice_get v.cells 0 ≡ Some b → v1 ≡ popped v → slice_get v1.cells 0 ≡ Some a → v2 ≡ popped v1
      → binary_result byte a b ≡ Some (Ok n) → IsResult byte n → v3 ≡ pushed n v2 → Moves p (before v) v3 1
  binary_moves v1 v2 v3 b a n top off next off2 gives small on =
      let here : slice_get (drop 1 v.cells) 0 ≡ Some a = ap (λ (x : View). slice_get x.cells 0) (sym off) ∙ next in
      moved_as p (before v) (pushed n (popped (popped v))) v3 1 (on ∙ ap (pushed n) (off2 ∙ ap popped off))
      (going_moves p v (op.Binary byte) at refl v.memory v.globals (n ∷ drop 1 (drop 1 v.cells)) (λ rest around st h r. binary_gives rest around st h r b a n top here gives small))

  pub binary_stops
      : (v1 : View) (b a : ℕ) (why : Trap) → slice_get v.cells 0 ≡ Some b → v1 ≡ popped v → slice_get v1.cells 0 ≡ Some a
      → binary_result byte a b ≡ Some (Err why) → Stops p (before v) 1 (Trapped why)
  binary_stops v1 b a why top off next gives =
      let here : slice_get (drop 1 v.cells) 0 ≡ Some a = ap (λ (x : View). slice_get x.cells 0) (sym off) ∙ next in
      trapping_stops p v (op.Binary byte) why at refl (λ rest around st h r. binary_computes rest around st h r b a (Err why) top here gives)

-- Drop and select.

module _ (p : Program) (v : View) (at : IsAt p v op.Drop) where
  drop_at
      : (rest : Sequence) (around : List Around) (st : State) → Holds p (before v) (pending_at (Plain op.Drop rest) around st)
      → Running p (before v) (pending_at (Plain op.Drop rest) around st) → Dropped st.operands
  drop_at rest around st h r = drop_has st.operands st (has_all p v op.Drop rest around st h r)

  pub drop_some : 0 < length v.cells
  drop_some =
      let w = plainly p v op.Drop at refl in
      let u = drop_at w.rest w.around w.st w.holds w.runs in
      some_cell v.cells (cells_under w.st.frame.locals w.around) w.st.operands u.under u.value w.runs.cells u.is

  pub drop_moves : (v1 : View) → v1 ≡ popped v → Moves p (before v) v1 1
  drop_moves v1 off =
      moved_as p (before v) (popped v) v1 1 off
      (going_moves p v op.Drop at refl v.memory v.globals (drop 1 v.cells)
      (λ rest around st h r.
      let u = drop_at rest around st h r in
      let low = cells_under st.frame.locals around in
      stack_goes p v op.Drop rest around st u.under (drop 1 v.cells) h r (ap (λ (vs : List Value). drop_from vs st) u.is)
      (rest_numbers v.cells low st.operands u.under u.value r.cells u.is) (rest_ranged st.operands u.under u.value u.is r.typing.ranged)))

module _ (p : Program) (v : View) (at : IsAt p v op.Select) where
  select_at
      : (rest : Sequence) (around : List Around) (st : State) → Holds p (before v) (pending_at (Plain op.Select rest) around st)
      → Running p (before v) (pending_at (Plain op.Select rest) around st) → Selected st
  select_at rest around st h r = select_has st (has_all p v op.Select rest around st h r)

  pub select_some : 0 < length v.cells
  select_some =
      let w = plainly p v op.Select at refl in
      let u = select_at w.rest w.around w.st w.holds w.runs in
      some_cell v.cells (cells_under w.st.frame.locals w.around) w.st.operands u.number.under u.number.value w.runs.cells u.number.is

  select_more : 0 < length (drop 1 v.cells)
  select_more =
      let w = plainly p v op.Select at refl in
      let u = select_at w.rest w.around w.st w.holds w.runs in
      let low = cells_under w.st.frame.locals w.around in
      some_cell (drop 1 v.cells) low u.number.under (u.first ∷ u.under) u.second (rest_numbers v.cells low w.st.operands u.number.under u.number.value w.runs.cells u.number.is) u.is

  select_last : 0 < length (drop 1 (drop 1 v.cells))
  select_last =
      let w = plainly p v op.Select at refl in
      let u = select_at w.rest w.around w.st w.holds w.runs in
      let low = cells_under w.st.frame.locals w.around in
      let one = rest_numbers v.cells low w.st.operands u.number.under u.number.value w.runs.cells u.number.is in
      some_cell (drop 1 (drop 1 v.cells)) low (u.first ∷ u.under) u.under u.first (rest_numbers (drop 1 v.cells) low u.number.under (u.first ∷ u.under) u.second one u.is) refl

  pub select_next : (v1 : View) → v1 ≡ popped v → 0 < length v1.cells
  select_next v1 off = subst (λ (x : View). 0 < length x.cells) (sym off) select_more

  pub select_then : (v1 v2 : View) → v1 ≡ popped v → v2 ≡ popped v1 → 0 < length v2.cells
  select_then v1 v2 off off2 = subst (λ (x : View). 0 < length x.cells) (sym (off2 ∙ ap popped off)) select_last

  chosen_number : (b : Bool) (first second : Value) → cond b (number_in second) (number_in first) ≡ number_in (cond b second first)
  chosen_number true first second = refl
  chosen_number false first second = refl

  chosen_ranged : (b : Bool) (first second : Value) → IsRanged first → IsRanged second → IsRanged (cond b second first)
  chosen_ranged true first second f s = s
  chosen_ranged false first second f s = f

  select_gives
      : (rest : Sequence) (around : List Around) (st : State) → Holds p (before v) (pending_at (Plain op.Select rest) around st)
      → Running p (before v) (pending_at (Plain op.Select rest) around st) → (n b a : ℕ) → slice_get v.cells 0 ≡ Some n → slice_get (drop 1 v.cells) 0 ≡ Some b
      → slice_get (drop 1 (drop 1 v.cells)) 0 ≡ Some a → Going p v op.Select around st v.memory v.globals (cond (n == 0) b a ∷ drop 1 (drop 1 (drop 1 v.cells)))
  select_gives rest around st h r n b a top next last =
      let u = select_at rest around st h r in
      let low = cells_under st.frame.locals around in
      let one = rest_numbers v.cells low st.operands u.number.under u.number.value r.cells u.number.is in
      let two = rest_numbers (drop 1 v.cells) low u.number.under (u.first ∷ u.under) u.second one u.is in
      let three = rest_numbers (drop 1 (drop 1 v.cells)) low (u.first ∷ u.under) u.under u.first two refl in
      let n_is = top_number v.cells low st.operands u.number.under u.number.value n r.cells u.number.is top in
      let b_is = top_number (drop 1 v.cells) low u.number.under (u.first ∷ u.under) u.second b one u.is next in
      let a_is = top_number (drop 1 (drop 1 v.cells)) low (u.first ∷ u.under) u.under u.first a two refl last in
      let all = subst (λ (vs : List Value). AreRanged vs) u.is (rest_ranged st.operands u.number.under u.number.value u.number.is r.typing.ranged) in
      let goes : effect (instance_of p) op.Select st ≡ Goes (with_operands st (chosen n u.first u.second ∷ u.under)) =
      ap (λ (o : Option Taken). select_on o st) u.number.taken
      ∙ ap (λ (vs : List Value). select_from (number_in u.number.value) vs st) u.is
      ∙ ap (λ (x : Bool). select_of x (number_in u.number.value) u.first u.second (with_operands st u.under)) u.same
      ∙ ap (λ (k : ℕ). Goes (with_operands st (chosen k u.first u.second ∷ u.under))) (sym n_is) in
      let number : cond (n == 0) b a ≡ number_in (chosen n u.first u.second) =
      ap (λ (k : ℕ). cond (n == 0) k a) b_is ∙ ap (λ (k : ℕ). cond (n == 0) (number_in u.second) k) a_is ∙ chosen_number (n == 0) u.first u.second in
      stack_goes p v op.Select rest around st (chosen n u.first u.second ∷ u.under) (cond (n == 0) b a ∷ drop 1 (drop 1 (drop 1 v.cells))) h r goes
      (ap (λ (ns : List ℕ). cond (n == 0) b a ∷ ns) three ∙ ap (λ (k : ℕ). k ∷ (numbers u.under ++ low)) number)
      (chosen_ranged (n == 0) u.first u.second all.1.0 all.0, all.1.1)

  pub select_moves
      : (v1 v2 v3 v4 : View) (n b a m : ℕ) → slice_get v.cells 0 ≡ Some n → v1 ≡ popped v → slice_get v1.cells 0 ≡ Some b → v2 ≡ popped v1
      → slice_get v2.cells 0 ≡ Some a → v3 ≡ popped v2 → m ≡ cond (n == 0) b a → v4 ≡ pushed m v3 → Moves p (before v) v4 1
  select_moves v1 v2 v3 v4 n b a m top off next off2 last off3 m_is on =
      let two : v2 ≡ popped (popped v) = off2 ∙ ap popped off in
      let next_is : slice_get (drop 1 v.cells) 0 ≡ Some b = ap (λ (x : View). slice_get x.cells 0) (sym off) ∙ next in
      let last_is : slice_get (drop 1 (drop 1 v.cells)) 0 ≡ Some a = ap (λ (x : View). slice_get x.cells 0) (sym two) ∙ last in
      moved_as p (before v) (pushed (cond (n == 0) b a) (popped (popped (popped v)))) v4 1 (on ∙ ap (λ (k : ℕ). pushed k v3) m_is ∙ ap (pushed (cond (n == 0) b a)) (off3 ∙ ap popped two))
      (going_moves p v op.Select at refl v.memory v.globals (cond (n == 0) b a ∷ drop 1 (drop 1 (drop 1 v.cells))) (λ rest around st h r. select_gives rest around st h r n b a top next_is last_is))
