-- Calls by index and through the table, as moves of the vessel.
use Rattle.std.proofs.Common.{◌≡◌, ℕ, ◌+◌, ◌-◌, ◌<◌, ◌≤◌, ◌^◌, true, false, List, [], ◌∷◌, ◌++◌, length, drop, Option, Some, None, slice_get, is_some, refl, sym, ap, subst, ◌∙◌, arith}
use Rattle.std.proofs.lemmas.List.{length-drop}
use Rattle.wasm_ops.specs.declared.host_calls.HostName.{HostName}
use Rattle.wasm_ops.specs.declared.operators.Op.TheVariants.{Call, CallIndirect}
use Rattle.wasm_ops.specs.declared.traps.Trap.TheVariants.{UndefinedElement, UninitializedElement, TypeMismatch, StackExhausted}
use Rattle.wasm_ops.specs.declared.types.FuncType.{FuncType}
use Rattle.wasm_ops.specs.Sequence.{Sequence, Plain}
use Rattle.wasm_meaning.specs.Control.{Callee, Defined, imported_or, defined_callee, callee_at, type_of_callee, same_function_type, calls, calls_as, calls_found, calls_element, call_indirect_on}
use Rattle.wasm_meaning.specs.Effects.{Taken, take_i32}
use Rattle.wasm_meaning.specs.Execution.{cells_of}
use Rattle.wasm_meaning.specs.Operators.{effect}
use Rattle.wasm_meaning.specs.Pending.{Around}
use Rattle.wasm_meaning.specs.Programs.{Program, defined, hosts, instance_of}
use Rattle.wasm_meaning.specs.State.{Function, State, Trapped, with_operands}
use Rattle.wasm_meaning.specs.Values.{Value, Int32, Int64, numbers}
use Rattle.wasm_pending.specs.Steps.{pending_at}
use Rattle.wasm_pending.specs.Typed.{AreRanged}
use Rattle.wasm_pending.proofs.Plains.{never_breaks}
use Rattle.wasm_store.specs.View.{View}
use Rattle.wasm_states.specs.Calling.{has_room_for, call_view}
use Rattle.wasm_states.specs.Chains.{cells_under}
use Rattle.wasm_states.specs.Codes.{op_at}
use Rattle.wasm_states.specs.Holding.{Holds, IsState}
use Rattle.wasm_states.specs.Running.{Running}
use Rattle.wasm_states.specs.Steps.{Moves, Stops}
use Rattle.wasm_states.proofs.BlockMoves.{cells_top, number_is}
use Rattle.wasm_states.proofs.CallMoves.{CallsWith, call_reaches, call_stops, call_has_arguments}
use Rattle.wasm_states.proofs.HostMoves.{FindsElement, indirect_is, indirect_top}
use Rattle.wasm_states.proofs.RunLaws.{traps_run}
use Rattle.wasm_states.proofs.StateLaws.{plain_moves, plain_stops, plain_state}

-- the number of the body of a function with an index
abbrev pub callee_body : Program → (index : ℕ) → ℕ
callee_body p index = index - length (hosts p.linked)

pub defined_found : (p : Program) (index : ℕ) (f : Function) → callee_at (instance_of p) index ≡ Some (Defined f) → slice_get (defined p.linked) (callee_body p index) ≡ Some f
defined_found p index f e = by (slice_get (hosts p.linked) index) e
  where
    own : (o : Option Function) → defined_callee o ≡ Some (Defined f) → o ≡ Some f
    own None e = let bad : ⊥ = cc in absurd bad
    own (Some g) e = let same : g ≡ f = cc in ap (λ (x : Function). Some x) same

    by : (o : Option HostName) → imported_or o (instance_of p) index ≡ Some (Defined f) → slice_get (defined p.linked) (callee_body p index) ≡ Some f
    by None e = own (slice_get (defined p.linked) (callee_body p index)) e
    by (Some name) e = let bad : ⊥ = cc in absurd bad

-- By index.

calls_with
    : (p : Program) (v : View) (index : ℕ) (f : Function) → callee_at (instance_of p) index ≡ Some (Defined f) → (rest : Sequence) (around : List Around) (st : State)
    → Running p v (pending_at (Plain (Call index) rest) around st)
    → CallsWith p v (Call index) rest around st st f v.cells (callee_body p index)
calls_with p v index f callee rest around st r = record {
  calls = ap (λ (o : Option Callee). calls o st) callee;
  known = defined_found p index f callee;
  cells_are = r.cells;
  no_more = omega arith;
}

pub call_moves
    : (p : Program) (v : View) (index : ℕ) (f : Function) → op_at p v ≡ Some (Call index) → callee_at (instance_of p) index ≡ Some (Defined f) → has_room_for (cells_of f) v ≡ true
    → Moves p v (call_view (callee_body p index) (length f.params) (length f.locals) (cells_of f) (record v { place = v.place + 1 })) 1
call_moves p v index f at callee room =
    plain_moves p v (call_view (callee_body p index) (length f.params) (length f.locals) (cells_of f) (record v { place = v.place + 1 })) (Call index) 1 at refl
    (λ rest around st h r. call_reaches p v (Call index) rest around st st f v.cells (callee_body p index) h r (calls_with p v index f callee rest around st r) room)

pub call_exhausts
    : (p : Program) (v : View) (index : ℕ) (f : Function) → op_at p v ≡ Some (Call index) → callee_at (instance_of p) index ≡ Some (Defined f) → has_room_for (cells_of f) v ≡ false
    → Stops p v 1 (Trapped StackExhausted)
call_exhausts p v index f at callee none =
    plain_stops p v (Call index) 1 (Trapped StackExhausted) at refl
    (λ rest around st h r. call_stops p v (Call index) rest around st st f v.cells (callee_body p index) h r (calls_with p v index f callee rest around st r) none)

pub call_takes
    : (p : Program) (v : View) (index : ℕ) (f : Function) → IsState p v → op_at p v ≡ Some (Call index) → callee_at (instance_of p) index ≡ Some (Defined f)
    → length f.params ≤ length v.cells
call_takes p v index f state at callee =
    plain_state p v (Call index) (length f.params ≤ length v.cells) state at refl
    (λ rest around st h r. call_has_arguments p v (Call index) rest around st st f v.cells (callee_body p index) h r (calls_with p v index f callee rest around st r))

-- the function is there
pub call_finds : (p : Program) (v : View) (index : ℕ) → IsState p v → op_at p v ≡ Some (Call index) → is_some (callee_at (instance_of p) index) ≡ true
call_finds p v index state at =
    plain_state p v (Call index) (is_some (callee_at (instance_of p) index) ≡ true) state at refl
    (λ rest around st h r. by (callee_at (instance_of p) index) refl rest around st h r)
  where
    by
        : (o : Option Callee) → callee_at (instance_of p) index ≡ o → (rest : Sequence) (around : List Around) (st : State)
        → Holds p v (pending_at (Plain (Call index) rest) around st) → Running p v (pending_at (Plain (Call index) rest) around st) → is_some o ≡ true
    by None none rest around st h r =
        absurd (never_breaks p h.program v.function (Call index) rest around st r.typing (ap (λ (x : Option Callee). calls x st) none))
    by (Some callee) is rest around st h r = refl

-- Through the table.

-- the place in the table is there, and is an i32
pub record PlaceThere (v : View) : Type 0 where
  pub enough : 0 < length v.cells
  pub small : (n : ℕ) → slice_get v.cells 0 ≡ Some n → n < 2 ^ 32

i32_small : (operands : List Value) (taken : Taken) → take_i32 operands ≡ Some taken → AreRanged operands → taken.number < 2 ^ 32
i32_small [] taken e ranged = let bad : ⊥ = cc in absurd bad
i32_small (Int32 n ∷ under) taken e ranged =
    let same : record { number = n; under = under } ≡ taken = cc in
    subst (λ (t : Taken). t.number < 2 ^ 32) same ranged.0
i32_small (Int64 n ∷ under) taken e ranged = let bad : ⊥ = cc in absurd bad

pub place_there : (p : Program) (v : View) (type : ℕ) → IsState p v → op_at p v ≡ Some (CallIndirect type) → PlaceThere v
place_there p v type state at =
    plain_state p v (CallIndirect type) (PlaceThere v) state at refl
    (λ rest around st h r. by (take_i32 st.operands) rest around st refl h r)
  where
    by
        : (o : Option Taken) (rest : Sequence) (around : List Around) (st : State) → take_i32 st.operands ≡ o
        → Holds p v (pending_at (Plain (CallIndirect type) rest) around st) → Running p v (pending_at (Plain (CallIndirect type) rest) around st) → PlaceThere v
    by None rest around st none h r =
        absurd (never_breaks p h.program v.function (CallIndirect type) rest around st r.typing (ap (λ (x : Option Taken). call_indirect_on (instance_of p) type x st) none))
    by (Some taken) rest around st takes h r =
        let cells = cells_top st taken v.cells (cells_under st.frame.locals around) r.cells takes in
        let long = ap (λ (ns : List ℕ). length ns) cells in
        let small = i32_small st.operands taken takes r.typing.ranged in
        record {
          enough = omega (arith, long);
          small = λ n top. subst (λ (k : ℕ). k < 2 ^ 32) (number_is v.cells (numbers taken.under ++ cells_under st.frame.locals around) n taken.number top cells) small;
        }

-- an element that no function can be called by
element_is
    : (p : Program) (v : View) (type place : ℕ) (element : Option (Option ℕ)) (st : State) (taken : Taken) → slice_get v.table place ≡ element → v.table ≡ st.store.table
    → take_i32 st.operands ≡ Some taken → taken.number ≡ place
    → effect (instance_of p) (CallIndirect type) st ≡ calls_element (instance_of p) type element (with_operands st taken.under)
element_is p v type place element st taken found table takes number =
    ap (λ (o : Option Taken). call_indirect_on (instance_of p) type o st) takes
    ∙ ap (λ (o : Option (Option ℕ)). calls_element (instance_of p) type o (with_operands st taken.under))
    (ap (λ (k : ℕ). slice_get st.store.table k) number ∙ ap (λ (t : List (Option ℕ)). slice_get t place) (sym table) ∙ found)

pub indirect_undefined
    : (p : Program) (v : View) (type place : ℕ) → op_at p v ≡ Some (CallIndirect type) → slice_get v.cells 0 ≡ Some place → slice_get v.table place ≡ None
    → Stops p v 1 (Trapped UndefinedElement)
indirect_undefined p v type place at top found =
    plain_stops p v (CallIndirect type) 1 (Trapped UndefinedElement) at refl
    (λ rest around st h r.
    let t = indirect_top p v type place rest around st top h r (take_i32 st.operands) refl in
    traps_run p (CallIndirect type) rest around st UndefinedElement (element_is p v type place None st t.0 found h.store.table t.1 t.2))

pub indirect_uninitialized
    : (p : Program) (v : View) (type place : ℕ) → op_at p v ≡ Some (CallIndirect type) → slice_get v.cells 0 ≡ Some place → slice_get v.table place ≡ Some None
    → Stops p v 1 (Trapped UninitializedElement)
indirect_uninitialized p v type place at top found =
    plain_stops p v (CallIndirect type) 1 (Trapped UninitializedElement) at refl
    (λ rest around st h r.
    let t = indirect_top p v type place rest around st top h r (take_i32 st.operands) refl in
    traps_run p (CallIndirect type) rest around st UninitializedElement (element_is p v type place (Some None) st t.0 found h.store.table t.1 t.2))

-- the type that is wanted, and the function
pub record TypeThere (p : Program) (type index : ℕ) : Type 0 where
  pub wanted : FuncType
  pub callee : Callee
  pub type_is : slice_get p.linked.types type ≡ Some wanted
  pub callee_is : callee_at (instance_of p) index ≡ Some callee

pub type_there
    : (p : Program) (v : View) (type place index : ℕ) → IsState p v → op_at p v ≡ Some (CallIndirect type) → slice_get v.cells 0 ≡ Some place → slice_get v.table place ≡ Some (Some index)
    → TypeThere p type index
type_there p v type place index state at top found =
    plain_state p v (CallIndirect type) (TypeThere p type index) state at refl
    (λ rest around st h r.
    let t = indirect_top p v type place rest around st top h r (take_i32 st.operands) refl in
    by rest around st t.0 h r (element_is p v type place (Some (Some index)) st t.0 found h.store.table t.1 t.2) (slice_get p.linked.types type) (callee_at (instance_of p) index) refl refl)
  where
    by
        : (rest : Sequence) (around : List Around) (st : State) (taken : Taken)
        → Holds p v (pending_at (Plain (CallIndirect type) rest) around st) → Running p v (pending_at (Plain (CallIndirect type) rest) around st)
        → effect (instance_of p) (CallIndirect type) st ≡ calls_found (slice_get p.linked.types type) (callee_at (instance_of p) index) (with_operands st taken.under)
        → (wanted : Option FuncType) (callee : Option Callee) → slice_get p.linked.types type ≡ wanted → callee_at (instance_of p) index ≡ callee → TypeThere p type index
    by rest around st taken h r is wanted None w c =
        absurd (never_breaks p h.program v.function (CallIndirect type) rest around st r.typing
        (is ∙ ap (λ (x : Option Callee). calls_found (slice_get p.linked.types type) x (with_operands st taken.under)) c))
    by rest around st taken h r is None (Some callee) w c =
        absurd (never_breaks p h.program v.function (CallIndirect type) rest around st r.typing
        (is ∙ ap (λ (x : Option Callee). calls_found (slice_get p.linked.types type) x (with_operands st taken.under)) c
        ∙ ap (λ (x : Option FuncType). calls_as x callee (with_operands st taken.under)) w))
    by rest around st taken h r is (Some wanted) (Some callee) w c = record { wanted = wanted; callee = callee; type_is = w; callee_is = c }

pub indirect_mismatch
    : (p : Program) (v : View) (type place index : ℕ) (callee : Callee) (wanted : FuncType) → op_at p v ≡ Some (CallIndirect type) → FindsElement p v type place index callee wanted
    → same_function_type wanted (type_of_callee callee) ≡ false
    → Stops p v 1 (Trapped TypeMismatch)
indirect_mismatch p v type place index callee wanted at f other =
    plain_stops p v (CallIndirect type) 1 (Trapped TypeMismatch) at refl
    (λ rest around st h r.
    let t = indirect_top p v type place rest around st f.top h r (take_i32 st.operands) refl in
    traps_run p (CallIndirect type) rest around st TypeMismatch (indirect_is p v type place index callee wanted st t.0 false f h.store.table t.1 t.2 other))

indirect_with
    : (p : Program) (v : View) (type place index : ℕ) (f : Function) (wanted : FuncType) → FindsElement p v type place index (Defined f) wanted
    → same_function_type wanted (type_of_callee (Defined f)) ≡ true → (rest : Sequence) (around : List Around) (st : State)
    → Holds p v (pending_at (Plain (CallIndirect type) rest) around st) → Running p v (pending_at (Plain (CallIndirect type) rest) around st)
    → (taken : Taken) → take_i32 st.operands ≡ Some taken → taken.number ≡ place → drop 1 v.cells ≡ numbers taken.under ++ cells_under st.frame.locals around
    → CallsWith p v (CallIndirect type) rest around st (with_operands st taken.under) f (drop 1 v.cells) (callee_body p index)
indirect_with p v type place index f wanted e same rest around st h r taken takes number cells = record {
  calls = indirect_is p v type place index (Defined f) wanted st taken true e h.store.table takes number same;
  known = defined_found p index f e.callee_is;
  cells_are = cells;
  no_more = let fall = length-drop 1 v.cells in omega (arith, fall);
}

pub indirect_moves
    : (p : Program) (v : View) (type place index : ℕ) (f : Function) (wanted : FuncType) → op_at p v ≡ Some (CallIndirect type) → FindsElement p v type place index (Defined f) wanted
    → same_function_type wanted (type_of_callee (Defined f)) ≡ true → has_room_for (cells_of f) v ≡ true
    → Moves p v (call_view (callee_body p index) (length f.params) (length f.locals) (cells_of f) (record v { place = v.place + 1; cells = drop 1 v.cells })) 1
indirect_moves p v type place index f wanted at e same room =
    plain_moves p v (call_view (callee_body p index) (length f.params) (length f.locals) (cells_of f) (record v { place = v.place + 1; cells = drop 1 v.cells })) (CallIndirect type) 1 at refl
    (λ rest around st h r.
    let t = indirect_top p v type place rest around st e.top h r (take_i32 st.operands) refl in
    call_reaches p v (CallIndirect type) rest around st (with_operands st t.0.under) f (drop 1 v.cells) (callee_body p index) h r (indirect_with p v type place index f wanted e same rest around st h r t.0 t.1 t.2 t.3) room)

pub indirect_exhausts
    : (p : Program) (v : View) (type place index : ℕ) (f : Function) (wanted : FuncType) → op_at p v ≡ Some (CallIndirect type) → FindsElement p v type place index (Defined f) wanted
    → same_function_type wanted (type_of_callee (Defined f)) ≡ true → has_room_for (cells_of f) v ≡ false
    → Stops p v 1 (Trapped StackExhausted)
indirect_exhausts p v type place index f wanted at e same none =
    plain_stops p v (CallIndirect type) 1 (Trapped StackExhausted) at refl
    (λ rest around st h r.
    let t = indirect_top p v type place rest around st e.top h r (take_i32 st.operands) refl in
    call_stops p v (CallIndirect type) rest around st (with_operands st t.0.under) f (drop 1 v.cells) (callee_body p index) h r (indirect_with p v type place index f wanted e same rest around st h r t.0 t.1 t.2 t.3) none)

pub indirect_takes
    : (p : Program) (v : View) (type place index : ℕ) (f : Function) (wanted : FuncType) → IsState p v → op_at p v ≡ Some (CallIndirect type) → FindsElement p v type place index (Defined f) wanted
    → same_function_type wanted (type_of_callee (Defined f)) ≡ true
    → length f.params ≤ length (drop 1 v.cells)
indirect_takes p v type place index f wanted state at e same =
    plain_state p v (CallIndirect type) (length f.params ≤ length (drop 1 v.cells)) state at refl
    (λ rest around st h r.
    let t = indirect_top p v type place rest around st e.top h r (take_i32 st.operands) refl in
    call_has_arguments p v (CallIndirect type) rest around st (with_operands st t.0.under) f (drop 1 v.cells) (callee_body p index) h r (indirect_with p v type place index f wanted e same rest around st h r t.0 t.1 t.2 t.3))
