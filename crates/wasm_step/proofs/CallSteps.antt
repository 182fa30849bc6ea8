-- Calls by index and through the table: what they find on top of the cells, and how they go on.
use Rattle.std.proofs.Common.{◌≡◌, ℕ, zero, suc, ◌+◌, ◌-◌, ◌<◌, ◌≤◌, ◌^◌, Bool, true, false, cond, List, [], ◌∷◌, ◌++◌, length, take, drop, reverse, Option, Some, None, slice_get, is_some, refl, sym, ap, subst, ◌∙◌, option_map, length-append, length-drop, arith}
use Rattle.std.proofs.lemmas.List.{length-replicate}
use Rattle.std.specs.List.{AllByRecursion}
use Rattle.wasm_ops.specs.declared.host_calls.HostCall.{HostCall}
use Rattle.wasm_ops.specs.declared.host_calls.HostName.{HostName}
use Rattle.wasm_ops.specs.declared.host_calls.HostName.TheVariants.{FdRead, FdWrite, ProcExit}
use Rattle.wasm_ops.specs.declared.operators.Op.{Op}
use Rattle.wasm_ops.specs.declared.operators.Op.TheVariants as op
use Rattle.wasm_ops.specs.declared.traps.Trap.{Trap}
use Rattle.wasm_ops.specs.declared.traps.Trap.TheVariants.{UndefinedElement, UninitializedElement, TypeMismatch}
use Rattle.wasm_ops.specs.declared.types.FuncType.{FuncType}
use Rattle.wasm_ops.specs.declared.types.ValType.{ValType}
use Rattle.wasm_ops.specs.declared.types.ValType.TheVariants.{I32}
use Rattle.wasm_ops.specs.Sequence.{Sequence, Plain, IsPlain}
use Rattle.wasm_meaning.specs.Bytes.{zeros}
use Rattle.wasm_meaning.specs.Control.{Callee, Host, Defined, callee_at, type_of_callee, same_function_type, Arguments, take_values, take_arguments, asks, calls}
use Rattle.wasm_meaning.specs.Effects.{Taken, take_i32}
use Rattle.wasm_meaning.specs.Execution.{cells_of}
use Rattle.wasm_meaning.specs.HostCalls.{host_type}
use Rattle.wasm_meaning.specs.Operators.{effect}
use Rattle.wasm_meaning.specs.Pending.{Around}
use Rattle.wasm_meaning.specs.Programs.{Program, hosts, instance_of}
use Rattle.wasm_meaning.specs.State.{Function, State, Trapped, with_operands}
use Rattle.wasm_meaning.specs.Values.{Value, number_in, numbers, has_type}
use Rattle.wasm_pending.proofs.Effects.{under_ranged}
use Rattle.wasm_pending.specs.Steps.{pending_at}
use Rattle.wasm_pending.specs.Typed.{AreRanged}
use Rattle.wasm_store.specs.View.{View}
use Rattle.wasm_instance.specs.Callees.{shape_of, callee_of, called, same_as, is_of_type}
use Rattle.wasm_instance.specs.declared.callees.Callee.{Callee as Kept}
use Rattle.wasm_instance.specs.declared.callees.Callee.TheVariants as kept
use Rattle.wasm_instance.specs.declared.callees.Shape.{Shape}
use Rattle.wasm_states.proofs.FunctionCalls.{callee_body, call_moves, call_exhausts, call_takes, call_finds, place_there, indirect_undefined, indirect_uninitialized, TypeThere, type_there, indirect_mismatch, indirect_moves, indirect_exhausts, indirect_takes}
use Rattle.wasm_states.proofs.HostMoves.{call_asks, FindsElement, indirect_is, indirect_top, indirect_asks}
use Rattle.wasm_states.proofs.Places.{place_fits}
use Rattle.wasm_states.proofs.StateLaws.{kept_state, holds_fits, plain_state}
use Rattle.wasm_states.specs.Calling.{has_room_for, call_view}
use Rattle.wasm_states.specs.Chains.{cells_under}
use Rattle.wasm_states.specs.Holding.{Holds}
use Rattle.wasm_states.specs.HostCalls.{arguments_of, places_of, cells_taken, CanCall}
use Rattle.wasm_states.specs.Running.{Running}
use Rattle.wasm_states.specs.Steps.{Moves, Stops}
use Rattle.wasm_step.proofs.Going.{has_all}
use Rattle.wasm_step.proofs.NumericMoves.{popped, moved_as}
use Rattle.wasm_step.proofs.Shapes.{number_ranged}
use Rattle.wasm_step.proofs.VariableMoves.{live_frame}
use Rattle.wasm_step.specs.Arguments.{count_of, ArgumentsThere, AreArguments, Enters, Asks}
use Rattle.wasm_step.specs.Arms.{before, IsAt}
use Rattle.wasm_step.specs.Asking.{host_of, host_through, element_on_top, asked_by, host_next, goes_through_table}
use Rattle.wasm_step.specs.Does.{Calls}
use Rattle.wasm_step.specs.declared.answers.Step.{Step}
use Rattle.wasm_step.specs.declared.answers.Step.TheVariants as step

-- Small things.

abbrev cond_of : (b : Bool) → Option Arguments → Option Arguments
cond_of b more = cond b more None

zeros_fit : (count : ℕ) (cells : List ℕ) (labels : ℕ) → length (zeros count ++ cells) + labels ≤ 65536 → length cells + count ≤ 65536
zeros_fit count cells labels few = omega (arith, few, length-append (zeros count) cells, length-replicate {A = ℕ} count 0)

-- the call may be carried out
can_call
    : (p : Program) (v : View) (o : Op) → IsAt p v o → IsPlain o → (call : HostCall) (name : HostName) (indirect : Bool) → call.name ≡ name → call.indirect ≡ indirect
    → AreArguments name (places_of indirect) v.cells call.args → ArgumentsThere name (places_of indirect) v.cells → CanCall call (before v)
can_call p v o at plain call name indirect name_is through are there =
    let enough = there.enough in
    let taken : cells_taken call ≡ places_of indirect + count_of name =
    ap (λ (b : Bool). places_of b + arguments_of call) through ∙ ap (λ (n : HostName). places_of indirect + count_of n) name_is in
    record {
      live = live_frame p v o at plain;
      place = place_fits p (before v) o at.state at.here;
      enough = omega (arith, enough, taken);
      arguments = ap (λ (n : HostName). take (count_of n) (drop (places_of call.indirect) v.cells)) name_is
          ∙ ap (λ (b : Bool). take (count_of name) (drop (places_of b) v.cells)) through
          ∙ are.are
          ∙ ap (λ (n : HostName). reverse (take (count_of n) call.args)) (sym name_is);
    }

-- the arguments that the function has not
others_as
    : (call : HostCall) (name : HostName) (under : ℕ) (cells : List ℕ) → call.name ≡ name → AreArguments name under cells call.args
    → drop (arguments_of call) call.args ≡ zeros (4 - arguments_of call)
others_as call name under cells name_is are =
    subst (λ (n : HostName). drop (count_of n) call.args ≡ zeros (4 - count_of n)) (sym name_is) are.others

-- Functions.

pub record DefinedAs (p : Program) (index body : ℕ) (shape : Shape) : Type 0 where
  pub function : Function
  pub callee : callee_at (instance_of p) index ≡ Some (Defined function)
  pub body_is : body ≡ callee_body p index
  pub shape_is : shape ≡ shape_of function

pub defined_as : (p : Program) (index body : ℕ) (shape : Shape) → called p index ≡ Some (kept.Defined body shape) → DefinedAs p index body shape
defined_as p index body shape e = by (callee_at (instance_of p) index) refl e
  where
    by : (o : Option Callee) → callee_at (instance_of p) index ≡ o → option_map (callee_of (index - length (hosts p.linked))) o ≡ Some (kept.Defined body shape) → DefinedAs p index body shape
    by None is e = let bad : ⊥ = cc in absurd bad
    by (Some (Host name)) is e = let bad : ⊥ = cc in absurd bad
    by (Some (Defined f)) is e =
        let body_is : body ≡ callee_body p index = cc in
        let shape_is : shape ≡ shape_of f = cc in
        record { function = f; callee = is; body_is = body_is; shape_is = shape_is }

pub host_as : (p : Program) (index : ℕ) (name : HostName) → called p index ≡ Some (kept.Host name) → callee_at (instance_of p) index ≡ Some (Host name)
host_as p index name e = by (callee_at (instance_of p) index) refl e
  where
    by : (o : Option Callee) → callee_at (instance_of p) index ≡ o → option_map (callee_of (index - length (hosts p.linked))) o ≡ Some (kept.Host name) → callee_at (instance_of p) index ≡ Some (Host name)
    by None is e = let bad : ⊥ = cc in absurd bad
    by (Some (Host other)) is e = let same : other ≡ name = cc in is ∙ ap (λ (x : HostName). Some (Host x)) same
    by (Some (Defined f)) is e = let bad : ⊥ = cc in absurd bad

none_as : (p : Program) (index : ℕ) → called p index ≡ None → is_some (callee_at (instance_of p) index) ≡ true → ⊥
none_as p index e some = by (callee_at (instance_of p) index) e some
  where
    by : (o : Option Callee) → option_map (callee_of (index - length (hosts p.linked))) o ≡ None → is_some o ≡ true → ⊥
    by None e some = let bad : ⊥ = cc in bad
    by (Some callee) e some = let bad : ⊥ = cc in bad

-- Arguments of the host's functions.

-- operands that are taken from the top are i32s
front_small
    : (params : List ValType) (values before : List Value) (taken : Arguments) (low : List ℕ) → take_values params values before ≡ Some taken
    → AllByRecursion (λ (t : ValType). t ≡ I32) params → AreRanged values → (k n : ℕ) → k < length params → slice_get (numbers values ++ low) k ≡ Some n → n < 2 ^ 32
front_small [] values before taken low e all ranged k n below top = let bad : ⊥ = omega (arith, below) in absurd bad
front_small (t ∷ params) [] before taken low e all ranged k n below top = let bad : ⊥ = cc in absurd bad
front_small (t ∷ params) (v ∷ values) before taken low e all ranged zero n below top =
    let has = first_has (has_type t v) (take_values params values (v ∷ before)) e in
    let same : number_in v ≡ n = given (number_in v) n top in
    let small = number_ranged I32 v (subst (λ (x : ValType). has_type x v ≡ true) all.0 has) ranged.0 in
    omega (arith, small, same)
  where
    given : (a b : ℕ) → Some a ≡ Some b → a ≡ b
    given a b e = cc

    first_has : (b : Bool) (more : Option Arguments) → cond_of b more ≡ Some taken → b ≡ true
    first_has true more e = refl
    first_has false more e = let bad : ⊥ = cc in absurd bad
front_small (t ∷ params) (v ∷ values) before taken low e all ranged (suc k) n below top =
    front_small params values (v ∷ before) taken low (rest_of (has_type t v) (take_values params values (v ∷ before)) e) all.1 ranged.1 k n (omega (arith, below)) top
  where
    rest_of : (b : Bool) (more : Option Arguments) → cond_of b more ≡ Some taken → more ≡ Some taken
    rest_of true more e = e
    rest_of false more e = let bad : ⊥ = cc in absurd bad

all_i32 : (name : HostName) → AllByRecursion (λ (t : ValType). t ≡ I32) (reverse (host_type name).params)
all_i32 FdRead = (refl, (refl, (refl, (refl, tt))))
all_i32 FdWrite = (refl, (refl, (refl, (refl, tt))))
all_i32 ProcExit = (refl, tt)

as_many : (name : HostName) → length (reverse (host_type name).params) ≡ count_of name
as_many FdRead = refl
as_many FdWrite = refl
as_many ProcExit = refl

values_many : (params : List ValType) (values before : List Value) (taken : Arguments) → take_values params values before ≡ Some taken → length params ≤ length values
values_many [] values before taken e = omega arith
values_many (t ∷ params) [] before taken e = let bad : ⊥ = cc in absurd bad
values_many (t ∷ params) (v ∷ values) before taken e =
    let more = values_many params values (v ∷ before) taken (rest_of (has_type t v) (take_values params values (v ∷ before)) e) in omega (arith, more)
  where
    rest_of : (b : Bool) (more : Option Arguments) → cond_of b more ≡ Some taken → more ≡ Some taken
    rest_of true more e = e
    rest_of false more e = let bad : ⊥ = cc in absurd bad

get_under : (cells : List ℕ) (under k : ℕ) → slice_get cells (under + k) ≡ slice_get (drop under cells) k
get_under cells zero k = let same : zero + k ≡ k = omega arith in ap (λ (n : ℕ). slice_get cells n) same
get_under [] (suc under) k = refl
get_under (x ∷ cells) (suc under) k =
    let same : suc under + k ≡ suc (under + k) = omega arith in ap (λ (n : ℕ). slice_get (x ∷ cells) n) same ∙ get_under cells under k

length_map_numbers : (values : List Value) → length (numbers values) ≡ length values
length_map_numbers [] = refl
length_map_numbers (v ∷ values) = ap suc (length_map_numbers values)

there_of
    : (name : HostName) (under : ℕ) (cells low : List ℕ) (operands : List Value) (taken : Arguments) → drop under cells ≡ numbers operands ++ low → under ≤ length cells
    → take_arguments (host_type name).params operands ≡ Some taken → AreRanged operands → ArgumentsThere name under cells
there_of name under cells low operands taken are some takes ranged =
    let many = values_many (reverse (host_type name).params) operands [] taken takes in
    let long = ap (λ (ns : List ℕ). length ns) are in
    let count = as_many name in
    record {
      enough = omega (arith, many, long, count, some, length-append (numbers operands) low, length_map_numbers operands, length-drop under cells);
      small = λ k n below top.
          front_small (reverse (host_type name).params) operands [] taken low takes (all_i32 name) ranged k n (omega (arith, below, count))
          (sym (ap (λ (ns : List ℕ). slice_get ns k) are) ∙ sym (get_under cells under k) ∙ top);
    }

-- By index.

module _ (p : Program) (v : View) (index : ℕ) (at : IsAt p v (op.Call index)) where
  same_place : v.place - 1 + 1 ≡ v.place
  same_place = let passed = at.passed in omega (arith, passed)

  pub call_never_none : called p index ≡ None → ⊥
  call_never_none e = none_as p index e (call_finds p (before v) index at.state at.here)

  pub call_arguments : (body : ℕ) (shape : Shape) → called p index ≡ Some (kept.Defined body shape) → shape.params ≤ length v.cells
  call_arguments body shape e =
      let d = defined_as p index body shape e in
      let takes = call_takes p (before v) index d.function at.state at.here d.callee in
      let same = ap (λ (s : Shape). s.params) d.shape_is in
      omega (arith, takes, same)

  room_is : (body : ℕ) (shape : Shape) → (d : DefinedAs p index body shape) → (b : Bool) → has_room_for shape.cells v ≡ b → has_room_for (cells_of d.function) (before v) ≡ b
  room_is body shape d b e = ap (λ (s : Shape). has_room_for s.cells v) (sym d.shape_is) ∙ e

  call_goes : (body : ℕ) (shape : Shape) → DefinedAs p index body shape → has_room_for shape.cells v ≡ true → Moves p (before v) (call_view body shape.params shape.locals shape.cells v) 1
  call_goes body shape d room =
      let m = call_moves p (before v) index d.function at.here d.callee (room_is body shape d true room) in
      moved_as p (before v) (call_view (callee_body p index) (length d.function.params) (length d.function.locals) (cells_of d.function) (record v { place = v.place - 1 + 1 })) (call_view body shape.params shape.locals shape.cells v) 1
      (ap (λ (b : ℕ). call_view b shape.params shape.locals shape.cells v) d.body_is
      ∙ ap (λ (s : Shape). call_view (callee_body p index) s.params s.locals s.cells v) d.shape_is
      ∙ ap (λ (k : ℕ). call_view (callee_body p index) (length d.function.params) (length d.function.locals) (cells_of d.function) (record v { place = k })) (sym same_place))
      m

  pub call_zeros : (body : ℕ) (shape : Shape) → called p index ≡ Some (kept.Defined body shape) → has_room_for shape.cells v ≡ true → length v.cells + shape.locals ≤ 65536
  call_zeros body shape e room =
      let after = kept_state p (before v) (call_view body shape.params shape.locals shape.cells v) 1 at.state (call_goes body shape (defined_as p index body shape e) room) in
      let few = holds_fits p (call_view body shape.params shape.locals shape.cells v) after.pending after.holds in
      zeros_fit shape.locals v.cells (length v.labels) few

  pub call_enters : (body : ℕ) (shape : Shape) (v' : View) (answer : Step) → called p index ≡ Some (kept.Defined body shape) → Enters v body shape v' answer → Calls p (before v) v' answer
  call_enters body shape v' (step.Went price) e enters =
      let d = defined_as p index body shape e in
      (enters.0, subst (λ (k : ℕ). Moves p (before v) v' k) (sym enters.0) (moved_as p (before v) (call_view body shape.params shape.locals shape.cells v) v' 1 enters.2 (call_goes body shape d enters.1)))
  call_enters body shape v' (step.Trapped trap price) e enters =
      let d = defined_as p index body shape e in
      let stops = call_exhausts p (before v) index d.function at.here d.callee (room_is body shape d false enters.2) in
      (enters.0, subst (λ (k : ℕ). Stops p (before v) k (Trapped trap)) (sym enters.0) (subst (λ (t : Trap). Stops p (before v) 1 (Trapped t)) (sym enters.1) stops))
  call_enters body shape v' step.Free e enters = absurd enters
  call_enters body shape v' (step.Host call) e enters = absurd enters
  call_enters body shape v' step.Ended e enters = absurd enters
  call_enters body shape v' step.Short e enters = absurd enters

  pub call_there : (name : HostName) → called p index ≡ Some (kept.Host name) → ArgumentsThere name 0 v.cells
  call_there name e =
      let callee = host_as p index name e in
      plain_state p (before v) (op.Call index) (ArgumentsThere name 0 v.cells) at.state at.here refl
      (λ rest around st h r. by callee rest around st h r (take_arguments (host_type name).params st.operands) refl)
    where
      by
          : callee_at (instance_of p) index ≡ Some (Host name) → (rest : Sequence) (around : List Around) (st : State) → Holds p (before v) (pending_at (Plain (op.Call index) rest) around st)
          → Running p (before v) (pending_at (Plain (op.Call index) rest) around st) → (o : Option Arguments) → take_arguments (host_type name).params st.operands ≡ o → ArgumentsThere name 0 v.cells
      by callee rest around st h r None none =
          absurd (has_all p v (op.Call index) rest around st h r (ap (λ (o : Option Callee). calls o st) callee ∙ ap (λ (o : Option Arguments). asks name o st) none))
      by callee rest around st h r (Some taken) takes = there_of name 0 v.cells (cells_under st.frame.locals around) st.operands taken r.cells (omega arith) takes r.typing.ranged

  pub call_hosts : (name : HostName) (v' : View) (answer : Step) → called p index ≡ Some (kept.Host name) → Asks v name false v' answer → Calls p (before v) v' answer
  call_hosts name v' (step.Host call) e asked =
      let there = call_there name e in
      let name_is = asked.1 in
      let can = can_call p v (op.Call index) at refl call name false name_is asked.2 asked.3 there in (
        asked.0,
        call_asks p (before v) index call at.here (host_as p index name e ∙ ap (λ (n : HostName). Some (Host n)) (sym name_is)) asked.2 asked.3.four can,
        record {
          name_is = ap (λ (x : Option Op). asked_by p (before v) x) at.here ∙ ap (λ (x : Option Kept). host_of x) e ∙ ap (λ (n : HostName). Some n) (sym name_is);
          indirect_is = asked.2 ∙ sym (ap (λ (o : Option Op). goes_through_table o) at.here);
          others = others_as call name (places_of false) v.cells name_is asked.3;
        },
      )
  call_hosts name v' (step.Went price) e asked = absurd asked
  call_hosts name v' (step.Trapped trap price) e asked = absurd asked
  call_hosts name v' step.Free e asked = absurd asked
  call_hosts name v' step.Ended e asked = absurd asked
  call_hosts name v' step.Short e asked = absurd asked

-- Through the table.

module _ (p : Program) (v : View) (type : ℕ) (at : IsAt p v (op.CallIndirect type)) where
  same_place_too : v.place - 1 + 1 ≡ v.place
  same_place_too = let passed = at.passed in omega (arith, passed)

  pub indirect_some : 0 < length v.cells
  indirect_some = (place_there p (before v) type at.state at.here).enough

  pub indirect_small : (n : ℕ) → slice_get v.cells 0 ≡ Some n → n < 2 ^ 32
  indirect_small n top = (place_there p (before v) type at.state at.here).small n top

  pub undefined_stops : (place : ℕ) → slice_get v.cells 0 ≡ Some place → slice_get v.table place ≡ None → Stops p (before v) 1 (Trapped UndefinedElement)
  undefined_stops place top found = indirect_undefined p (before v) type place at.here top found

  pub uninitialized_stops : (place : ℕ) → slice_get v.cells 0 ≡ Some place → slice_get v.table place ≡ Some None → Stops p (before v) 1 (Trapped UninitializedElement)
  uninitialized_stops place top found = indirect_uninitialized p (before v) type place at.here top found

  -- the element of the top cell
  pub record Element (index : ℕ) : Type 0 where
    pub place : ℕ
    pub top : slice_get v.cells 0 ≡ Some place
    pub found : slice_get v.table place ≡ Some (Some index)
    pub there : TypeThere p type index

  pub element_there : (index : ℕ) → ((place : ℕ) → slice_get v.cells 0 ≡ Some place → slice_get v.table place ≡ Some (Some index)) → Element index
  element_there index each = by v.cells refl indirect_some
    where
      by : (cells : List ℕ) → v.cells ≡ cells → 0 < length cells → Element index
      by [] is some = let bad : ⊥ = omega (arith, some) in absurd bad
      by (place ∷ cells) is some =
          let top : slice_get v.cells 0 ≡ Some place = ap (λ (ns : List ℕ). slice_get ns 0) is in
          record { place = place; top = top; found = each place top; there = type_there p (before v) type place index at.state at.here top (each place top) }

  finds_as : (index : ℕ) → (e : Element index) → (callee : Callee) → callee_at (instance_of p) index ≡ Some callee → FindsElement p (before v) type e.place index callee e.there.wanted
  finds_as index e callee is = record { top = e.top; element = e.found; type_is = e.there.type_is; callee_is = is }

  same_type_is : (index : ℕ) → (e : Element index) → (callee : Callee) → callee_at (instance_of p) index ≡ Some callee → (b : Bool) → is_of_type p index type ≡ b → same_function_type e.there.wanted (type_of_callee callee) ≡ b
  same_type_is index e callee is b same =
      sym (ap (λ (o : Option FuncType). same_as o (callee_at (instance_of p) index)) e.there.type_is ∙ ap (λ (o : Option Callee). same_as (Some e.there.wanted) o) is) ∙ same

  pub mismatch_stops : (index : ℕ) → Element index → is_of_type p index type ≡ false → Stops p (before v) 1 (Trapped TypeMismatch)
  mismatch_stops index e other =
      indirect_mismatch p (before v) type e.place index e.there.callee e.there.wanted at.here (finds_as index e e.there.callee e.there.callee_is) (same_type_is index e e.there.callee e.there.callee_is false other)

  pub indirect_never_none : (index : ℕ) → Element index → called p index ≡ None → ⊥
  indirect_never_none index e none = none_as p index none (ap (λ (o : Option Callee). is_some o) e.there.callee_is)

  pub indirect_arguments
      : (index body : ℕ) (shape : Shape) (v1 : View) → Element index → is_of_type p index type ≡ true → called p index ≡ Some (kept.Defined body shape) → v1 ≡ popped v
      → shape.params ≤ length v1.cells
  indirect_arguments index body shape v1 e same is off =
      let d = defined_as p index body shape is in
      let takes = indirect_takes p (before v) type e.place index d.function e.there.wanted at.state at.here (finds_as index e (Defined d.function) d.callee) (same_type_is index e (Defined d.function) d.callee true same) in
      let params = ap (λ (s : Shape). s.params) d.shape_is in
      let long = ap (λ (x : View). length x.cells) off in
      omega (arith, takes, params, long)

  indirect_room : (index body : ℕ) (shape : Shape) → (d : DefinedAs p index body shape) → (v1 : View) → v1 ≡ popped v → (b : Bool) → has_room_for shape.cells v1 ≡ b → has_room_for (cells_of d.function) (before v) ≡ b
  indirect_room index body shape d v1 off b e = ap (λ (s : Shape). has_room_for s.cells v) (sym d.shape_is) ∙ ap (λ (x : View). has_room_for shape.cells x) (sym off) ∙ e

  indirect_goes
      : (index body : ℕ) (shape : Shape) (v1 : View) → Element index → is_of_type p index type ≡ true → DefinedAs p index body shape → v1 ≡ popped v → has_room_for shape.cells v1 ≡ true
      → Moves p (before v) (call_view body shape.params shape.locals shape.cells v1) 1
  indirect_goes index body shape v1 e same d off room =
      let m = indirect_moves p (before v) type e.place index d.function e.there.wanted at.here (finds_as index e (Defined d.function) d.callee) (same_type_is index e (Defined d.function) d.callee true same) (indirect_room index body shape d v1 off true room) in
      moved_as p (before v) (call_view (callee_body p index) (length d.function.params) (length d.function.locals) (cells_of d.function) (record v { place = v.place - 1 + 1; cells = drop 1 v.cells })) (call_view body shape.params shape.locals shape.cells v1) 1
      (ap (λ (x : View). call_view body shape.params shape.locals shape.cells x) off
      ∙ ap (λ (b : ℕ). call_view b shape.params shape.locals shape.cells (popped v)) d.body_is
      ∙ ap (λ (s : Shape). call_view (callee_body p index) s.params s.locals s.cells (popped v)) d.shape_is
      ∙ ap (λ (k : ℕ). call_view (callee_body p index) (length d.function.params) (length d.function.locals) (cells_of d.function) (record v { place = k; cells = drop 1 v.cells })) (sym same_place_too))
      m

  pub indirect_zeros
      : (index body : ℕ) (shape : Shape) (v1 : View) → Element index → is_of_type p index type ≡ true → called p index ≡ Some (kept.Defined body shape) → v1 ≡ popped v → has_room_for shape.cells v1 ≡ true
      → length v1.cells + shape.locals ≤ 65536
  indirect_zeros index body shape v1 e same is off room =
      let after = kept_state p (before v) (call_view body shape.params shape.locals shape.cells v1) 1 at.state (indirect_goes index body shape v1 e same (defined_as p index body shape is) off room) in
      let few = holds_fits p (call_view body shape.params shape.locals shape.cells v1) after.pending after.holds in
      zeros_fit shape.locals v1.cells (length v1.labels) few

  pub indirect_enters
      : (index body : ℕ) (shape : Shape) (v1 v' : View) (answer : Step) → Element index → is_of_type p index type ≡ true → called p index ≡ Some (kept.Defined body shape) → v1 ≡ popped v
      → Enters v1 body shape v' answer → Calls p (before v) v' answer
  indirect_enters index body shape v1 v' (step.Went price) e same is off enters =
      let d = defined_as p index body shape is in (
        enters.0,
        subst (λ (k : ℕ). Moves p (before v) v' k) (sym enters.0)
            (moved_as p (before v) (call_view body shape.params shape.locals shape.cells v1) v' 1 enters.2 (indirect_goes index body shape v1 e same d off enters.1)),
      )
  indirect_enters index body shape v1 v' (step.Trapped trap price) e same is off enters =
      let d = defined_as p index body shape is in
      let stops = indirect_exhausts p (before v) type e.place index d.function e.there.wanted at.here (finds_as index e (Defined d.function) d.callee) (same_type_is index e (Defined d.function) d.callee true same) (indirect_room index body shape d v1 off false enters.2) in
      (enters.0, subst (λ (k : ℕ). Stops p (before v) k (Trapped trap)) (sym enters.0) (subst (λ (t : Trap). Stops p (before v) 1 (Trapped t)) (sym enters.1) stops))
  indirect_enters index body shape v1 v' step.Free e same is off enters = absurd enters
  indirect_enters index body shape v1 v' (step.Host call) e same is off enters = absurd enters
  indirect_enters index body shape v1 v' step.Ended e same is off enters = absurd enters
  indirect_enters index body shape v1 v' step.Short e same is off enters = absurd enters

  pub indirect_there : (index : ℕ) (name : HostName) → Element index → is_of_type p index type ≡ true → called p index ≡ Some (kept.Host name) → ArgumentsThere name 1 v.cells
  indirect_there index name e same is =
      let callee = host_as p index name is in
      plain_state p (before v) (op.CallIndirect type) (ArgumentsThere name 1 v.cells) at.state at.here refl
      (λ rest around st h r.
      let t = indirect_top p (before v) type e.place rest around st e.top h r (take_i32 st.operands) refl in
      let effect_is = indirect_is p (before v) type e.place index (Host name) e.there.wanted st t.0 true (finds_as index e (Host name) callee) h.store.table t.1 t.2 (same_type_is index e (Host name) callee true same) in
      by rest around st t.0 h r t.1 t.3 effect_is (take_arguments (host_type name).params t.0.under) refl)
    where
      by
          : (rest : Sequence) (around : List Around) (st : State) (top : Taken) → Holds p (before v) (pending_at (Plain (op.CallIndirect type) rest) around st)
          → Running p (before v) (pending_at (Plain (op.CallIndirect type) rest) around st) → take_i32 st.operands ≡ Some top → drop 1 v.cells ≡ numbers top.under ++ cells_under st.frame.locals around
          → effect (instance_of p) (op.CallIndirect type) st ≡ asks name (take_arguments (host_type name).params top.under) (with_operands st top.under)
          → (o : Option Arguments) → take_arguments (host_type name).params top.under ≡ o → ArgumentsThere name 1 v.cells
      by rest around st top h r takes_top cells is None none =
          absurd (has_all p v (op.CallIndirect type) rest around st h r (is ∙ ap (λ (o : Option Arguments). asks name o (with_operands st top.under)) none))
      by rest around st top h r takes_top cells is (Some taken) takes =
          there_of name 1 v.cells (cells_under st.frame.locals around) top.under taken cells indirect_some takes (under_ranged I32 st.operands top takes_top r.typing.ranged)

  -- which function of the host the operator calls
  pub indirect_through
      : (place : ℕ) → slice_get v.cells 0 ≡ Some place → (element : Option (Option ℕ)) → slice_get v.table place ≡ element
      → asked_by p (before v) (Some (op.CallIndirect type)) ≡ host_through p type element
  indirect_through place top element found =
      ap (λ (o : Option ℕ). host_through p type (element_on_top v.table o)) top
      ∙ ap (λ (o : Option (Option ℕ)). host_through p type o) found

  pub indirect_asked : (index : ℕ) → Element index → (b : Bool) → is_of_type p index type ≡ b → asked_by p (before v) (Some (op.CallIndirect type)) ≡ cond b (host_of (called p index)) None
  indirect_asked index e b same =
      indirect_through e.place e.top (Some (Some index)) e.found
      ∙ ap (λ (x : Bool). cond x (host_of (called p index)) None) same

  pub indirect_next : (index : ℕ) → Element index → (b : Bool) → is_of_type p index type ≡ b → host_next p (before v) ≡ cond b (host_of (called p index)) None
  indirect_next index e b same =
      ap (λ (x : Option Op). asked_by p (before v) x) at.here ∙ indirect_asked index e b same

  pub indirect_hosts
      : (index : ℕ) (name : HostName) (v' : View) (answer : Step) → Element index → is_of_type p index type ≡ true → called p index ≡ Some (kept.Host name) → Asks v name true v' answer
      → Calls p (before v) v' answer
  indirect_hosts index name v' (step.Host call) e same is asked =
      let name_is = asked.1 in
      let there = indirect_there index name e same is in
      let can = can_call p v (op.CallIndirect type) at refl call name true name_is asked.2 asked.3 there in
      let callee = host_as p index name is in
      let same_is = same_type_is index e (Host name) callee true same in (
        asked.0,
        indirect_asks p (before v) type e.place index e.there.wanted call at.here
            (finds_as index e (Host call.name) (callee ∙ ap (λ (n : HostName). Some (Host n)) (sym name_is)))
            (ap (λ (n : HostName). same_function_type e.there.wanted (host_type n)) name_is ∙ same_is) asked.2 asked.3.four can,
        record {
          name_is = indirect_next index e true same ∙ ap (λ (x : Option Kept). host_of x) is ∙ ap (λ (n : HostName). Some n) (sym name_is);
          indirect_is = asked.2 ∙ sym (ap (λ (o : Option Op). goes_through_table o) at.here);
          others = others_as call name (places_of true) v.cells name_is asked.3;
        },
      )
  indirect_hosts index name v' (step.Went price) e same is asked = absurd asked
  indirect_hosts index name v' (step.Trapped trap price) e same is asked = absurd asked
  indirect_hosts index name v' step.Free e same is asked = absurd asked
  indirect_hosts index name v' step.Ended e same is asked = absurd asked
  indirect_hosts index name v' step.Short e same is asked = absurd asked
