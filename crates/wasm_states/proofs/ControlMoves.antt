-- The operators that branch, return, and end bodies, as moves of the vessel.
use Rattle.std.proofs.Common.{◌≡◌, ℕ, ◌+◌, ◌-◌, ◌<◌, ◌≤◌, ◌^◌, ◌==◌, Bool, true, false, List, [], ◌∷◌, ◌++◌, length, drop, Option, Some, None, slice_get, is_some, refl, sym, ap, subst, ◌∙◌, arith}
use Rattle.std.proofs.lemmas.List.{length-drop}
use Rattle.wasm_ops.specs.declared.modules.Body.{Body}
use Rattle.wasm_ops.specs.declared.operators.Op.TheVariants.{Br, BrIf, BrTable, Return, End}
use Rattle.wasm_ops.specs.declared.types.ValType.TheVariants.{I32}
use Rattle.wasm_ops.specs.Sequence.{Sequence, Plain}
use Rattle.wasm_meaning.specs.Control.{branch_if_on, branch_if_of, branch_table_on, branch_to, entry}
use Rattle.wasm_meaning.specs.Effects.{Branches, Taken, take_i32}
use Rattle.wasm_meaning.specs.Pending.{Around, Pending}
use Rattle.wasm_meaning.specs.Programs.{Program}
use Rattle.wasm_meaning.specs.State.{Function, State, with_operands}
use Rattle.wasm_meaning.specs.Values.{numbers}
use Rattle.wasm_meaning.proofs.ModuleFacts.{get_at}
use Rattle.wasm_pending.specs.Steps.{pending_at}
use Rattle.wasm_pending.specs.Typed.{AreRanged}
use Rattle.wasm_pending.proofs.Effects.{under_ranged}
use Rattle.wasm_pending.proofs.Plains.{never_breaks}
use Rattle.wasm_store.specs.View.{View, returned}
use Rattle.wasm_store.specs.declared.calls.Frame.{Frame}
use Rattle.wasm_states.specs.Chains.{cells_under}
use Rattle.wasm_states.specs.Codes.{op_at, target_in, target_at}
use Rattle.wasm_states.specs.Holding.{Holds, IsState, free_moves}
use Rattle.wasm_states.specs.Leaving.{gives_result, leave_from, leave_view, CanLeave, branch_view, CanBranch}
use Rattle.wasm_states.specs.Running.{Running}
use Rattle.wasm_states.specs.Steps.{Moves}
use Rattle.wasm_states.proofs.BlockMoves.{cells_top, number_is}
use Rattle.wasm_states.proofs.BranchMoves.{BranchGoes, branch_goes, return_goes, end_goes}
use Rattle.wasm_states.proofs.CodeLaws.{is_code}
use Rattle.wasm_states.proofs.Inversions.{done_here}
use Rattle.wasm_states.proofs.Moving.{goes_reaches}
use Rattle.wasm_states.proofs.StateLaws.{place_of, live_of, given_function, plain_moves, plain_state}

-- Br.

pub br_moves : (p : Program) (v : View) (label : ℕ) → op_at p v ≡ Some (Br label) → Moves p v (branch_view p label v) 1
br_moves p v label at =
    plain_moves p v (branch_view p label v) (Br label) 1 at refl
    (λ rest around st h r. (branch_goes p v (Br label) rest around st st label v.cells h r refl r.cells).reaches)

pub br_can : (p : Program) (v : View) (label : ℕ) → IsState p v → op_at p v ≡ Some (Br label) → CanBranch p label v
br_can p v label state at =
    plain_state p v (Br label) (CanBranch p label v) state at refl
    (λ rest around st h r. (branch_goes p v (Br label) rest around st st label v.cells h r refl r.cells).can)

-- Return.

pub return_moves : (p : Program) (v : View) → op_at p v ≡ Some Return → Moves p v (leave_view p v) 1
return_moves p v at = plain_moves p v (leave_view p v) Return 1 at refl (λ rest around st h r. (return_goes p v rest around st h r).reaches)

pub return_can : (p : Program) (v : View) → IsState p v → op_at p v ≡ Some Return → CanLeave p v
return_can p v state at = plain_state p v Return (CanLeave p v) state at refl (λ rest around st h r. (return_goes p v rest around st h r).can)

-- The end of a body.

pub body_moves : (p : Program) (v : View) (f : Frame) → op_at p v ≡ Some End → slice_get v.frames 0 ≡ Some f → length v.labels ≤ f.opened → Moves p v (leave_view p v) 0
body_moves p v f at live none = record {
  moves = λ w h.
      let r = live_of p v w f h live in
      let s = done_here r.code.body.ops v.place w.sequence End (place_of p v w r End at) tt in
      (end_goes p v w f h r s live none).reaches;
}

pub body_can : (p : Program) (v : View) (f : Frame) → IsState p v → op_at p v ≡ Some End → slice_get v.frames 0 ≡ Some f → length v.labels ≤ f.opened → CanLeave p v
body_can p v f state at live none =
    let w = state.pending in
    let r = live_of p v w f state.holds live in
    let s = done_here r.code.body.ops v.place w.sequence End (place_of p v w r End at) tt in
    (end_goes p v w f state.holds r s live none).can

-- a call less is live, in which no block was open
pub leave_frees : (p : Program) (v : View) (f : Frame) → slice_get v.frames 0 ≡ Some f → length v.labels ≤ f.opened → free_moves v ≡ free_moves (leave_view p v) + 1
leave_frees p v f live none =
    let lt = fewer v.frames live in
    let fall = length-drop (length v.labels - f.opened) v.labels in
    let here : free_moves v ≡ free_moves (returned (gives_result p v) f v) + 1 = omega (arith, lt, fall, none) in
    subst (λ (o : Option Frame). free_moves v ≡ free_moves (leave_from o (gives_result p v) v) + 1) (sym live) here
  where
    fewer : (fs : List Frame) → slice_get fs 0 ≡ Some f → length fs ≡ length (drop 1 fs) + 1
    fewer [] e = let bad : ⊥ = cc in absurd bad
    fewer (g ∷ fs) e = omega arith

-- BrIf.

-- what an operator that takes a number off finds
pub record Top (p : Program) (v : View) (st : State) (around : List Around) (n : ℕ) (taken : Taken) : Type 0 where
  pub takes : take_i32 st.operands ≡ Some taken
  pub number : taken.number ≡ n
  pub cells : drop 1 v.cells ≡ numbers taken.under ++ cells_under st.frame.locals around
  pub ranged : AreRanged taken.under

br_if_goes
    : (p : Program) (v : View) (label n : ℕ) (is_zero : Bool) → slice_get v.cells 0 ≡ Some n → n == 0 ≡ is_zero
    → (rest : Sequence) (around : List Around) (st : State) → Holds p v (pending_at (Plain (BrIf label) rest) around st) → Running p v (pending_at (Plain (BrIf label) rest) around st)
    → (o : Option Taken) → take_i32 st.operands ≡ o
    → (taken : Taken) × Top p v st around n taken
br_if_goes p v label n is_zero top chosen rest around st h r None none =
    absurd (never_breaks p h.program v.function (BrIf label) rest around st r.typing (ap (λ (x : Option Taken). branch_if_on label x st) none))
br_if_goes p v label n is_zero top chosen rest around st h r (Some taken) takes =
    let cells = cells_top st taken v.cells (cells_under st.frame.locals around) r.cells takes in (
      taken,
      record {
        takes = takes;
        number = number_is v.cells (numbers taken.under ++ cells_under st.frame.locals around) n taken.number top cells;
        cells = ap (λ (ns : List ℕ). drop 1 ns) cells;
        ranged = under_ranged I32 st.operands taken takes r.typing.ranged;
      },
    )

branch_if_is : (label : ℕ) (st : State) (taken : Taken) (n : ℕ) (is_zero : Bool) → take_i32 st.operands ≡ Some taken → taken.number ≡ n → n == 0 ≡ is_zero → branch_if_on label (take_i32 st.operands) st ≡ branch_if_of is_zero label (with_operands st taken.under)
branch_if_is label st taken n is_zero takes number chosen =
    ap (λ (x : Option Taken). branch_if_on label x st) takes
    ∙ ap (λ (b : Bool). branch_if_of b label (with_operands st taken.under)) (ap (λ (k : ℕ). k == 0) number ∙ chosen)

-- the number is 0: the code goes on behind the operator
pub br_if_passes
    : (p : Program) (v : View) (label n : ℕ) → op_at p v ≡ Some (BrIf label) → slice_get v.cells 0 ≡ Some n → n == 0 ≡ true
    → Moves p v (record v { place = v.place + 1; cells = drop 1 v.cells }) 1
br_if_passes p v label n at top chosen =
    plain_moves p v (record v { place = v.place + 1; cells = drop 1 v.cells }) (BrIf label) 1 at refl
    (λ rest around st h r.
    let t = br_if_goes p v label n true top chosen rest around st h r (take_i32 st.operands) refl in
    goes_reaches p v (BrIf label) rest around st (with_operands st t.0.under) h r (branch_if_is label st t.0 n true t.1.takes t.1.number chosen) v.memory v.globals (drop 1 v.cells)
    (record {
      memory_is = h.store.memory;
      globals_are = h.store.globals;
      table_is = refl;
      cells_are = t.1.cells;
      as_many_locals = refl;
      operands_ranged = t.1.ranged;
      locals_ranged = r.typing.frame.locals;
      globals_ranged = r.typing.store.globals;
    }))

pub br_if_moves
    : (p : Program) (v : View) (label n : ℕ) → op_at p v ≡ Some (BrIf label) → slice_get v.cells 0 ≡ Some n → n == 0 ≡ false
    → Moves p v (branch_view p label (record v { cells = drop 1 v.cells })) 1
br_if_moves p v label n at top chosen =
    plain_moves p v (branch_view p label (record v { cells = drop 1 v.cells })) (BrIf label) 1 at refl
    (λ rest around st h r.
    let t = br_if_goes p v label n false top chosen rest around st h r (take_i32 st.operands) refl in
    (branch_goes p v (BrIf label) rest around st (with_operands st t.0.under) label (drop 1 v.cells) h r (branch_if_is label st t.0 n false t.1.takes t.1.number chosen) t.1.cells).reaches)

pub br_if_can
    : (p : Program) (v : View) (label n : ℕ) → IsState p v → op_at p v ≡ Some (BrIf label) → slice_get v.cells 0 ≡ Some n → n == 0 ≡ false
    → CanBranch p label (record v { cells = drop 1 v.cells })
br_if_can p v label n state at top chosen =
    plain_state p v (BrIf label) (CanBranch p label (record v { cells = drop 1 v.cells })) state at refl
    (λ rest around st h r.
    let t = br_if_goes p v label n false top chosen rest around st h r (take_i32 st.operands) refl in
    (branch_goes p v (BrIf label) rest around st (with_operands st t.0.under) label (drop 1 v.cells) h r (branch_if_is label st t.0 n false t.1.takes t.1.number chosen) t.1.cells).can)

-- BrTable.

-- the labels of the function that runs are those of its body
targets_are : (p : Program) (v : View) (w : Pending) → Holds p v w → (r : Running p v w) → w.state.frame.targets ≡ r.code.body.targets
targets_are p v w h r =
    let same = given_function p.linked v.function r.typing.runs r.code.function r.typing.is r.code.known in
    r.typing.frame.fits.targets ∙ ap (λ (f : Function). f.targets) same ∙ (is_code p.linked h.program.formed v.function r.code).targets

target_is : (p : Program) (v : View) (w : Pending) → Holds p v w → Running p v w → (k : ℕ) → slice_get w.state.frame.targets k ≡ target_at p.linked v.function k
target_is p v w h r k =
    ap (λ (ts : List ℕ). slice_get ts k) (targets_are p v w h r) ∙ sym (ap (λ (b : Option Body). target_in b k) r.code.found)

-- the places of the table's labels, and of its default
pub record TableFits (p : Program) (v : View) (from count : ℕ) : Type 0 where
  pub small : from + count < 2 ^ 32
  pub there : (k : ℕ) → k ≤ count → is_some (target_at p.linked v.function (from + k)) ≡ true
  pub number : 0 < length v.cells

there_by : (ts : List ℕ) (k : ℕ) (o : Option ℕ) → slice_get ts k ≡ o → k < length ts → is_some o ≡ true
there_by ts k None e lt =
    let a = get_at ts k lt in
    let there = a.is in
    let bad : ⊥ = cc in absurd bad
there_by ts k (Some t) e lt = refl

table_top
    : (p : Program) (v : View) (from count : ℕ) (rest : Sequence) (around : List Around) (st : State)
    → Holds p v (pending_at (Plain (BrTable from count) rest) around st) → Running p v (pending_at (Plain (BrTable from count) rest) around st)
    → (o : Option Taken) → take_i32 st.operands ≡ o
    → (taken : Taken) × (take_i32 st.operands ≡ Some taken) × (v.cells ≡ taken.number ∷ (numbers taken.under ++ cells_under st.frame.locals around))
table_top p v from count rest around st h r None none =
    absurd (never_breaks p h.program v.function (BrTable from count) rest around st r.typing (ap (λ (x : Option Taken). branch_table_on from count x st) none))
table_top p v from count rest around st h r (Some taken) takes =
    (taken, takes, cells_top st taken v.cells (cells_under st.frame.locals around) r.cells takes)

pub table_fits : (p : Program) (v : View) (from count : ℕ) → IsState p v → op_at p v ≡ Some (BrTable from count) → TableFits p v from count
table_fits p v from count state at =
    plain_state p v (BrTable from count) (TableFits p v from count) state at refl
    (λ rest around st h r.
    let w = pending_at (Plain (BrTable from count) rest) around st in
    let same = targets_are p v w h r in
    let own = is_code p.linked h.program.formed v.function r.code in
    let fair = r.typing.sequence.fair.1.within in
    let first : length r.typing.runs.targets ≡ length r.code.body.targets
    = ap (λ (f : Function). length f.targets) (given_function p.linked v.function r.typing.runs r.code.function r.typing.is r.code.known) ∙ ap (λ (ts : List ℕ). length ts) own.targets in
    let few = own.formed.few_targets in
    let top = table_top p v from count rest around st h r (take_i32 st.operands) refl in
    let long = ap (λ (ns : List ℕ). length ns) top.2 in
    record {
      small = omega (arith, fair, first, few);
      there = λ k le.
          there_by r.code.body.targets (from + k) (target_at p.linked v.function (from + k)) (sym (ap (λ (b : Option Body). target_in b (from + k)) r.code.found)) (omega (arith, fair, first, le));
      number = omega (arith, long);
    })

branch_table_is
    : (from count : ℕ) (st : State) (taken : Taken) (n label : ℕ) → take_i32 st.operands ≡ Some taken → taken.number ≡ n → slice_get st.frame.targets (from + entry count n) ≡ Some label
    → branch_table_on from count (take_i32 st.operands) st ≡ Branches label (with_operands st taken.under)
branch_table_is from count st taken n label takes number found =
    ap (λ (x : Option Taken). branch_table_on from count x st) takes
    ∙ ap (λ (o : Option ℕ). branch_to o (with_operands st taken.under)) (ap (λ (k : ℕ). slice_get st.frame.targets (from + entry count k)) number ∙ found)

table_goes
    : (p : Program) (v : View) (from count n label : ℕ) → slice_get v.cells 0 ≡ Some n → target_at p.linked v.function (from + entry count n) ≡ Some label
    → (rest : Sequence) (around : List Around) (st : State)
    → Holds p v (pending_at (Plain (BrTable from count) rest) around st) → Running p v (pending_at (Plain (BrTable from count) rest) around st)
    → BranchGoes p v (pending_at (Plain (BrTable from count) rest) around st) (drop 1 v.cells) label
table_goes p v from count n label top found rest around st h r =
    let w = pending_at (Plain (BrTable from count) rest) around st in
    let t = table_top p v from count rest around st h r (take_i32 st.operands) refl in
    let number = number_is v.cells (numbers t.0.under ++ cells_under st.frame.locals around) n t.0.number top t.2 in
    let here = target_is p v w h r (from + entry count n) ∙ found in
    branch_goes p v (BrTable from count) rest around st (with_operands st t.0.under) label (drop 1 v.cells) h r (branch_table_is from count st t.0 n label t.1 number here) (ap (λ (ns : List ℕ). drop 1 ns) t.2)

pub table_moves
    : (p : Program) (v : View) (from count n label : ℕ) → op_at p v ≡ Some (BrTable from count) → slice_get v.cells 0 ≡ Some n
    → target_at p.linked v.function (from + entry count n) ≡ Some label
    → Moves p v (branch_view p label (record v { cells = drop 1 v.cells })) 1
table_moves p v from count n label at top found =
    plain_moves p v (branch_view p label (record v { cells = drop 1 v.cells })) (BrTable from count) 1 at refl
    (λ rest around st h r. (table_goes p v from count n label top found rest around st h r).reaches)

pub table_can
    : (p : Program) (v : View) (from count n label : ℕ) → IsState p v → op_at p v ≡ Some (BrTable from count) → slice_get v.cells 0 ≡ Some n
    → target_at p.linked v.function (from + entry count n) ≡ Some label
    → CanBranch p label (record v { cells = drop 1 v.cells })
table_can p v from count n label state at top found =
    plain_state p v (BrTable from count) (CanBranch p label (record v { cells = drop 1 v.cells })) state at refl
    (λ rest around st h r. (table_goes p v from count n label top found rest around st h r).can)

-- br_if finds its number
pub br_if_has_number : (p : Program) (v : View) (label : ℕ) → IsState p v → op_at p v ≡ Some (BrIf label) → 0 < length v.cells
br_if_has_number p v label state at =
    plain_state p v (BrIf label) (0 < length v.cells) state at refl
    (λ rest around st h r. by (take_i32 st.operands) rest around st refl h r)
  where
    by
        : (o : Option Taken) (rest : Sequence) (around : List Around) (st : State) → take_i32 st.operands ≡ o
        → Holds p v (pending_at (Plain (BrIf label) rest) around st) → Running p v (pending_at (Plain (BrIf label) rest) around st) → 0 < length v.cells
    by None rest around st none h r =
        absurd (never_breaks p h.program v.function (BrIf label) rest around st r.typing (ap (λ (x : Option Taken). branch_if_on label x st) none))
    by (Some taken) rest around st takes h r =
        let cells = cells_top st taken v.cells (cells_under st.frame.locals around) r.cells takes in
        let long = ap (λ (ns : List ℕ). length ns) cells in
        omega (arith, long)
