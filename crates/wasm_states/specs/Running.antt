-- What a vessel stands for: a function that runs, or none.
use Rattle.std.specs.Prelude.{◌≡◌, ◌+◌, ◌≤◌, ◌⊎◌, [], ◌++◌, length, Some}
use Rattle.wasm_ops.specs.declared.operators.Op.TheVariants.{End}
use Rattle.wasm_ops.specs.Sequence.{size}
use Rattle.wasm_meaning.specs.Execution.{most_frames, most_cells}
use Rattle.wasm_meaning.specs.Pending.{Pending, entering}
use Rattle.wasm_meaning.specs.Programs.{Program}
use Rattle.wasm_meaning.specs.Values.{numbers}
use Rattle.wasm_pending.specs.Typed.{Typed, Idle}
use Rattle.wasm_store.specs.View.{View}
use Rattle.wasm_states.specs.Codes.{Code, Stands, op_at}
use Rattle.wasm_states.specs.Chains.{cells_under, Chain}

-- a function runs, and what is pending is its sequence and all that is around it
pub record Running (p : Program) (v : View) (w : Pending) : Type 0 where
  pub code : Code p.linked v.function
  pub here : Stands code.body.ops v.place w.sequence
  pub chain : Chain p.linked code.function code.body.ops (v.place + size w.sequence) v.used (length w.state.frame.locals) v.entries w.around v.labels v.frames
  pub cells : v.cells ≡ numbers w.state.operands ++ cells_under w.state.frame.locals w.around
  pub used : v.used ≡ w.state.cells
  pub live : length v.frames ≡ w.state.frames
  pub few_cells : v.used ≤ most_cells
  pub few_frames : length v.frames ≤ most_frames
  pub typing : Typed p v.function w

-- no function runs, and the code rests at an `end`
pub record Resting (p : Program) (v : View) (w : Pending) : Type 0 where
  pub entries_are : w.around ≡ entering v.entries
  pub no_cells : v.cells ≡ []
  pub no_labels : v.labels ≡ []
  pub no_frames : v.frames ≡ []
  pub unused : v.used ≡ 0
  pub none_live : w.state.frames ≡ 0
  pub rests : op_at p v ≡ Some End
  pub typing : Idle p w

abbrev pub StandsFor : Program → View → Pending → Type 0
StandsFor p v w = Running p v w ⊎ Resting p v w
