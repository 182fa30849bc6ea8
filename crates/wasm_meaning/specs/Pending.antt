-- What is still to run in the middle of a program, and how it runs on (WebAssembly Core 1.0, sections 4.2.12, 4.2.13 and 4.5.5).
use Rattle.std.specs.Prelude.{ℕ, List, [], ◌∷◌, Option, Some, None, slice_get}
use Rattle.wasm_ops.specs.Sequence.{Sequence, Done, InLoop}
use Rattle.wasm_ops.specs.declared.types.ValType.{ValType}
use Rattle.wasm_meaning.specs.Execution.{Caller, close_block, close_loop, close_call, call, walk, exec}
use Rattle.wasm_meaning.specs.State.{Function, Instance, State, Fell, Branched, Returned, Trapped, Exited, Spent, Stuck, Run, Go, Runner, Next, ends, after}
use Rattle.wasm_meaning.specs.Values.{Value}

-- what a pending sequence is the rest of, from the inside outwards: behind a block, a loop or a call, whose sequence went on with `rest`;
-- or an entry that still awaits its call. `function` is the number, among the bodies, of the function that `rest` belongs to
pub data Around : Type 0 where
  AroundBlock : (result : Option ValType) (base : List Value) (rest : Sequence) → Around
  AroundLoop : (result : Option ValType) (base : List Value) (body rest : Sequence) → Around
  AroundCall : (result : Option ValType) (function : ℕ) (caller : Caller) (rest : Sequence) → Around
  Entering : (function : ℕ) → Around

-- what is still to run: a sequence, what is around it, the inmost first, and the state
pub record Pending : Type 0 where
  pub sequence : Sequence
  pub around : List Around
  pub state : State

abbrev pub entering : List ℕ → List Around
entering [] = []
entering (function ∷ functions) = Entering function ∷ entering functions

-- an entry calls its function for nothing
abbrev pub enter : Runner → Option Function → (next : Go) → Go
enter again None next st left = ends Stuck st left
enter again (Some f) next st left = call again f next st left

abbrev pub close_entry : Instance → Runner → (function : ℕ) → (next : Go) → Next
close_entry inst again function next Fell st left = enter again (slice_get inst.defined function) next st left
close_entry inst again function next (Branched label) st left = ends Stuck st left
close_entry inst again function next Returned st left = ends Stuck st left
close_entry inst again function next (Trapped why) st left = ends (Trapped why) st left
close_entry inst again function next (Exited code) st left = ends (Exited code) st left
close_entry inst again function next Spent st left = ends Spent st left
close_entry inst again function next Stuck st left = ends Stuck st left

-- what follows an outcome of the inner sequence: `same` runs a sequence, `again` bodies of functions and further turns of loops
abbrev pub close : Instance → (again same : Runner) → Around → Next
close inst again same (AroundBlock t base rest) = close_block t base (same rest)
close inst again same (AroundLoop t base body rest) = close_loop base (again (InLoop t body rest)) (same rest)
close inst again same (AroundCall t function caller rest) = close_call t caller (same rest)
close inst again same (Entering function) = close_entry inst again function (same Done)

abbrev pub outward : Instance → (again same : Runner) → List Around → Run → Run
outward inst again same [] r = r
outward inst again same (a ∷ around) r = outward inst again same around (after r (close inst again same a))

-- the onward run: what is pending, from the inside outwards
abbrev pub onward : Instance → (bound : ℕ) → Pending → (left : ℕ) → Run
onward inst bound w left =
    outward inst (exec inst bound) (walk inst (exec inst bound)) w.around (walk inst (exec inst bound) w.sequence w.state left)
