-- What the examples are written with: small programs, and what a line of their tables says.
use Rattle.std.specs.Prelude.{ℕ, List, [], ◌∷◌, Option, None, sum, replicate}
use Rattle.wasm_ops.specs.Sequence.{Sequence, Done, Plain}
use Rattle.wasm_ops.specs.declared.operators.Op.{Op}
use Rattle.wasm_ops.specs.declared.types.ValType.{ValType}
use Rattle.wasm_meaning.specs.Execution.{walk, exec}
use Rattle.wasm_meaning.specs.HostCalls.{Streams}
use Rattle.wasm_meaning.specs.Pending.{onward, entering}
use Rattle.wasm_meaning.specs.State.{Function, Instance, Store, State, Outcome, Run}
use Rattle.wasm_meaning.specs.Values.{Value}

-- operators one after another
abbrev pub straight : List Op → Sequence
straight [] = Done
straight (o ∷ ops) = Plain o (straight ops)

-- a function of these parameters, locals and result, and these labels of `br_table`s
abbrev pub function : (params locals : List ValType) (result : Option ValType) (targets : List ℕ) → Sequence → Function
function params locals result targets body =
    record { params = params; locals = locals; result = result; height = 2; nest = 1; targets = targets; body = body }

-- a function of no parameters, no locals and no result
abbrev pub bare_function : Sequence → Function
bare_function body = function [] [] None [] body

-- an instance of these functions alone
abbrev pub functions : List Function → Instance
functions defined = record { types = []; hosts = []; defined = defined; most = 0 }

-- an instance with nothing but a memory that may have so many pages
abbrev pub memory_alone : (most : ℕ) → Instance
memory_alone most = record { types = []; hosts = []; defined = []; most = most }

abbrev pub nothing : Instance
nothing = memory_alone 0

abbrev pub streams_with : (body : List ℕ) → Streams
streams_with body = record { body = body; position = 0; reply = [] }

abbrev pub store_of : (memory : List ℕ) (globals : List Value) (table : List (Option ℕ)) → Store
store_of memory globals table = record { memory = memory; globals = globals; table = table; streams = streams_with [] }

abbrev pub no_store : Store
no_store = store_of [] [] []

-- in a function with these locals and labels of `br_table`s
abbrev pub inside : Store → (locals : List Value) (targets : List ℕ) → State
inside store locals targets =
    record { operands = []; frame = record { locals = locals; targets = targets }; frames = 1; cells = 0; store = store }

-- a line: how a run ended, its last operands, and what it paid
pub record Line : Type 0 where
  pub outcome : Outcome
  pub operands : List Value
  pub prices : List ℕ

abbrev pub line : Outcome → List Value → List ℕ → Line
line outcome operands prices = record { outcome = outcome; operands = operands; prices = prices }

abbrev pub line_of : Run → Line
line_of run = line run.outcome run.state.operands run.prices

-- the run of a sequence
abbrev pub run_in : Instance → State → (left : ℕ) → Sequence → Run
run_in inst st left s = walk inst (exec inst left) s st left

abbrev pub shown : Instance → State → (left : ℕ) → Sequence → Line
shown inst st left s = line_of (run_in inst st left s)

-- the run of operators one after another, where there is nothing else
abbrev pub ran : List Op → Line
ran ops = shown nothing (inside no_store [] []) 100 (straight ops)

-- so many operators were paid
abbrev pub each_paid : ℕ → List ℕ
each_paid count = replicate count 1

-- Whole runs.

abbrev pub idle : Store → State
idle store = record { operands = []; frame = record { locals = []; targets = [] }; frames = 0; cells = 0; store = store }

-- the run of the first function, from a state in which no function is live
abbrev pub run_first : Instance → State → (budget : ℕ) → Run
run_first inst st budget = onward inst budget (record { sequence = Done; around = entering (0 ∷ []); state = st }) budget

-- how a run ended, and what it cost
pub record Ending : Type 0 where
  pub outcome : Outcome
  pub units : ℕ

abbrev pub ending : Run → Ending
ending run = record { outcome = run.outcome; units = sum run.prices }

abbrev pub at_cost : Outcome → ℕ → Ending
at_cost outcome units = record { outcome = outcome; units = units }
