-- What there is while a program runs: the instance that stays the same, and the state that changes (WebAssembly Core 1.0, sections 4.2.3 to 4.2.12).
use Rattle.std.specs.Prelude.{ℕ, List, [], ◌∷◌, ◌++◌, Option}
use Rattle.wasm_ops.specs.Sequence.{Sequence}
use Rattle.wasm_ops.specs.declared.host_calls.HostName.{HostName}
use Rattle.wasm_ops.specs.declared.traps.Trap.{Trap}
use Rattle.wasm_ops.specs.declared.types.FuncType.{FuncType}
use Rattle.wasm_ops.specs.declared.types.ValType.{ValType}
use Rattle.wasm_meaning.specs.HostCalls.{Streams}
use Rattle.wasm_meaning.specs.Values.{Value}

-- The instance.

-- a function that the module defines: `height` is the greatest length of its operand list, `nest` the most blocks that are open in it at once,
-- and `targets` the labels of its `br_table`s, one after another
pub record Function : Type 0 where
  pub params : List ValType
  pub locals : List ValType
  pub result : Option ValType
  pub height : ℕ
  pub nest : ℕ
  pub targets : List ℕ
  pub body : Sequence

-- the module instance, but for what changes: its types, the imported functions, those that it defines, and how many pages its memory may have
pub record Instance : Type 0 where
  pub types : List FuncType
  pub hosts : List HostName
  pub defined : List Function
  pub most : ℕ

-- The state.

-- what a whole program shares: memory, globals, the table with the index of a function or none in each place, and the streams of the request
pub record Store : Type 0 where
  pub memory : List ℕ
  pub globals : List Value
  pub table : List (Option ℕ)
  pub streams : Streams

-- the frame of the call that runs: its locals, the parameters first, and the labels of its function's `br_table`s
pub record Frame : Type 0 where
  pub locals : List Value
  pub targets : List ℕ

-- the operands of the block at hand, the last one first; how many frames are live, and how many cells they take
pub record State : Type 0 where
  pub operands : List Value
  pub frame : Frame
  pub frames : ℕ
  pub cells : ℕ
  pub store : Store

abbrev pub with_operands : State → List Value → State
with_operands st operands = record st { operands = operands }

abbrev pub push : Value → State → State
push value st = record st { operands = value ∷ st.operands }

abbrev pub with_locals : State → List Value → State
with_locals st locals = record st { frame = record st.frame { locals = locals } }

abbrev pub with_globals : State → List Value → State
with_globals st globals = record st { store = record st.store { globals = globals } }

abbrev pub with_memory : State → List ℕ → State
with_memory st memory = record st { store = record st.store { memory = memory } }

-- Runs.

-- how a sequence ends: it falls off its end, branches to a label outside of it, returns from its function, traps, exits with a code,
-- has no budget left for its next operator, or finds no operand or one of another type
pub data Outcome : Type 0 where
  Fell : Outcome
  Branched : (label : ℕ) → Outcome
  Returned : Outcome
  Trapped : (why : Trap) → Outcome
  Exited : (code : ℕ) → Outcome
  Spent : Outcome
  Stuck : Outcome

-- a run: how it ended, the state there, what is left of the budget, and what was paid, in order
pub record Run : Type 0 where
  pub outcome : Outcome
  pub state : State
  pub left : ℕ
  pub prices : List ℕ

-- what runs from a state with so much left
abbrev pub Go : Type 0
Go = State → ℕ → Run

abbrev pub Runner : Type 0
Runner = Sequence → Go

-- what follows an outcome
abbrev pub Next : Type 0
Next = Outcome → Go

-- a run that ends here and has paid nothing
abbrev pub ends : Outcome → Go
ends outcome st left = record { outcome = outcome; state = st; left = left; prices = [] }

-- the run that has paid these before all else
abbrev pub paid : List ℕ → Run → Run
paid prices r = record r { prices = prices ++ r.prices }

-- what follows a run
abbrev pub after : Run → Next → Run
after r next = paid r.prices (next r.outcome r.state r.left)
