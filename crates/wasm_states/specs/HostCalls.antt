-- Calls of the host: what they find in a vessel, and what they leave there (WASI preview1).
use Rattle.std.specs.Prelude.{◌≡◌, ℕ, ◌+◌, ◌<◌, ◌≤◌, ◌^◌, Bool, true, false, List, [], ◌∷◌, length, drop, take, reverse}
use Rattle.wasm_ops.specs.declared.host_calls.HostCall.{HostCall}
use Rattle.wasm_meaning.specs.HostCalls.{Streams, HostAnswer, Gives, Exits, HostEffect, host_type, host_effect}
use Rattle.wasm_meaning.specs.Pending.{Pending, onward}
use Rattle.wasm_meaning.specs.Programs.{Program, instance_of}
use Rattle.wasm_meaning.specs.State.{Spent, Exited, paid}
use Rattle.wasm_store.specs.View.{View}
use Rattle.wasm_states.specs.Holding.{Holds, IsState, free_moves}
use Rattle.wasm_states.specs.Steps.{IsOver, Pays, item}

-- what the call does, given the memory and the streams
abbrev pub effect_of : HostCall → View → Streams → HostEffect
effect_of call v streams = host_effect call.name call.args v.memory streams

-- how many arguments lie on top of the cells, the last one first
abbrev pub arguments_of : HostCall → ℕ
arguments_of call = length (host_type call.name).params

-- the place in the table lies on them, where the call went through it
abbrev pub places_of : (indirect : Bool) → ℕ
places_of true = 1
places_of false = 0

abbrev pub cells_taken : HostCall → ℕ
cells_taken call = places_of call.indirect + arguments_of call

-- the error number is laid on what is left
abbrev pub answered : HostAnswer → (cells : List ℕ) → List ℕ
answered (Gives errno) cells = errno ∷ cells
answered (Exits code) cells = cells

-- the vessel after the call: its operands are taken off, the error number is laid, the memory is as it was left, and the code goes past the call
abbrev pub after_host : HostCall → HostEffect → View → View
after_host call host v = record v {
  memory = host.memory;
  cells = answered host.answer (drop (cells_taken call) v.cells);
  place = v.place + 1;
}

-- the operator that runs next makes this call, whose arguments are there
pub record CanCall (call : HostCall) (v : View) : Type 0 where
  pub live : 0 < length v.frames
  pub place : v.place + 1 < 2 ^ 32
  pub enough : cells_taken call ≤ length v.cells
  pub arguments : take (arguments_of call) (drop (places_of call.indirect) v.cells) ≡ reverse (take (arguments_of call) call.args)

-- the vessel after a call that gave an error number has this before it, and runs on with the streams that the call left
pub record Answers (p : Program) (w : Pending) (v : View) (call : HostCall) (host : HostEffect) : Type 0 where
  pub pending : Pending
  pub holds : Holds p (after_host call host v) pending
  pub streams_are : pending.state.store.streams ≡ host.streams
  pub same
      : (bound left : ℕ) → host.price + left ≤ bound
      → onward (instance_of p) bound w (host.price + left) ≡ paid (item host.price) (onward (instance_of p) bound pending left)
  pub state : IsState p (after_host call host v)
  pub few : free_moves (after_host call host v) < 2 ^ 32

-- what is pending goes on with this call of the host
pub record Calls (p : Program) (w : Pending) (v : View) (call : HostCall) : Type 0 where
  pub pays : Pays p w
  pub least : 1 ≤ (effect_of call v w.state.store.streams).price
  pub short
      : (bound left : ℕ) → left < (effect_of call v w.state.store.streams).price
      → IsOver (onward (instance_of p) bound w left) Spent (0 ∷ []) left w.state.store.streams
  pub went
      : (errno : ℕ) → (effect_of call v w.state.store.streams).answer ≡ Gives errno
      → Answers p w v call (effect_of call v w.state.store.streams)
  pub exited
      : (code : ℕ) → (effect_of call v w.state.store.streams).answer ≡ Exits code → (bound left : ℕ) → (effect_of call v w.state.store.streams).price + left ≤ bound
      → IsOver (onward (instance_of p) bound w ((effect_of call v w.state.store.streams).price + left)) (Exited code) (item (effect_of call v w.state.store.streams).price) left (effect_of call v w.state.store.streams).streams

-- the vessel goes on with it, whatever it has before it
pub record IsHost (p : Program) (v : View) (call : HostCall) : Type 0 where
  pub can : CanCall call v
  pub calls : (w : Pending) → Holds p v w → Calls p w v call
