-- Which vessels are states of a program, and what is pending in them.
use Rattle.std.specs.Prelude.{◌≡◌, ℕ, ◌+◌, ◌-◌, ◌*◌, ◌≤◌, List, [], length, map, Option, Some, None, unwrap_or, slice_get}
use Rattle.wasm_ops.specs.declared.modules.Body.{Body}
use Rattle.wasm_ops.specs.declared.modules.Module.{Module}
use Rattle.wasm_meaning.specs.Pending.{Pending}
use Rattle.wasm_meaning.specs.Programs.{Program, IsProgram, first, first_memory, first_global, first_table, entry_body, entries}
use Rattle.wasm_meaning.specs.State.{Store}
use Rattle.wasm_meaning.specs.Values.{numbers}
use Rattle.wasm_store.specs.View.{View}
use Rattle.wasm_states.specs.Running.{StandsFor}

-- memory, globals and table are those of the state, and the strip has the program's pages; its streams lie elsewhere
pub record HoldsStore (p : Program) (v : View) (store : Store) : Type 0 where
  pub memory : v.memory ≡ store.memory
  pub globals : v.globals ≡ numbers store.globals
  pub table : v.table ≡ store.table
  pub room : p.pages ≤ v.pages

-- the vessel has what is pending before it, but for the streams
pub record Holds (p : Program) (v : View) (w : Pending) : Type 0 where
  pub program : IsProgram p
  pub stands : StandsFor p v w
  pub store : HoldsStore p v w.state.store
  pub few_entries : length v.entries ≤ 2

-- the vessel is a state of the program
pub record IsState (p : Program) (v : View) : Type 0 where
  pub pending : Pending
  pub holds : Holds p v pending

-- the vessel has the whole program before it, whatever the bytes of the request
pub record Begins (p : Program) (v : View) : Type 0 where
  pub holds : (body : List ℕ) → Holds p v (first p body)

-- how many moves there may be, at most, before the next one that costs something: each end closes a block or a call, and each entry opens one call
abbrev pub free_moves : View → ℕ
free_moves v = length v.labels + length v.frames + 2 * length v.entries

-- where the code rests while no function runs: at the `end` of the body of `_start`
abbrev pub rest_body : Module → ℕ
rest_body m = unwrap_or (entry_body m) 0

abbrev pub last_place : Option Body → ℕ
last_place None = 0
last_place (Some body) = length body.ops - 1

abbrev pub rest_place : Module → ℕ
rest_place m = last_place (slice_get m.bodies (rest_body m))

-- a vessel of so many pages as the program finds it
abbrev pub fresh_view : Program → (pages : ℕ) → View
fresh_view p pages = record {
  memory = first_memory p.linked;
  pages = pages;
  globals = numbers (map first_global p.linked.globals);
  table = first_table p.linked;
  cells = [];
  labels = [];
  frames = [];
  function = rest_body p.linked;
  place = rest_place p.linked;
  used = 0;
  entries = entries p.linked;
}
