-- Nothing is paid so far.
use Rattle.std.proofs.Common.{◌≡◌, ◌+◌, ◌-◌, ◌*◌, ◌^◌, ◌<◌, ◌≤◌, ℕ, length, []}
use Rattle.wasm_meaning.specs.Pending.{Pending}
use Rattle.wasm_states.specs.Holding.{Holds, IsState, free_moves}
use Rattle.sandbox_states.specs.Paths.{Path}
use Rattle.sandbox_states.proofs.runs.move_freely.Given as goal

abbrev pub invariant-loop-trap : goal.invariant-loop-trap
invariant-loop-trap l = record {
  pages : l.vessel.pages ≡ l.fn.vessel.pages;
  state : IsState l.program l.vessel;
  path : (w : Pending) → Holds l.program l.fn.vessel w → Path l.program w [] l.vessel w.state.store.streams;
}

abbrev pub decreases-loop-trap : goal.decreases-loop-trap
decreases-loop-trap l = free_moves l.vessel
