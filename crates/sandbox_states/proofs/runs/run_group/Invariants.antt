-- What is paid so far, in prices of which no shorter front reaches the quantum.
use Rattle.std.proofs.Common.{◌≡◌, ◌+◌, ◌-◌, ◌*◌, ◌^◌, ◌<◌, ◌≤◌, ℕ, length}
use Rattle.wasm_meaning.specs.Pending.{Pending}
use Rattle.wasm_states.specs.Holding.{Holds, IsState, free_moves}
use Rattle.sandbox_states.specs.Paths.{Paying}
use Rattle.sandbox_states.proofs.runs.run_group.Given as goal

abbrev pub invariant-loop-paid : goal.invariant-loop-paid
invariant-loop-paid l = record {
  pages : l.vessel.pages ≡ l.fn.vessel.pages;
  state : IsState l.program l.vessel;
  body : l.streams.body ≡ l.fn.streams.body;
  within : l.paid ≤ l.left;
  some : 1 ≤ l.quantum;
  paying : (w : Pending) → Holds l.program l.fn.vessel w → w.state.store.streams ≡ l.fn.streams → Paying l.quantum l.program w l.vessel l.streams l.paid;
}

abbrev pub decreases-loop-paid : goal.decreases-loop-paid
decreases-loop-paid l = (l.left - l.paid) * 2 ^ 32 + free_moves l.vessel
