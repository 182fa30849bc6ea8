-- What is paid so far is what is no longer left, in prices of which no shorter front reaches the most.
use Rattle.std.proofs.Common.{◌≡◌, ◌+◌, ◌-◌, ◌*◌, ◌^◌, ◌<◌, ◌≤◌, ℕ, length}
use Rattle.wasm_meaning.specs.Pending.{Pending}
use Rattle.wasm_states.specs.Holding.{Holds, IsState, free_moves}
use Rattle.sandbox_states.specs.Paths.{Paying}
use Rattle.sandbox_states.proofs.runs.run_operators.Given as goal

abbrev pub invariant-loop-price : goal.invariant-loop-price
invariant-loop-price l = record {
  pages : l.vessel.pages ≡ l.fn.vessel.pages;
  state : IsState l.program l.vessel;
  within : l.rest ≤ l.most;
  some : 1 ≤ l.rest;
  paying : (w : Pending) → Holds l.program l.fn.vessel w → Paying l.most l.program w l.vessel w.state.store.streams (l.most - l.rest);
  fewer : l.most - l.rest ≡ 0 → free_moves l.vessel ≤ free_moves l.fn.vessel;
}

abbrev pub decreases-loop-price : goal.decreases-loop-price
decreases-loop-price l = l.rest * 2 ^ 32 + free_moves l.vessel
