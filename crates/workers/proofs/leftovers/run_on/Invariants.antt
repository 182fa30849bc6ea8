use Rattle.std.proofs.Common.{◌≡◌}
use Rattle.sandbox_states.specs.Stands.{StandsInTurns}
use Rattle.sandbox_states.specs.Views.{remaining}
use Rattle.wasm_meaning.specs.Requests.{Request}
use Rattle.wasm_meaning.specs.Turns as cut
use Rattle.workers.proofs.leftovers.run_on.Given as goal

abbrev pub invariant-turns : goal.invariant-turns
invariant-turns g l = record {
  place : l.sandbox.place ≡ l.fn.sandbox.place;
  pages : l.sandbox.pages ≡ l.fn.sandbox.pages;
  stands : (request : Request) → StandsInTurns request l.settings.quantum l.fn.sandbox → StandsInTurns request l.settings.quantum l.sandbox;
}

abbrev pub decreases-turns : goal.decreases-turns
decreases-turns g l = cut.turns (remaining l.sandbox) l.settings.quantum
