-- The bodies so far break no rule, and are measured.
use Rattle.std.proofs.Common.{◌≡◌, take, drop}
use Rattle.wasm_meaning.specs.Validity.{next_body, bodies_walk}
use Rattle.wasm_meaning.specs.ValidityChecks.{each_behind}
use Rattle.wasm_validate.specs.Measured.{AreMeasured}
use Rattle.wasm_validate.proofs.bodies.bodies_walk.Given as goal

abbrev pub invariant-loop-body : goal.invariant-loop-body
invariant-loop-body l = record {
  place : l.number ≡ l.body-index;
  measured : AreMeasured l.whole l.body-index l.measures.items;
  same : each_behind (next_body l.whole) (take l.body-index l.whole.bodies) (drop l.body-index l.whole.bodies) ≡ bodies_walk l.whole;
}
