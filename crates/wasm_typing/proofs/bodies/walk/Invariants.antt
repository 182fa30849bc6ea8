-- The operators that are left lead to what all of them lead to.
use Rattle.std.proofs.Common.{◌≡◌, ◌≤◌, drop}
use Rattle.wasm_typing.specs.Open.{height}
use Rattle.wasm_typing.specs.Scopes.{context}
use Rattle.wasm_typing.specs.Steps.{steps as steps_walk, begun}
use Rattle.wasm_typing.proofs.bodies.walk.Given as goal

abbrev pub invariant-loop-op : goal.invariant-loop-op
invariant-loop-op l = record {
  place : l.walker.now.place ≤ l.op-index;
  height : height l.walker.now ≤ l.walker.now.place;
  same : steps_walk (context l.scope) (drop l.op-index l.ops) l.walker ≡ steps_walk (context l.scope) l.ops begun;
}
