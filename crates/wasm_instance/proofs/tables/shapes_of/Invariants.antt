-- Those of the bodies so far.
use Rattle.std.proofs.Common.{◌≡◌, map, take}
use Rattle.wasm_meaning.specs.Programs.{defined}
use Rattle.wasm_instance.specs.Callees.{shape_of}
use Rattle.wasm_instance.proofs.tables.shapes_of.Given as goal

abbrev pub invariant-loop-body : goal.invariant-loop-body
invariant-loop-body l = record {
  place : l.number ≡ l.body-index;
  shapes : l.all.items ≡ map shape_of (take l.body-index (defined l.valid));
}
