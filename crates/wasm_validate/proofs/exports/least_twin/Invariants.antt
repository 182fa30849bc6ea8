-- The least place behind a twin so far.
use Rattle.std.proofs.Common.{◌<◌, ◌≤◌, length}
use Rattle.wasm_validate.specs.Names.{IsLeastTwinBelow}
use Rattle.wasm_validate.proofs.exports.least_twin.Given as goal

abbrev pub invariant-loop-behind : goal.invariant-loop-behind
invariant-loop-behind l = record {
  least : IsLeastTwinBelow l.behind l.keys l.least;
  most : 1 < l.behind → l.behind ≤ length l.keys;
}
