-- The keys of the exports so far.
use Rattle.std.proofs.Common.{◌≡◌, take}
use Rattle.wasm_validate.specs.Names.{AreKeys}
use Rattle.wasm_validate.proofs.exports.keys_of.Given as goal

abbrev pub invariant-loop-export : goal.invariant-loop-export
invariant-loop-export l = record {
  place : l.place ≡ l.export-index;
  keys : AreKeys (take l.export-index l.exports) l.keys.items;
}
