-- The exports so far break no rule, so that none of them has the name of one before it.
use Rattle.std.proofs.Common.{◌≡◌, ◌≤◌, ℕ, Some}
use Rattle.wasm_meaning.specs.Validity.{next_export_rule}
use Rattle.wasm_meaning.specs.ValidityChecks.{each_item}
use Rattle.wasm_validate.proofs.Loops.{left_from}
use Rattle.wasm_validate.proofs.exports.all_exports.Given as goal

abbrev pub invariant-loop-export : goal.invariant-loop-export
invariant-loop-export l = record {
  place : l.item ≡ l.export-index;
  ahead : (first : ℕ) → l.used ≡ Some first → l.item ≤ first;
  same : left_from (next_export_rule l.whole) l.export-index l.exports ≡ each_item (next_export_rule l.whole) l.exports;
}
