-- The items so far break no rule: those that are left tell what all tell.
use Rattle.std.proofs.Common.{◌≡◌, length}
use Rattle.wasm_meaning.specs.Validity.{functions_walk, function_rule}
use Rattle.wasm_validate.proofs.Loops.{left_from}
use Rattle.wasm_validate.proofs.lists.functions_walk.Given as goal

abbrev pub invariant-loop-index : goal.invariant-loop-index
invariant-loop-index l = record {
  place : l.item ≡ l.index-index;
  count : l.types ≡ length l.whole.types;
  same : left_from (λ before x. function_rule (length l.whole.types) x) l.index-index l.whole.functions ≡ functions_walk l.whole;
}
