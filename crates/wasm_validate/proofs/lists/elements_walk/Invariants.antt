-- The items so far break no rule: those that are left tell what all tell.
use Rattle.std.proofs.Common.{◌≡◌, length}
use Rattle.wasm_meaning.specs.ValiditySpaces.{tables, functions}
use Rattle.wasm_meaning.specs.Validity.{elements_walk, element_rule}
use Rattle.wasm_validate.proofs.Loops.{left_from}
use Rattle.wasm_validate.proofs.lists.elements_walk.Given as goal

abbrev pub invariant-loop-element : goal.invariant-loop-element
invariant-loop-element l = record {
  place : l.item ≡ l.element-index;
  table_count : l.tables ≡ length (tables l.whole);
  function_count : l.functions ≡ length (functions l.whole);
  same : left_from (λ before x. element_rule (length (tables l.whole)) (length (functions l.whole)) x) l.element-index l.whole.elements ≡ elements_walk l.whole;
}
