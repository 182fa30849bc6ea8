-- The items so far break no rule: those that are left tell what all tell.
use Rattle.std.proofs.Common.{◌≡◌, length, take}
use Rattle.wasm_meaning.specs.Validity.{imports_walk, import_rule, has_table, has_memory}
use Rattle.wasm_validate.proofs.Loops.{left_from}
use Rattle.wasm_validate.proofs.lists.imports_walk.Given as goal

abbrev pub invariant-loop-import : goal.invariant-loop-import
invariant-loop-import l = record {
  place : l.item ≡ l.import-index;
  tables : l.table ≡ has_table (take l.import-index l.whole.imports);
  memories : l.memory ≡ has_memory (take l.import-index l.whole.imports);
  count : l.types ≡ length l.whole.types;
  same : left_from (λ before x. import_rule (length l.whole.types) (has_table before) (has_memory before) x.item) l.import-index l.whole.imports ≡ imports_walk l.whole;
}
