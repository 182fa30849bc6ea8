-- The items so far break no rule: those that are left tell what all tell.
use Rattle.std.proofs.Common.{◌≡◌, length}
use Rattle.std.specs.Prelude.{◌||◌, nat_lt}
use Rattle.wasm_meaning.specs.Validity.{memories_walk, memory_rule, has_memory}
use Rattle.wasm_validate.proofs.Loops.{left_from}
use Rattle.wasm_validate.proofs.lists.memories_walk.Given as goal

abbrev pub invariant-loop-limits : goal.invariant-loop-limits
invariant-loop-limits l = record {
  place : l.item ≡ l.limits-index;
  first : l.imported ≡ has_memory l.whole.imports;
  same : left_from (λ before x. memory_rule (has_memory l.whole.imports || nat_lt 0 (length before)) x) l.limits-index l.whole.memories ≡ memories_walk l.whole;
}
