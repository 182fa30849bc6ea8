-- The items so far break no rule: those that are left tell what all tell.
use Rattle.std.proofs.Common.{◌≡◌}
use Rattle.wasm_meaning.specs.Validity.{globals_walk, global_rule}
use Rattle.wasm_validate.proofs.Loops.{left_from}
use Rattle.wasm_validate.proofs.lists.globals_walk.Given as goal

abbrev pub invariant-loop-global : goal.invariant-loop-global
invariant-loop-global l = record {
  place : l.item ≡ l.global-index;
  same : left_from (λ before x. global_rule x) l.global-index l.whole.globals ≡ globals_walk l.whole;
}
