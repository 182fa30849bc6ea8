-- The items so far break no rule: those that are left tell what all tell.
use Rattle.std.proofs.Common.{◌≡◌, length}
use Rattle.wasm_meaning.specs.ValiditySpaces.{memories}
use Rattle.wasm_meaning.specs.Validity.{segments_walk, segment_rule}
use Rattle.wasm_validate.proofs.Loops.{left_from}
use Rattle.wasm_validate.proofs.lists.segments_walk.Given as goal

abbrev pub invariant-loop-segment : goal.invariant-loop-segment
invariant-loop-segment l = record {
  place : l.item ≡ l.segment-index;
  count : l.memories ≡ length (memories l.whole);
  same : left_from (λ before x. segment_rule (length (memories l.whole)) x) l.segment-index l.whole.segments ≡ segments_walk l.whole;
}
