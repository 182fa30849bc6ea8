-- No item so far breaks a rule.
use Rattle.std.proofs.Common.{◌≡◌, drop}
use Rattle.wasm_meaning.specs.Linking.{first_refused, element_refusal}
use Rattle.wasm_instance.proofs.refusals.elements_refusal.Given as goal

abbrev pub invariant-loop-segment : goal.invariant-loop-segment
invariant-loop-segment l = record {
  place : l.item ≡ l.segment-index;
  same : first_refused (element_refusal l.elements) l.item (drop l.segment-index l.segments) ≡ first_refused (element_refusal l.elements) 0 l.segments;
}
