-- The segments that are left make the same table, and lie within it.
use Rattle.std.proofs.Common.{◌≡◌, drop, length, None}
use Rattle.wasm_meaning.specs.Linking.{first_refused, element_refusal}
use Rattle.wasm_meaning.specs.Programs.{with_elements}
use Rattle.wasm_instance.proofs.fresh_states.lay_elements.Given as goal

abbrev pub invariant-loop-segment : goal.invariant-loop-segment
invariant-loop-segment l = record {
  rest : with_elements l.vessel.table (drop l.segment-index l.segments) ≡ with_elements l.fn.vessel.table l.segments;
  same : l.vessel ≡ record l.fn.vessel { table = l.vessel.table };
  long : length l.vessel.table ≡ length l.fn.vessel.table;
  within : first_refused (element_refusal (length l.fn.vessel.table)) l.segment-index (drop l.segment-index l.segments) ≡ None;
}
