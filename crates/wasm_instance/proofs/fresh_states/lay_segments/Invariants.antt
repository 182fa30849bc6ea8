-- The segments that are left make the same memory, and lie within it.
use Rattle.std.proofs.Common.{◌≡◌, drop, length, None}
use Rattle.wasm_meaning.specs.Linking.{first_refused, bytes_refusal}
use Rattle.wasm_meaning.specs.Programs.{with_segments}
use Rattle.wasm_instance.proofs.fresh_states.lay_segments.Given as goal

abbrev pub invariant-loop-segment : goal.invariant-loop-segment
invariant-loop-segment l = record {
  rest : with_segments l.vessel.memory (drop l.segment-index l.segments) ≡ with_segments l.fn.vessel.memory l.segments;
  same : l.vessel ≡ record l.fn.vessel { memory = l.vessel.memory };
  long : length l.vessel.memory ≡ length l.fn.vessel.memory;
  within : first_refused (bytes_refusal (length l.fn.vessel.memory)) l.segment-index (drop l.segment-index l.segments) ≡ None;
}
