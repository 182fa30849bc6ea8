use Rattle.std.proofs.Common.{◌+◌, ◌*◌, ◌-◌, ◌^◌, ◌≤◌}
use Rattle.wasm_meaning.specs.HostCalls.{buffers_at, listed}
use Rattle.wasi_calls.specs.Transfers.{transfer_for}
use Rattle.wasi_calls.proofs.BufferLaws.{Surveying}
use Rattle.wasi_calls.proofs.transfers.StreamCall.survey_array.Given as goal

-- all iovecs so far lie within the memory, and the sum and whether they lie apart is that of them
abbrev pub invariant-loop-i : goal.invariant-loop-i
invariant-loop-i l = record {
  few : l.survey.room ≤ l.i * 2 ^ 32;
  surveying : Surveying l.vessel.memory (transfer_for l.self) (listed l.vessel.memory (transfer_for l.self)) (buffers_at l.vessel.memory (l.self.iovecs + 8 * l.i) (l.self.count - l.i)) l.survey;
}
