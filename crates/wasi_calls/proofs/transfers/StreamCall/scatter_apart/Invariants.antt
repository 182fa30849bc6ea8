use Rattle.std.proofs.Common.{◌+◌, ◌*◌, ◌-◌}
use Rattle.wasm_meaning.specs.HostCalls.{buffers_at, listed}
use Rattle.wasi_calls.specs.Transfers.{transfer_for}
use Rattle.wasi_calls.proofs.BufferLaws.{Laying, Walking}
use Rattle.wasi_calls.proofs.transfers.StreamCall.scatter_apart.Given as goal

-- the buffers so far have their bytes, and the iovecs that are left are as they were
abbrev pub invariant-loop-i : goal.invariant-loop-i
invariant-loop-i l = record {
  laying : Laying l.fn.vessel (listed l.fn.vessel.memory (transfer_for l.self)) l.bytes l.vessel (buffers_at l.fn.vessel.memory (l.self.iovecs + 8 * l.i) (l.self.count - l.i)) l.rest;
  walking : Walking (transfer_for l.self) l.fn.vessel l.vessel l.i;
}
