use Rattle.std.proofs.Common.{◌+◌, ◌*◌, ◌-◌, ◌≤◌, length}
use Rattle.wasm_meaning.specs.HostCalls.{buffers_at, listed}
use Rattle.wasi_calls.specs.Transfers.{transfer_for}
use Rattle.wasi_calls.proofs.BufferLaws.{Gathering}
use Rattle.wasi_calls.proofs.transfers.StreamCall.gather_reply.Given as goal

-- the bytes of the buffers so far are in the reply
abbrev pub invariant-loop-i : goal.invariant-loop-i
invariant-loop-i l = record {
  array : l.self.iovecs + 8 * l.self.count ≤ length l.vessel.memory;
  gathering : Gathering l.vessel.memory l.fn.streams (listed l.vessel.memory (transfer_for l.self)) l.streams (buffers_at l.vessel.memory (l.self.iovecs + 8 * l.i) (l.self.count - l.i));
}
