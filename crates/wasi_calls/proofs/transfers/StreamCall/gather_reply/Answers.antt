use Rattle.std.proofs.Common.{◌+◌, ◌*◌, ◌-◌, subst, arith, List}
use Rattle.wasm_meaning.specs.HostCalls.{Buffer, buffers_at, listed}
use Rattle.wasi_calls.specs.Transfers.{buffer_of, transfer_for}
use Rattle.wasi_calls.proofs.BufferLaws.{Gathering, reached, first_lies, buffers_here, buffers_first, buffers_none, gathering_begins, gathering_has_room, gathering_goes, gathering_ends}
use Rattle.wasi_calls.proofs.transfers.StreamCall.gather_reply.Goals as goal

pub loop-i-init : goal.loop-i-init
loop-i-init c =
    let memory = c.args.vessel.now.memory in
    let call = transfer_for c.args.self in
    let within = reached memory call c.requires.reaches in
    record {
      array = within.array;
      gathering = gathering_begins memory c.args.streams.now (listed memory call) (buffers_at memory (call.buffers + 8 * 0) (call.count - 0)) (buffers_first memory call.buffers call.count) within.buffers c.requires.fits;
    }

pub bytes-requires : goal.bytes-requires
bytes-requires c =
    let memory = c.args.vessel.now.memory in
    let call = transfer_for c.args.self in
    let here = buffers_here memory call.buffers c.loop-i.i call.count c.place_of.result (buffer_of c.load-iovec.result) c.place_of.ensures c.load-iovec.ensures c.loop-i-test.true in
    let known = subst (λ (bs : List Buffer). Gathering memory c.args.streams.now (listed memory call) c.loop-i.streams bs) here c.loop-i.invariant.gathering in
    first_lies memory (buffer_of c.load-iovec.result) (buffers_at memory (call.buffers + 8 * (c.loop-i.i + 1)) (call.count - (c.loop-i.i + 1))) known.lie

pub append-requires : goal.append-requires
append-requires c =
    let memory = c.args.vessel.now.memory in
    let call = transfer_for c.args.self in
    let here = buffers_here memory call.buffers c.loop-i.i call.count c.place_of.result (buffer_of c.load-iovec.result) c.place_of.ensures c.load-iovec.ensures c.loop-i-test.true in
    let known = subst (λ (bs : List Buffer). Gathering memory c.args.streams.now (listed memory call) c.loop-i.streams bs) here c.loop-i.invariant.gathering in
    gathering_has_room memory c.args.streams.now (listed memory call) c.loop-i.streams (buffer_of c.load-iovec.result) (buffers_at memory (call.buffers + 8 * (c.loop-i.i + 1)) (call.count - (c.loop-i.i + 1))) c.bytes.result.now known c.bytes.ensures

pub loop-i-preserved : goal.loop-i-preserved
loop-i-preserved c =
    let memory = c.args.vessel.now.memory in
    let call = transfer_for c.args.self in
    let here = buffers_here memory call.buffers c.loop-i.i call.count c.place_of.result (buffer_of c.load-iovec.result) c.place_of.ensures c.load-iovec.ensures c.loop-i-test.true in
    let known = subst (λ (bs : List Buffer). Gathering memory c.args.streams.now (listed memory call) c.loop-i.streams bs) here c.loop-i.invariant.gathering in
    record {
      array = c.loop-i.invariant.array;
      gathering = gathering_goes memory c.args.streams.now (listed memory call) c.loop-i.streams c.append.new.self (buffer_of c.load-iovec.result) (buffers_at memory (call.buffers + 8 * (c.loop-i.i + 1)) (call.count - (c.loop-i.i + 1))) c.bytes.result.now known c.bytes.ensures c.append.ensures;
    }

pub returns : goal.returns
returns c =
    let memory = c.args.vessel.now.memory in
    let call = transfer_for c.args.self in
    gathering_ends memory c.args.streams.now (listed memory call) c.loop-i.streams (buffers_at memory (call.buffers + 8 * c.loop-i.i) (call.count - c.loop-i.i)) c.loop-i.invariant.gathering (buffers_none memory call.buffers c.loop-i.i call.count (omega arith))
