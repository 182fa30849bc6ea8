use Rattle.std.proofs.Common.{◌+◌, ◌*◌, ◌-◌, arith}
use Rattle.wasm_meaning.specs.HostCalls.{buffers_at, listed}
use Rattle.wasi_calls.specs.Transfers.{buffer_of, transfer_for}
use Rattle.wasi_calls.proofs.BufferLaws.{reached, buffers_here, buffers_none, saved_begins, saved_goes, saved_ends}
use Rattle.wasi_calls.proofs.transfers.StreamCall.save.Goals as goal

pub loop-i-init : goal.loop-i-init
loop-i-init c =
    let memory = c.args.vessel.now.memory in
    let call = transfer_for c.args.self in
    record {
      array = (reached memory call c.requires.reaches).array;
      length_is = omega arith;
      room = omega arith;
      saved = saved_begins memory call c.args.iovecs.now.items (omega arith);
    }

pub loop-i-preserved : goal.loop-i-preserved
loop-i-preserved c =
    let memory = c.args.vessel.now.memory in
    let call = transfer_for c.args.self in
    let here = buffers_here memory call.buffers c.loop-i.i call.count c.place_of.result (buffer_of c.load.result) c.place_of.ensures c.load.ensures c.loop-i-test.true in
    record {
      array = c.loop-i.invariant.array;
      length_is = omega (arith, c.push_reserved.ensures.len);
      room = omega (arith, c.push_reserved.ensures.capacity);
      saved = saved_goes (listed memory call) c.loop-i.iovecs.items c.push_reserved.new.self.items c.load.result (buffers_at memory (call.buffers + 8 * c.loop-i.i) (call.count - c.loop-i.i)) (buffers_at memory (call.buffers + 8 * (c.loop-i.i + 1)) (call.count - (c.loop-i.i + 1))) c.loop-i.invariant.saved here c.push_reserved.ensures.items;
    }

pub returns-clause-iovecs : goal.returns-clause-iovecs
returns-clause-iovecs c =
    let memory = c.args.vessel.now.memory in
    let call = transfer_for c.args.self in
    saved_ends memory call c.loop-i.iovecs.items _ c.loop-i.invariant.saved (buffers_none memory call.buffers c.loop-i.i call.count (omega arith))
