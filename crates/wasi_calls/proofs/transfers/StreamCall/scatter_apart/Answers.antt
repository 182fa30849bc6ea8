use Rattle.std.proofs.Common.{◌+◌, ◌*◌, ◌-◌, subst, arith, List}
use Rattle.wasm_meaning.specs.HostCalls.{Buffer, buffers_at, listed}
use Rattle.wasi_calls.specs.Transfers.{buffer_of, transfer_for}
use Rattle.wasi_calls.proofs.BufferLaws.{Laying, reached, buffers_first, buffers_none, laying_begins, laying_fits, laying_goes, laying_ends, walking_begins, walking_here, walking_goes}
use Rattle.wasi_calls.proofs.transfers.StreamCall.scatter_apart.Goals as goal

pub loop-i-init : goal.loop-i-init
loop-i-init c =
    let before = c.args.vessel.now in
    let call = transfer_for c.args.self in
    let within = reached before.memory call c.requires.reaches in
    record {
      laying = laying_begins before (listed before.memory call) (buffers_at before.memory (call.buffers + 8 * 0) (call.count - 0)) c.args.bytes.now (buffers_first before.memory call.buffers call.count) within.buffers;
      walking = walking_begins call before within c.requires.apart;
    }

pub load-iovec-requires : goal.load-iovec-requires
load-iovec-requires c = omega (arith, c.loop-i.invariant.walking.array, c.place_of.ensures)

pub lay-rest-requires : goal.lay-rest-requires
lay-rest-requires c =
    let before = c.args.vessel.now in
    let call = transfer_for c.args.self in
    let here = walking_here call before c.loop-i.vessel c.loop-i.i c.place_of.result (buffer_of c.load-iovec.result) c.loop-i.invariant.walking c.place_of.ensures c.load-iovec.ensures c.loop-i-test.true in
    let known = subst (λ (bs : List Buffer). Laying before (listed before.memory call) c.args.bytes.now c.loop-i.vessel bs c.loop-i.rest.now) here c.loop-i.invariant.laying in
    laying_fits before (listed before.memory call) c.args.bytes.now c.loop-i.vessel (buffer_of c.load-iovec.result) (buffers_at before.memory (call.buffers + 8 * (c.loop-i.i + 1)) (call.count - (c.loop-i.i + 1))) c.loop-i.rest.now known

pub loop-i-preserved : goal.loop-i-preserved
loop-i-preserved c =
    let before = c.args.vessel.now in
    let call = transfer_for c.args.self in
    let here = walking_here call before c.loop-i.vessel c.loop-i.i c.place_of.result (buffer_of c.load-iovec.result) c.loop-i.invariant.walking c.place_of.ensures c.load-iovec.ensures c.loop-i-test.true in
    let known = subst (λ (bs : List Buffer). Laying before (listed before.memory call) c.args.bytes.now c.loop-i.vessel bs c.loop-i.rest.now) here c.loop-i.invariant.laying in
    let rest = buffers_at before.memory (call.buffers + 8 * (c.loop-i.i + 1)) (call.count - (c.loop-i.i + 1)) in
    let fits = laying_fits before (listed before.memory call) c.args.bytes.now c.loop-i.vessel (buffer_of c.load-iovec.result) rest c.loop-i.rest.now known in
    record {
      laying = laying_goes before (listed before.memory call) c.args.bytes.now c.loop-i.vessel c.lay-rest.new.vessel (buffer_of c.load-iovec.result) rest c.loop-i.rest.now c.lay-rest.result.now known c.lay-rest.ensures.memory c.lay-rest.ensures.size c.lay-rest.ensures.rest;
      walking = walking_goes call before c.loop-i.vessel c.lay-rest.new.vessel c.loop-i.i c.place_of.result (buffer_of c.load-iovec.result) c.loop-i.rest.now c.loop-i.invariant.walking c.place_of.ensures c.load-iovec.ensures c.loop-i-test.true fits c.lay-rest.ensures.memory c.lay-rest.ensures.size;
    }

pub returns-clause-vessel : goal.returns-clause-vessel
returns-clause-vessel c =
    let before = c.args.vessel.now in
    let call = transfer_for c.args.self in
    laying_ends before (listed before.memory call) c.args.bytes.now c.loop-i.vessel (buffers_at before.memory (call.buffers + 8 * c.loop-i.i) (call.count - c.loop-i.i)) c.loop-i.rest.now c.loop-i.invariant.laying (buffers_none before.memory call.buffers c.loop-i.i call.count (omega arith))

pub returns-clause-size : goal.returns-clause-size
returns-clause-size c = c.loop-i.invariant.laying.size
