use Rattle.std.proofs.Common.{◌+◌, subst, arith, List, refl, get_or, map, drop}
use Rattle.wasm_meaning.specs.HostCalls.{Buffer}
use Rattle.wasi_calls.specs.declared.iovecs.Iovec.{Iovec}
use Rattle.wasi_calls.specs.Transfers.{buffer_of}
use Rattle.wasi_calls.proofs.BufferLaws.{Laying, buffers_of_rest, buffers_of_none, laying_begins, laying_fits, laying_goes, laying_ends}
use Rattle.wasi_calls.proofs.reads.scatter_in.Goals as goal

abbrev none : Iovec
none = record { at = 0; count = 0 }

pub loop-iovec-init : goal.loop-iovec-init
loop-iovec-init c = laying_begins c.args.vessel.now (map buffer_of c.args.iovecs.now) (map buffer_of (drop 0 c.args.iovecs.now)) c.args.bytes.now refl c.requires

pub lay-rest-requires : goal.lay-rest-requires
lay-rest-requires c =
    let here = buffers_of_rest c.args.iovecs.now c.loop-iovec.iovec-index none c.loop-iovec-test.true in
    let known = subst (λ (bs : List Buffer). Laying c.args.vessel.now (map buffer_of c.args.iovecs.now) c.args.bytes.now c.loop-iovec.vessel bs c.loop-iovec.rest.now) here c.loop-iovec.invariant in
    laying_fits c.args.vessel.now (map buffer_of c.args.iovecs.now) c.args.bytes.now c.loop-iovec.vessel (buffer_of (get_or c.args.iovecs.now c.loop-iovec.iovec-index none)) (map buffer_of (drop (c.loop-iovec.iovec-index + 1) c.args.iovecs.now)) c.loop-iovec.rest.now known

pub loop-iovec-preserved : goal.loop-iovec-preserved
loop-iovec-preserved c =
    let here = buffers_of_rest c.args.iovecs.now c.loop-iovec.iovec-index none c.loop-iovec-test.true in
    let known = subst (λ (bs : List Buffer). Laying c.args.vessel.now (map buffer_of c.args.iovecs.now) c.args.bytes.now c.loop-iovec.vessel bs c.loop-iovec.rest.now) here c.loop-iovec.invariant in
    laying_goes c.args.vessel.now (map buffer_of c.args.iovecs.now) c.args.bytes.now c.loop-iovec.vessel c.lay-rest.new.vessel (buffer_of (get_or c.args.iovecs.now c.loop-iovec.iovec-index none)) (map buffer_of (drop (c.loop-iovec.iovec-index + 1) c.args.iovecs.now)) c.loop-iovec.rest.now c.lay-rest.result.now known c.lay-rest.ensures.memory c.lay-rest.ensures.size c.lay-rest.ensures.rest

pub returns-clause-vessel : goal.returns-clause-vessel
returns-clause-vessel c =
    laying_ends c.args.vessel.now (map buffer_of c.args.iovecs.now) c.args.bytes.now c.loop-iovec.vessel (map buffer_of (drop c.loop-iovec.iovec-index c.args.iovecs.now)) c.loop-iovec.rest.now c.loop-iovec.invariant (buffers_of_none c.args.iovecs.now c.loop-iovec.iovec-index (omega arith))

pub returns-clause-size : goal.returns-clause-size
returns-clause-size c = c.loop-iovec.invariant.size
