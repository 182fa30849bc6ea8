use Rattle.std.proofs.Common.{◌+◌, ◌*◌, ◌-◌, ℕ, subst, ap, sym, ◌∙◌, refl, arith, List}
use Rattle.wasm_meaning.specs.HostCalls.{Buffer, buffers_at, listed}
use Rattle.wasi_calls.specs.Transfers.{buffer_of, transfer_for}
use Rattle.wasi_calls.proofs.BufferLaws.{Surveying, does_lie, buffers_here, buffers_first, buffers_none, survey_begins, survey_goes, survey_ends, survey_fails}
use Rattle.wasi_calls.proofs.transfers.StreamCall.survey_array.Goals as goal

pub loop-i-init : goal.loop-i-init
loop-i-init c =
    let memory = c.args.vessel.now.memory in
    let call = transfer_for c.args.self in
    record {
      few = omega arith;
      surveying = survey_begins memory call (listed memory call) (buffers_at memory (call.buffers + 8 * 0) (call.count - 0)) _ (buffers_first memory call.buffers call.count) refl;
    }

pub loop-i-preserved : goal.loop-i-preserved
loop-i-preserved c =
    let memory = c.args.vessel.now.memory in
    let call = transfer_for c.args.self in
    let here = buffers_here memory call.buffers c.loop-i.i call.count c.place_of.result (buffer_of c.load-iovec.result) c.place_of.ensures c.load-iovec.ensures c.loop-i-test.true in
    let known = subst (λ (bs : List Buffer). Surveying memory call (listed memory call) bs c.loop-i.survey) here c.loop-i.invariant.surveying in
    record {
      few = omega arith;
      surveying = survey_goes memory call (listed memory call) (buffer_of c.load-iovec.result) (buffers_at memory (call.buffers + 8 * (c.loop-i.i + 1)) (call.count - (c.loop-i.i + 1))) c.loop-i.survey _ known (sym c.lies_in.ensures ∙ c.if-not-lies_in.false) (ap (λ (n : ℕ). c.loop-i.survey.room + n) c.from.ensures) c.stays_apart.ensures;
    }

pub returns-then-not-lies_in : goal.returns-then-not-lies_in
returns-then-not-lies_in c =
    let memory = c.args.vessel.now.memory in
    let call = transfer_for c.args.self in
    let here = buffers_here memory call.buffers c.loop-i.i call.count c.place_of.result (buffer_of c.load-iovec.result) c.place_of.ensures c.load-iovec.ensures c.loop-i-test.true in
    let known = subst (λ (bs : List Buffer). Surveying memory call (listed memory call) bs c.loop-i.survey) here c.loop-i.invariant.surveying in
    survey_fails memory call (buffer_of c.load-iovec.result) (buffers_at memory (call.buffers + 8 * (c.loop-i.i + 1)) (call.count - (c.loop-i.i + 1))) c.loop-i.survey known (sym c.lies_in.ensures ∙ c.if-not-lies_in.true)

pub returns : goal.returns
returns c =
    let memory = c.args.vessel.now.memory in
    let call = transfer_for c.args.self in
    survey_ends memory call (buffers_at memory (call.buffers + 8 * c.loop-i.i) (call.count - c.loop-i.i)) c.loop-i.survey c.loop-i.invariant.surveying (buffers_none memory call.buffers c.loop-i.i call.count (omega arith)) (does_lie memory call.buffers (8 * call.count) c.requires.array) (does_lie memory call.place 4 c.requires.place) (omega arith)
