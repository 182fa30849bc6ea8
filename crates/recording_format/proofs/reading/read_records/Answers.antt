use Rattle.std.proofs.Common.{◌≡◌, sym, ◌∙◌, arith, None}
use Rattle.recording_format.specs.Standing.{standing_behind}
use Rattle.recording_format.specs.Looks.{refusal_ahead}
use Rattle.recording_format.specs.Recorded.{IsRefusedAhead}
use Rattle.recording_format.proofs.Responses.{is_for}
use Rattle.recording_format.proofs.ReadingSteps.{stands_next, one_more}
use Rattle.recording_format.proofs.reading.read_records.Goals as goal

pub records-preserved : goal.records-preserved
records-preserved c =
    let none : refusal_ahead c.args.tenants (standing_behind c.records.recording) c.records.ahead.now ≡ None = sym c.refusal.ensures ∙ c.in_default.is in
    let next = stands_next c.args.tenants c.args.bytes.now c.records.recording c.records.ahead.now (λ i. omega (arith, c.type_inv.bytes i)) c.records.invariant none (sym c.is_end.ensures ∙ c.if-is_end.false) in
    rw (c.in_ok-push.ensures.ok, c.in_ok-record.ensures, c.split_at.ensures.back, c.size.ensures) (one_more c.args.tenants c.args.bytes.now c.records.recording c.records.ahead.now c.records.invariant next)

pub returns-in-Some-clause-refused : goal.returns-in-Some-clause-refused
returns-in-Some-clause-refused c =
    is_for c.in-Some.why c.into.result (IsRefusedAhead c.args.tenants c.args.bytes.now) c.into.ensures
    (record { records = c.records.recording; ahead = c.records.ahead.now; before = c.records.invariant; refused = sym c.refusal.ensures ∙ c.in-Some.is })
