use Rattle.std.proofs.Common.{◌≡◌, refl, ap}
use Rattle.sandbox_states.specs.Views.{AnswerView}
use Rattle.recorded_runner.specs.Batch.{IsAnswerFor}
use Rattle.recorded_runner.specs.Fates.{Decided, Entry, Admits}
use Rattle.recorded_runner.specs.Seen.{awaited_seen, sent_seen, source_seen}
use Rattle.recorded_runner.proofs.BatchLaws.{first_of}
use Rattle.recorded_runner.proofs.ServedLaws.{refused_is, answered_is}
use Rattle.recorded_runner.proofs.answering.reply_next.Goals as goal

pub returns-in_ok-reply_to_refusal-in-Refused-clause-replied : goal.returns-in_ok-reply_to_refusal-in-Refused-clause-replied
returns-in_ok-reply_to_refusal-in-Refused-clause-replied c = λ programs own.
    refused_is c.args.config.now programs (awaited_seen c.args.item) c.in-Refused.refusal c.in_ok-reply_to_refusal-in-Refused.field-0.items 0 0 0 (ap (λ s. source_seen s) c.in-Refused.is) c.in_ok-reply_to_refusal-in-Refused.ensures.reply refl refl refl

pub returns-in_ok-reply-in-Answered-clause-replied : goal.returns-in_ok-reply-in-Answered-clause-replied
returns-in_ok-reply-in-Answered-clause-replied c = λ programs own.
    let entry : Entry = sent_seen c.in-Answered.sent in
    let item : Decided = awaited_seen c.args.item in
    let answer : AnswerView = c.in-Some.answer in
    let admitted : item.fate ≡ Admits entry = ap (λ s. source_seen s) c.in-Answered.is in
    let own : IsAnswerFor c.args.config.now.tenants programs c.args.config.now.quantum entry answer =
    first_of (IsAnswerFor c.args.config.now.tenants programs c.args.config.now.quantum) item.fate entry c.args.answers.now.items answer c.pop_front.new.self.items admitted c.in-Some.ensures.items own in
    answered_is c.args.config.now programs item entry answer c.in_ok-reply-in-Answered.reply.items 1 c.turns.result c.units.result admitted own c.in_ok-reply-in-Answered.ensures.reply refl c.turns.ensures.turns c.units.ensures
