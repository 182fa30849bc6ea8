-- What the crate's values stand for among the definitions.
use Rattle.recorded_runner.specs.Fates as fates
use Rattle.recorded_runner.specs.declared.batching.Awaited.{Awaited}
use Rattle.recorded_runner.specs.declared.batching.Sent.{Sent}
use Rattle.recorded_runner.specs.declared.batching.Source.{Source}
use Rattle.recorded_runner.specs.declared.batching.Source.TheVariants as source
use Rattle.recorded_runner.specs.declared.deciding.Decided.{Decided}
use Rattle.recorded_runner.specs.declared.deciding.Entry.{Entry}
use Rattle.recorded_runner.specs.declared.deciding.Fate.{Fate}
use Rattle.recorded_runner.specs.declared.deciding.Fate.TheVariants.{Refused, Admitted}

abbrev pub entry_seen : Entry → fates.Entry
entry_seen entry = record { route = entry.route; deadline = entry.deadline; body = entry.body.items }

abbrev pub fate_seen : Fate → fates.Fate
fate_seen (Refused refusal) = fates.Refuses refusal
fate_seen (Admitted entry) = fates.Admits (entry_seen entry)

abbrev pub decided_seen : Decided → fates.Decided
decided_seen d = record { link = d.link; head = d.head; keep = d.keep; fate = fate_seen d.fate }

-- an item that awaits its reply is the same item: its deadline and its body went with the job, and stand in the snapshots
abbrev pub sent_seen : Sent → fates.Entry
sent_seen sent = record { route = sent.route; deadline = sent.deadline.value; body = sent.body.value.items }

abbrev pub source_seen : Source → fates.Fate
source_seen (source.Refused refusal) = fates.Refuses refusal
source_seen (source.Answered sent) = fates.Admits (sent_seen sent)

abbrev pub awaited_seen : Awaited → fates.Decided
awaited_seen a = record { link = a.link; head = a.head; keep = a.keep; fate = source_seen a.source }
