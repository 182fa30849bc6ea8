-- From what is answered to what else could be: each way back is a law.
use Rattle.std.proofs.Common.{◌≡◌, ℕ, ◌^◌, ◌<◌, List, Result, Ok, Err, refl, ap, ◌∙◌}
use Rattle.std.specs.Prelude.{IfOk, IfErr}
use Rattle.recording_format.specs.declared.records.Record.{Record}
use Rattle.recording_format.specs.declared.refusals.Refusal.{Refusal}
use Rattle.recording_format.specs.declared.faults.RecordingFault.{RecordingFault}
use Rattle.recording_format.specs.declared.faults.RecordingFault.TheVariants.{Refused, NoMemory}
use Rattle.recording_format.specs.Refusals.{number_of}
use Rattle.recording_format.specs.Faults.{IsFor, GivesRecords, GivesRefusal}
use Rattle.recording_format.specs.Recorded.{Recorded, IsRefused}
use Rattle.recording_format.proofs.RecordedLaws.{refused_or_recorded, one_recording, one_refusal}

-- the number of a refusal for which this holds
pub is_for : (why : Refusal) (fault : RecordingFault) (Refuses : Refusal → Type 0) → fault ≡ Refused (number_of why) → Refuses why → IsFor fault Refuses
is_for why fault Refuses is refuses = rw is (why, refl, refuses)

pub records_given : (tenants : ℕ) (bytes : List ℕ) (result : Result (List Record) RecordingFault) → tenants < 2 ^ 32
    → IfOk result (λ records. Recorded tenants bytes records) → IfErr result (λ fault. IsFor fault (IsRefused tenants bytes))
    → (records : List Record) → Recorded tenants bytes records → GivesRecords result records
records_given tenants bytes (Ok others) few found refused records recorded = one_recording tenants bytes others records few found recorded
records_given tenants bytes (Err (Refused number)) few found refused records recorded = refused_or_recorded tenants bytes records refused.0 few recorded refused.2
records_given tenants bytes (Err NoMemory) few found refused records recorded = tt

pub refusal_given : (tenants : ℕ) (bytes : List ℕ) (result : Result (List Record) RecordingFault) → tenants < 2 ^ 32
    → IfOk result (λ records. Recorded tenants bytes records) → IfErr result (λ fault. IsFor fault (IsRefused tenants bytes))
    → (why : Refusal) → IsRefused tenants bytes why → GivesRefusal result why
refusal_given tenants bytes (Ok records) few found refused why is = refused_or_recorded tenants bytes records why few found is
refusal_given tenants bytes (Err (Refused number)) few found refused why is =
    refused.1 ∙ ap (λ (told : Refusal). number_of told) (one_refusal tenants bytes refused.0 why few refused.2 is)
refusal_given tenants bytes (Err NoMemory) few found refused why is = tt
