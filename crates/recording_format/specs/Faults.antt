-- What a call of the reader answers, beside what the definitions say.
use Rattle.std.specs.Prelude.{◌≡◌, List, Result, Ok, Err}
use Rattle.recording_format.specs.declared.records.Record.{Record}
use Rattle.recording_format.specs.declared.refusals.Refusal.{Refusal}
use Rattle.recording_format.specs.declared.faults.RecordingFault.{RecordingFault}
use Rattle.recording_format.specs.declared.faults.RecordingFault.TheVariants.{Refused, NoMemory}
use Rattle.recording_format.specs.Refusals.{number_of}

-- memory ran out, or the number is that of a refusal for which this holds
abbrev pub IsFor : RecordingFault → (Refusal → Type 0) → Type 0
IsFor (Refused number) Refuses = (refusal : Refusal) × (number ≡ number_of refusal) × Refuses refusal
IsFor NoMemory Refuses = Unit {0}

-- memory ran out, or these records are answered
abbrev pub GivesRecords : Result (List Record) RecordingFault → List Record → Type 0
GivesRecords (Ok records) due = records ≡ due
GivesRecords (Err (Refused number)) due = ⊥
GivesRecords (Err NoMemory) due = Unit {0}

-- memory ran out, or this refusal is answered
abbrev pub GivesRefusal : Result (List Record) RecordingFault → Refusal → Type 0
GivesRefusal (Ok records) refusal = ⊥
GivesRefusal (Err (Refused number)) refusal = number ≡ number_of refusal
GivesRefusal (Err NoMemory) refusal = Unit {0}
