-- How many items a recording may have.
use Rattle.std.specs.Prelude.{◌≡◌, ℕ, Bool, true, List, length, nat_lt}
use Rattle.recording_format.specs.declared.faults.RecordingFault.{RecordingFault}
use Rattle.recording_format.specs.declared.faults.RecordingFault.TheVariants.{Refused, NoMemory}
use Rattle.recording_format.specs.declared.records.Record.{Record}
use Rattle.recorded_arrivals.specs.Arrivals.{arrivals}

-- the most items of all connections
abbrev pub most_items : ℕ
most_items = 4096

-- the connections of a recording have more items
abbrev pub has_too_many : List Record → Bool
has_too_many records = nat_lt most_items (length (arrivals records))

-- the number that such a recording is refused with
abbrev pub too_many_requests : ℕ
too_many_requests = 77

-- memory ran out, or there are too many items and the number says so
abbrev pub IsTooMany : (records : List Record) → RecordingFault → Type 0
IsTooMany records (Refused number) = (number ≡ too_many_requests) × (has_too_many records ≡ true)
IsTooMany records NoMemory = Unit {0}
