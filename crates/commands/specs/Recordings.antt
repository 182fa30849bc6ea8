-- The recording that bytes are, as a function: what `Recorded` and `IsRefused` of `recording_format` say of them.
use Rattle.std.specs.Prelude.{ℕ, zero, suc, List, [], ◌∷◌, length, take, drop, nat_lt, ◌==◌, if◌then◌else◌, Option, None, Some, Result, Ok, Err}
use Rattle.std.specs.Str.{bytes_eq}
use Rattle.recording_format.specs.declared.records.Record.{Record}
use Rattle.recording_format.specs.declared.refusals.Refusal.{Refusal}
use Rattle.recording_format.specs.declared.refusals.Refusal.TheVariants.{BadMagic, CutShort, TooLarge}
use Rattle.recording_format.specs.Looks.{kind_ahead, record_ahead, refusal_ahead, size_ahead}
use Rattle.recording_format.specs.Recorded.{most_bytes}
use Rattle.recording_format.specs.Spelling.{magic}
use Rattle.recording_format.specs.Standing.{Standing, beginning, behind}

-- one record in front of others
abbrev pub with_record : Record → Result (List Record) Refusal → Result (List Record) Refusal
with_record r (Ok records) = Ok (r ∷ records)
with_record r (Err why) = Err why

-- what is ahead is refused, or is read
abbrev pub unless_refused : Option Refusal → Result (List Record) Refusal → Result (List Record) Refusal
unless_refused None read = read
unless_refused (Some why) read = Err why

-- the records ahead up to the end, or the first refusal. Each takes more than one byte, so that as many steps as there are bytes are enough.
abbrev pub records_ahead : (steps tenants : ℕ) → Standing → List ℕ → Result (List Record) Refusal
records_ahead zero tenants standing ahead = Err CutShort
records_ahead (suc steps) tenants standing ahead =
    unless_refused (refusal_ahead tenants standing ahead)
    (if kind_ahead ahead == 0
    then Ok []
    else with_record (record_ahead ahead) (records_ahead steps tenants (behind standing (record_ahead ahead)) (drop (size_ahead ahead) ahead)))

-- what the bytes are where there are so many tenants: a recording, or the first refusal
unfoldable pub recording_of : (tenants : ℕ) → List ℕ → Result (List Record) Refusal
recording_of tenants bytes =
    if nat_lt most_bytes (length bytes) then Err TooLarge
    else (if bytes_eq (take 4 bytes) magic then records_ahead (suc (length bytes)) tenants beginning (drop 4 bytes) else Err BadMagic)
