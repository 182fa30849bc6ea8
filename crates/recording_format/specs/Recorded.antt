-- Which bytes are a recording, and which refusal comes first where they are none.
use Rattle.std.specs.Prelude.{◌≡◌, ◌≢◌, ◌⊎◌, ℕ, ◌^◌, ◌<◌, ◌≤◌, List, ◌++◌, length, take, Some, slice_index}
use Rattle.std.specs.List.{flat_map, AllByRecursion}
use Rattle.recording_format.specs.declared.records.Event.{Event}
use Rattle.recording_format.specs.declared.records.Event.TheVariants.{Begins, Arrives, Closes}
use Rattle.recording_format.specs.declared.records.Record.{Record}
use Rattle.recording_format.specs.declared.refusals.Refusal.{Refusal}
use Rattle.recording_format.specs.declared.refusals.Refusal.TheVariants.{BadMagic, TooLarge}
use Rattle.recording_format.specs.Standing.{standing_behind}
use Rattle.recording_format.specs.Following.{IsLegal}
use Rattle.recording_format.specs.Spelling.{magic, record_spelling, spelling}
use Rattle.recording_format.specs.Looks.{refusal_ahead}

-- these numbers are bytes
abbrev pub AreBytes : List ℕ → Type 0
AreBytes bytes = (k : ℕ) → slice_index bytes k < 256

-- the most bytes, 32 MiB
abbrev pub most_bytes : ℕ
most_bytes = 33554432

-- the tenant is one of so many, and the length of a piece stands in 32 bits
abbrev pub EventFits : (tenants : ℕ) → Event → Type 0
EventFits tenants (Begins tenant) = tenant < tenants
EventFits tenants (Arrives piece) = length piece < 2 ^ 32
EventFits tenants Closes = Unit {0}

-- what a record tells stands in 32 bits, and its tenant is one of so many
pub record Fits (tenants : ℕ) (r : Record) : Type 0 where
  pub moment : r.moment < 2 ^ 32
  pub event : EventFits tenants r.event

-- the bytes behind the magic are these records, legal and of known tenants, and what is ahead behind them
pub record AreRecords (tenants : ℕ) (bytes : List ℕ) (records : List Record) (ahead : List ℕ) : Type 0 where
  pub spelt : bytes ≡ flat_map record_spelling records ++ ahead
  pub legal : IsLegal records
  pub fit : AllByRecursion (Fits tenants) records

-- the bytes, at most 32 MiB, spell these records and nothing else
pub record Recorded (tenants : ℕ) (bytes : List ℕ) (records : List Record) : Type 0 where
  pub small : length bytes ≤ most_bytes
  pub spelt : bytes ≡ spelling records
  pub legal : IsLegal records
  pub fit : AllByRecursion (Fits tenants) records

-- behind records, what is ahead is refused
pub record IsRefusedAhead (tenants : ℕ) (bytes : List ℕ) (refusal : Refusal) : Type 0 where
  pub records : List Record
  pub ahead : List ℕ
  pub before : AreRecords tenants bytes records ahead
  pub refused : refusal_ahead tenants (standing_behind records) ahead ≡ Some refusal

-- behind the magic, what is ahead is refused
pub record IsRefusedBehind (tenants : ℕ) (bytes : List ℕ) (refusal : Refusal) : Type 0 where
  pub body : List ℕ
  pub begun : bytes ≡ magic ++ body
  pub refused : IsRefusedAhead tenants body refusal

-- The first refusal: there are too many bytes; else they do not begin with the magic; else the first one that is met behind records.
abbrev pub IsRefused : (tenants : ℕ) → (bytes : List ℕ) → Refusal → Type 0
IsRefused tenants bytes refusal =
    ((most_bytes < length bytes) × (refusal ≡ TooLarge))
    ⊎ (((length bytes ≤ most_bytes) × ((take 4 bytes ≢ magic) × (refusal ≡ BadMagic)))
    ⊎ ((length bytes ≤ most_bytes) × IsRefusedBehind tenants bytes refusal))
