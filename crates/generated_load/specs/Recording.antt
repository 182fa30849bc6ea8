-- The recording of the load: connections that begin, and then a request a piece, on one connection after the other.
use Rattle.std.specs.Prelude.{ℕ, ◌/◌, ◌%◌, ◌<◌, min, Bool, true, List, ◌++◌, map}
use Rattle.std.specs.List.{range_with_len}
use Rattle.recording_format.specs.declared.records.Event.{Event}
use Rattle.recording_format.specs.declared.records.Event.TheVariants.{Begins, Arrives, Closes}
use Rattle.recording_format.specs.declared.records.Record.{Record}
use Rattle.generated_load.specs.Generator.{drawn}
use Rattle.generated_load.specs.Requests.{request_of}

-- how many connections there are: one a request, and at most 16
abbrev pub soak_links : (count : ℕ) → ℕ
soak_links count = min count 16

-- a connection of the one tenant begins, at moment 0
abbrev pub beginning_of : (link : ℕ) → Record
beginning_of link = record { moment = 0; link = link; event = Begins 0 }

-- the request of this place arrives: eight in each millisecond
abbrev pub arrival_of : (start links place : ℕ) → Record
arrival_of start links place = record { moment = place / 8; link = place % links; event = Arrives (request_of (drawn start place)) }

-- so many connections begin, and so many requests arrive on them
abbrev pub beginnings : (links : ℕ) → List Record
beginnings links = map beginning_of (range_with_len 0 links)

abbrev pub arrivals : (start links count : ℕ) → List Record
arrivals start links count = map (arrival_of start links) (range_with_len 0 count)

unfoldable pub soak_records : (start count : ℕ) → List Record
soak_records start count = beginnings (soak_links count) ++ arrivals start (soak_links count) count

-- so many connections have begun, and each is open
abbrev pub opened : (links : ℕ) → List Bool
opened links = map (λ link. true) (range_with_len 0 links)

-- a connection that begins is that of one of so many tenants
abbrev pub IsOwned : (tenants : ℕ) → Event → Type 0
IsOwned tenants (Begins tenant) = tenant < tenants
IsOwned tenants (Arrives piece) = Unit {0}
IsOwned tenants Closes = Unit {0}
