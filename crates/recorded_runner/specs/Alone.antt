-- The recording of one tenant alone: the connections of all others are taken out, and its own are numbered anew, in order.
use Rattle.std.specs.Prelude.{ℕ, Bool, List, [], ◌∷◌, length, map, filter, take, slice_index, if◌then◌else◌, ◌==◌}
use Rattle.std.specs.List.{flat_map}
use Rattle.recording_format.specs.declared.records.Event.{Event}
use Rattle.recording_format.specs.declared.records.Record.{Record}
use Rattle.recording_format.specs.Connections.{tenants_of}

-- the connection of this link is the tenant's. The owners are the tenants of all connections, in order of their links.
abbrev pub is_of : (owners : List ℕ) (tenant link : ℕ) → Bool
is_of owners tenant link = slice_index owners link == tenant

-- its new number: how many of the tenant's connections began before it
abbrev pub number_among : (owners : List ℕ) (tenant link : ℕ) → ℕ
number_among owners tenant link = length (filter (λ owner. owner == tenant) (take link owners))

-- a record keeps its moment, and what it says of its connection
abbrev pub renumbered : (owners : List ℕ) (tenant : ℕ) → Record → Record
renumbered owners tenant r = record { moment = r.moment; link = number_among owners tenant r.link; event = r.event }

-- of these records, those of the tenant's connections, with the new numbers
abbrev pub kept_of : (owners : List ℕ) (tenant : ℕ) → List Record → List Record
kept_of owners tenant records = map (renumbered owners tenant) (filter (λ r. is_of owners tenant r.link) records)

-- the recording without the connections of all others
unfoldable pub alone : (tenant : ℕ) → List Record → List Record
alone tenant records = kept_of (tenants_of records) tenant records

-- something that a recording says of a connection: at which moment, and what
pub record Said : Type 0 where
  pub moment : ℕ
  pub event : Event

-- all that records say of a connection, in order
abbrev pub said_of : (link : ℕ) → List Record → List Said
said_of link records = flat_map (λ r. if r.link == link then record { moment = r.moment; event = r.event } ∷ [] else []) records
