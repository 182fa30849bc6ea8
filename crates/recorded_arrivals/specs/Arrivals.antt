-- Arrivals: the items of all connections of a recording, each once. They are numbered by the record of the piece that completes them, then by their place in the stream; behind them come those that the ends of the streams complete.
use Rattle.std.specs.Prelude.{ℕ, suc, false, true, List, [], ◌∷◌, ◌++◌, length, drop, map, if◌then◌else◌, ◌==◌}
use Rattle.std.specs.List.{flat_map}
use Rattle.http_items.specs.Items.{Heard, items}
use Rattle.recording_format.specs.declared.records.Event.{Event}
use Rattle.recording_format.specs.declared.records.Event.TheVariants.{Begins, Arrives, Closes}
use Rattle.recording_format.specs.declared.records.Record.{Record}
use Rattle.recording_format.specs.Connections.{tenants_of}
use Rattle.recording_format.specs.Standing.{standing_behind}

-- an item: the connection that it came on, the moment at which it was complete, and what was heard
pub record Arrived : Type 0 where
  pub link : ℕ
  pub moment : ℕ
  pub heard : Heard

abbrev pub arrived_at : (link moment : ℕ) → Heard → Arrived
arrived_at link moment heard = record { link = link; moment = moment; heard = heard }

-- the bytes that an event brings
abbrev pub bytes_in : Event → List ℕ
bytes_in (Begins tenant) = []
bytes_in (Arrives piece) = piece
bytes_in Closes = []

-- the bytes that have arrived on a connection with these records: its pieces, joined
unfoldable pub bytes_on : (link : ℕ) → List Record → List ℕ
bytes_on link records = flat_map (λ r. if r.link == link then bytes_in r.event else []) records

-- the items of a connection that are complete with these records
abbrev pub complete_on : (link : ℕ) → List Record → List Heard
complete_on link records = items (bytes_on link records) false

-- those that the next record completes: the items that are complete with it, and were not before
abbrev pub completed_by : (before : List Record) → Record → List Heard
completed_by before r = drop (length (complete_on r.link before)) (complete_on r.link (before ++ r ∷ []))

-- record by record, what each completes, at its moment
abbrev pub arrivals_behind : (before records : List Record) → List Arrived
arrivals_behind before [] = []
arrivals_behind before (r ∷ records) =
    map (arrived_at r.link r.moment) (completed_by before r) ++ arrivals_behind (before ++ r ∷ []) records

-- those that the end of a stream completes, which is at most one refusal
abbrev pub completed_at_end : (link : ℕ) → List Record → List Heard
completed_at_end link records = drop (length (complete_on link records)) (items (bytes_on link records) true)

-- connection by connection, from this link on, one for each of these tenants. No meter is asked for a refusal; its moment is that of the last record.
abbrev pub endings_from : (link : ℕ) (owners : List ℕ) → List Record → List Arrived
endings_from link [] records = []
endings_from link (owner ∷ owners) records =
    map (arrived_at link (standing_behind records).last) (completed_at_end link records) ++ endings_from (suc link) owners records

-- all items of a recording, in order
unfoldable pub arrivals : List Record → List Arrived
arrivals records = arrivals_behind [] records ++ endings_from 0 (tenants_of records) records

-- what was heard on a connection, in order
abbrev pub heard_on : (link : ℕ) → List Arrived → List Heard
heard_on link arrived = flat_map (λ a. if a.link == link then a.heard ∷ [] else []) arrived
