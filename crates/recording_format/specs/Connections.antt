-- What a recording means: its connections, each with its tenant and all that arrives on it.
-- A recording is whole, so each connection has ended: where it is closed, or else with the recording.
use Rattle.std.specs.Prelude.{ℕ, zero, suc, List, [], ◌∷◌, ◌++◌, if◌then◌else◌, ◌==◌}
use Rattle.std.specs.List.{flat_map}
use Rattle.recording_format.specs.declared.records.Event.{Event}
use Rattle.recording_format.specs.declared.records.Event.TheVariants.{Begins, Arrives, Closes}
use Rattle.recording_format.specs.declared.records.Record.{Record}

-- a piece that arrives: the number of its record among all records, from 0 on, its moment, and its bytes
pub record Arrival : Type 0 where
  pub number : ℕ
  pub moment : ℕ
  pub bytes : List ℕ

-- a connection: the index of its tenant, and the pieces that arrive on it, in order
pub record Connection : Type 0 where
  pub tenant : ℕ
  pub pieces : List Arrival

-- the bytes of a connection are its pieces joined
abbrev pub stream_of : Connection → List ℕ
stream_of connection = flat_map (λ piece. piece.bytes) connection.pieces

-- the piece of an event, if it is one, and the tenant, if it is a beginning
abbrev pub piece_in : (number moment : ℕ) → Event → List Arrival
piece_in number moment (Begins tenant) = []
piece_in number moment (Arrives piece) = record { number = number; moment = moment; bytes = piece } ∷ []
piece_in number moment Closes = []

abbrev pub tenant_in : Event → List ℕ
tenant_in (Begins tenant) = tenant ∷ []
tenant_in (Arrives piece) = []
tenant_in Closes = []

-- the pieces of a link in records, of which the first has this number
abbrev pub pieces_from : (number link : ℕ) → List Record → List Arrival
pieces_from number link [] = []
pieces_from number link (r ∷ records) =
    (if r.link == link then piece_in number r.moment r.event else []) ++ pieces_from (suc number) link records

-- the tenants of the connections, in order of their links
abbrev pub tenants_of : List Record → List ℕ
tenants_of records = flat_map (λ r. tenant_in r.event) records

-- connections of these tenants, of which the first has this link
abbrev pub connections_from : (link : ℕ) (tenants : List ℕ) → List Record → List Connection
connections_from link [] records = []
connections_from link (tenant ∷ tenants) records =
    record { tenant = tenant; pieces = pieces_from 0 link records } ∷ connections_from (suc link) tenants records

-- the connections of a recording, in order of their links, from 0 on
abbrev pub connections_of : List Record → List Connection
connections_of records = connections_from 0 (tenants_of records) records

-- What a record more does to the connections.

-- a piece more on a connection
abbrev pub with_piece : Connection → Arrival → Connection
with_piece connection piece = record { tenant = connection.tenant; pieces = connection.pieces ++ piece ∷ [] }

-- and on that of a link
abbrev pub with_piece_at : (link : ℕ) → List Connection → Arrival → List Connection
with_piece_at link [] piece = []
with_piece_at zero (connection ∷ connections) piece = with_piece connection piece ∷ connections
with_piece_at (suc link) (connection ∷ connections) piece = connection ∷ with_piece_at link connections piece

-- the connections with a record more, which has this number
abbrev pub with_event : (number moment link : ℕ) → List Connection → Event → List Connection
with_event number moment link connections (Begins tenant) = connections ++ record { tenant = tenant; pieces = [] } ∷ []
with_event number moment link connections (Arrives piece) =
    with_piece_at link connections (record { number = number; moment = moment; bytes = piece })
with_event number moment link connections Closes = connections

abbrev pub with_record : (number : ℕ) → List Connection → Record → List Connection
with_record number connections r = with_event number r.moment r.link connections r.event
