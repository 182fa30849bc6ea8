-- Which replies stand in a text, connection by connection, and which of them are a tenant's.
use Rattle.std.specs.Prelude.{ℕ, zero, suc, List, [], ◌∷◌, length, take, drop, if◌then◌else◌, ◌==◌}
use Rattle.std.specs.Int.{w32, from_le_bytes}
use Rattle.recording_format.specs.declared.records.Record.{Record}
use Rattle.recording_format.specs.Connections.{tenants_of}

-- so many connections ahead: each is a number and a length, of four bytes each, and then so many bytes
abbrev pub replies_ahead : (connections : ℕ) → (ahead : List ℕ) → List (List ℕ)
replies_ahead zero ahead = []
replies_ahead (suc connections) ahead =
    take (from_le_bytes w32 (drop 4 ahead)) (drop 8 ahead)
    ∷ replies_ahead connections (drop (from_le_bytes w32 (drop 4 ahead)) (drop 8 ahead))

-- the text of a recording has them behind four bytes, one for each of its connections
abbrev pub replies_in : List Record → (text : List ℕ) → List (List ℕ)
replies_in records text = replies_ahead (length (tenants_of records)) (drop 4 text)

-- of what there is for each connection, in order, that for the tenant's
abbrev pub those_of : {A : Type 0} → (tenant : ℕ) → (owners : List ℕ) → List A → List A
those_of tenant [] all = []
those_of tenant (owner ∷ owners) [] = []
those_of tenant (owner ∷ owners) (x ∷ all) = if owner == tenant then x ∷ those_of tenant owners all else those_of tenant owners all

-- the replies to a tenant's connections
abbrev pub replies_to : (tenant : ℕ) → List Record → (text : List ℕ) → List (List ℕ)
replies_to tenant records text = those_of tenant (tenants_of records) (replies_in records text)
