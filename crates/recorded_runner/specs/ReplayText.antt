-- What a replay writes: the replies to a recording, connection by connection. It is this project's own format, SLA1.
-- Of a configuration it speaks of the tenants and their routes alone.
use Rattle.std.specs.Prelude.{ℕ, suc, List, [], ◌∷◌, ◌++◌, length, if◌then◌else◌, ◌==◌}
use Rattle.std.specs.List.{flat_map}
use Rattle.std.specs.Int.{w32, to_le_bytes}
use Rattle.recording_format.specs.declared.records.Record.{Record}
use Rattle.recording_format.specs.Connections.{tenants_of}
use Rattle.serve_config.specs.declared.tenants.Tenant.{Tenant}
use Rattle.serve_config.specs.Configuration.{Configuration}
use Rattle.wasm_meaning.specs.Programs.{Program}
use Rattle.recorded_runner.specs.Fates.{Decided, decided}
use Rattle.recorded_runner.specs.Replies.{reply_to}

-- SLA1
abbrev pub answers_magic : List ℕ
answers_magic = 0x53 ∷ 0x4C ∷ 0x41 ∷ 0x31 ∷ []

-- the replies of a connection, in the order of its items, joined
unfoldable pub replies_on : List Tenant → List Program → (link : ℕ) → List Decided → List ℕ
replies_on tenants programs link items = flat_map (λ d. if d.link == link then reply_to tenants programs d else []) items

-- a connection: its number, a length, and so many bytes. Numbers and lengths stand in 32 bits, the lowest byte first.
abbrev pub connection_text : (link : ℕ) → (replies : List ℕ) → List ℕ
connection_text link replies = to_le_bytes w32 link ++ (to_le_bytes w32 (length replies) ++ replies)

-- connection by connection, from this link on, one for each of these tenants
abbrev pub texts_from : (link : ℕ) → (owners : List ℕ) → (replies : ℕ → List ℕ) → List ℕ
texts_from link [] replies = []
texts_from link (owner ∷ owners) replies = connection_text link (replies link) ++ texts_from (suc link) owners replies

-- the answers to a recording
unfoldable pub replay_text : Configuration → List Program → List Record → List ℕ
replay_text config programs records =
    answers_magic ++ texts_from 0 (tenants_of records) (λ link. replies_on config.tenants programs link (decided config.tenants records))
