-- Which records may follow which.
use Rattle.std.specs.Prelude.{◌≡◌, ℕ, ◌<◌, ◌≤◌, Bool, true, false, List, [], ◌∷◌, length, slice_get, unwrap_or}
use Rattle.recording_format.specs.declared.records.Event.{Event}
use Rattle.recording_format.specs.declared.records.Event.TheVariants.{Begins, Arrives, Closes}
use Rattle.recording_format.specs.declared.records.Record.{Record}
use Rattle.recording_format.specs.Standing.{Standing, beginning, behind}

-- the most connections
abbrev pub most_connections : ℕ
most_connections = 1024

-- the connection of this link has begun, and is not closed
abbrev pub is_open : (links : List Bool) (link : ℕ) → Bool
is_open links link = unwrap_or (slice_get links link) false

-- a connection begins with the next link, and all else is on a link that is open
abbrev pub LinkFollows : (links : List Bool) (link : ℕ) → Event → Type 0
LinkFollows links link (Begins tenant) = link ≡ length links
LinkFollows links link (Arrives piece) = is_open links link ≡ true
LinkFollows links link Closes = is_open links link ≡ true

-- this record may come next
pub record MayFollow (standing : Standing) (next : Record) : Type 0 where
  pub moment : standing.last ≤ next.moment
  pub link : LinkFollows standing.links next.link next.event
  pub few : next.link < most_connections

-- each of these records may come next where it stands
abbrev pub Follow : Standing → List Record → Type 0
Follow standing [] = Unit {0}
Follow standing (r ∷ records) = MayFollow standing r × Follow (behind standing r) records

-- these records are those of a recording
abbrev pub IsLegal : List Record → Type 0
IsLegal records = Follow beginning records
