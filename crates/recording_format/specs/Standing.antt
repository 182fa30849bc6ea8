-- How matters stand behind records: the last moment, and which connections have begun and are open.
use Rattle.std.specs.Prelude.{ℕ, Bool, true, false, List, [], ◌∷◌, ◌++◌, slice_set}
use Rattle.recording_format.specs.declared.records.Event.{Event}
use Rattle.recording_format.specs.declared.records.Event.TheVariants.{Begins, Arrives, Closes}
use Rattle.recording_format.specs.declared.records.Record.{Record}

-- the moment of the last record, and of each connection that has begun, in order, whether it is open
pub record Standing : Type 0 where
  pub last : ℕ
  pub links : List Bool

-- before all records: the last moment is 0, and no connection has begun
abbrev pub beginning : Standing
beginning = record { last = 0; links = [] }

-- the connections behind an event on a link
abbrev pub links_behind : List Bool → (link : ℕ) → Event → List Bool
links_behind links link (Begins tenant) = links ++ true ∷ []
links_behind links link (Arrives piece) = links
links_behind links link Closes = slice_set links link false

abbrev pub behind : Standing → Record → Standing
behind standing r = record { last = r.moment; links = links_behind standing.links r.link r.event }

abbrev pub behind_all : Standing → List Record → Standing
behind_all standing [] = standing
behind_all standing (r ∷ records) = behind_all (behind standing r) records

-- how matters stand behind these records
abbrev pub standing_behind : List Record → Standing
standing_behind records = behind_all beginning records
