-- Where the fronts of connections stand while records are fed to them, one by one.
use Rattle.std.specs.Prelude.{◌≡◌, ℕ, suc, ◌<◌, ◌≤◌, Bool, false, List, [], ◌∷◌, ◌++◌, length, slice_index_or, slice_set}
use Rattle.http_items.specs.Items.{Heard, items}
use Rattle.http_items.specs.Standings.{Standing, Reading, Over, Goes, items_from}
use Rattle.recording_format.specs.declared.records.Event.{Event}
use Rattle.recording_format.specs.declared.records.Event.TheVariants.{Begins, Arrives, Closes}
use Rattle.recording_format.specs.declared.records.Record.{Record}
use Rattle.recording_format.specs.Standing.{standing_behind}
use Rattle.recording_format.specs.Following.{Follow}
use Rattle.recorded_arrivals.specs.Arrivals.{Arrived, bytes_on, arrivals_behind}

-- One connection.

-- a connection that these bytes have come on stands so: whatever comes behind them, the items are those that are complete, and those that its standing gives
pub record Stands (bytes : List ℕ) (standing : Standing) : Type 0 where
  pub goes : (more : List ℕ) (ended : Bool) → items (bytes ++ more) ended ≡ items bytes false ++ items_from standing more ended

-- a piece went in, and these items came out
pub record IsFed (old : Standing) (piece : List ℕ) (given : List Heard) (new : Standing) : Type 0 where
  pub due : given ≡ items_from old piece false
  pub goes : Goes old piece given new []

-- All connections, by their numbers.

-- each stands where its bytes in these records have brought it; the first of them has this number
abbrev pub AreFed : (link : ℕ) → List Record → (fronts : List Standing) → Type 0
AreFed link records [] = Unit {0}
AreFed link records (s ∷ ss) = Stands (bytes_on link records) s × AreFed (suc link) records ss

-- a piece for a connection that has begun
abbrev pub IsBegun : (count link : ℕ) → Event → Type 0
IsBegun count link (Begins tenant) = Unit {0}
IsBegun count link (Arrives piece) = link < count
IsBegun count link Closes = Unit {0}

pub record FeedsAt (link : ℕ) (piece : List ℕ) (old new : List Standing) (given : List Heard) : Type 0 where
  pub standing : Standing
  pub fed : IsFed (slice_index_or old link Over) piece given standing
  pub set : new ≡ slice_set old link standing

-- what a record makes of the fronts, and the items that it gives
abbrev pub Takes : Event → (link : ℕ) → (old new : List Standing) → (given : List Heard) → Type 0
Takes (Begins tenant) link old new given = (new ≡ old ++ Reading [] ∷ []) × (given ≡ [])
Takes (Arrives piece) link old new given = FeedsAt link piece old new given
Takes Closes link old new given = (new ≡ old) × (given ≡ [])

-- All records, of which those before were fed and the rest was not.

pub record IsFeeding (all before rest : List Record) (fronts : List Standing) (arrived : List Arrived) : Type 0 where
  pub follows : Follow (standing_behind before) rest
  pub begun : length fronts ≡ length (standing_behind before).links
  pub fed : AreFed 0 before fronts
  pub silent : (link : ℕ) → length fronts ≤ link → bytes_on link before ≡ []
  pub told : arrivals_behind [] all ≡ arrived ++ arrivals_behind before rest
