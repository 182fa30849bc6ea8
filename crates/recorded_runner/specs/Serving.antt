-- What a call of `replay` owes and answers, in the words of the definitions.
use Rattle.std.specs.Prelude.{◌≡◌, ◌<◌, ◌≤◌, ℕ, false, List, [], ◌∷◌, length}
use Rattle.std.specs.List.{AllByRecursion}
use Rattle.recording_format.specs.declared.records.Event.{Event}
use Rattle.recording_format.specs.declared.records.Event.TheVariants.{Begins, Arrives, Closes}
use Rattle.recording_format.specs.declared.records.Record.{Record}
use Rattle.serve_config.specs.declared.tenants.Route.{Route}
use Rattle.serve_config.specs.declared.tenants.Tenant.{Tenant}
use Rattle.serve_config.specs.Routing.{all_routes}
use Rattle.serve_config.specs.Configuration.{Configuration}
use Rattle.wasm_meaning.specs.Programs.{Program}
use Rattle.recorded_arrivals.specs.Limits.{has_too_many}
use Rattle.wasm_meaning.specs.Requests.{units as units_of}
use Rattle.recorded_runner.specs.Fates.{Fate, Refuses, Admits, Decided}
use Rattle.recorded_runner.specs.Replies.{reply_to}
use Rattle.recorded_runner.specs.ReplayText.{replay_text}
use Rattle.recorded_runner.specs.Summaries.{admitted_in, cost_in, summary_of, turns_in}
use Rattle.recorded_runner.specs.declared.played.Played.{Played}

-- the programs are those of these routes, in order, each with the pages of its route
abbrev pub AreProgramsOf : List Route → List Program → Type 0
AreProgramsOf [] [] = Unit {0}
AreProgramsOf [] (p ∷ ps) = ⊥
AreProgramsOf (r ∷ rs) [] = ⊥
AreProgramsOf (r ∷ rs) (p ∷ ps) = (p.pages ≡ r.pages) × AreProgramsOf rs ps

-- a connection that begins is that of one of so many tenants
abbrev pub IsOwned : (tenants : ℕ) → Event → Type 0
IsOwned tenants (Begins tenant) = tenant < tenants
IsOwned tenants (Arrives piece) = Unit {0}
IsOwned tenants Closes = Unit {0}

-- each connection of these records is that of one of so many tenants
abbrev pub AreOwned : (tenants : ℕ) → List Record → Type 0
AreOwned tenants records = AllByRecursion (λ (r : Record). IsOwned tenants r.event) records

-- the text and the summary of a recording that has not too many items
pub record IsPlayed (config : Configuration) (programs : List Program) (records : List Record) (played : Played) : Type 0 where
  pub few : has_too_many records ≡ false
  pub text_is : played.text.items ≡ replay_text config programs records
  pub summary_is : played.summary ≡ summary_of config programs records

-- a request that can be served: its route is one of the tenants', and its body is not too long
abbrev pub IsServable : List Tenant → Fate → Type 0
IsServable tenants (Refuses refusal) = Unit {0}
IsServable tenants (Admits entry) = (entry.route < length (all_routes tenants)) × (length entry.body ≤ 1048576)

-- so many pages are enough for each route
abbrev pub AreRoomy : (pages : ℕ) → List Route → Type 0
AreRoomy pages routes = AllByRecursion (λ (r : Route). r.pages ≤ pages) routes

-- the reply to an item, whether it is admitted, and what its request takes
pub record IsReplyTo (config : Configuration) (programs : List Program) (d : Decided) (reply : List ℕ) (admitted turns units : ℕ) : Type 0 where
  pub reply_is : reply ≡ reply_to config.tenants programs d
  pub admitted_is : admitted ≡ admitted_in d.fate
  pub turns_are : turns ≡ cost_in (turns_in config.quantum) config.tenants programs d.fate
  pub units_are : units ≡ cost_in units_of config.tenants programs d.fate
