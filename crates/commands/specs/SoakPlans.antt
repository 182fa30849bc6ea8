-- The plan of `soak`: nothing is read. The generated load is replayed, and the line of its summary is the text.
use Rattle.std.specs.Prelude.{Bool, true, false, List, [], Result, Ok, Err}
use Rattle.wasm_meaning.specs.Programs.{Program}
use Rattle.serve_config.specs.Configuration.{Configuration}
use Rattle.serve_config.specs.Loading.{Unloaded, loaded}
use Rattle.serve_config.specs.Routing.{all_routes}
use Rattle.recording_format.specs.declared.records.Record.{Record}
use Rattle.recorded_arrivals.specs.Limits.{has_too_many, too_many_requests}
use Rattle.recorded_runner.specs.Summaries.{summary_of}
use Rattle.generated_load.specs.Configuration.{soak_configuration}
use Rattle.generated_load.specs.Modules.{soak_files}
use Rattle.generated_load.specs.Recording.{soak_records}
use Rattle.commands.specs.CommandLine.{SoakWords}
use Rattle.commands.specs.Endings.{Ended, recording_fault, shown}
use Rattle.commands.specs.Plans.{Plan, Ends}
use Rattle.commands.specs.ReplayPlans.{summary_line}

-- all that is loaded
abbrev pub all_loaded : Result (List Program) Unloaded → List Program
all_loaded (Ok programs) = programs
all_loaded (Err why) = []

-- the programs of the load: those that are loaded of its modules by the routes of its configuration
abbrev pub soak_loaded : List Program
soak_loaded = all_loaded (loaded soak_files 0 (all_routes soak_configuration.tenants))

-- there are too many items, or the line of the summary
abbrev pub summed_unless : (too_many : Bool) → Configuration → List Program → List Record → Ended
summed_unless true config programs records = recording_fault too_many_requests
summed_unless false config programs records = shown (summary_line (summary_of config programs records))

abbrev pub summed : Configuration → List Program → List Record → Ended
summed config programs records = summed_unless (has_too_many records) config programs records

-- the ending of a `soak`
unfoldable pub soak_end : SoakWords → Ended
soak_end words = summed soak_configuration soak_loaded (soak_records words.start words.count)

abbrev pub soak_plan : SoakWords → Plan
soak_plan words = Ends (soak_end words)
