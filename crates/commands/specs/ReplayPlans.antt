-- The plan of `replay`: a configuration and the modules of its routes, then the recording; and what is due for it.
use Rattle.std.specs.Prelude.{ℕ, Bool, true, false, List, length, ◌++◌, codes, decimal, Result, Ok, Err}
use Rattle.wasm_meaning.specs.Programs.{Program}
use Rattle.serve_config.specs.Configuration.{Configuration}
use Rattle.recording_format.specs.declared.records.Record.{Record}
use Rattle.recording_format.specs.declared.refusals.Refusal.{Refusal}
use Rattle.recording_format.specs.Refusals.{number_of}
use Rattle.recorded_arrivals.specs.Limits.{has_too_many, too_many_requests}
use Rattle.recorded_runner.specs.ReplayText.{replay_text}
use Rattle.recorded_runner.specs.Summaries.{summary_of}
use Rattle.recorded_runner.specs.declared.played.Summary.{Summary}
use Rattle.commands.specs.CheckPlans.{config_plan}
use Rattle.commands.specs.CommandLine.{ReplayWords}
use Rattle.commands.specs.Endings.{Done, Ended, recording_fault}
use Rattle.commands.specs.Plans.{Plan, Ends, Step, Stops, Goes, checked_file}
use Rattle.commands.specs.Recordings.{recording_of}
use Rattle.commands.specs.Texts.{line}

-- the most bytes of a recording's file: 32 MiB
abbrev pub recording_limit : ℕ
recording_limit = 33554432

-- bytes that are a recording, or what refuses them first
abbrev pub recording_step : Result (List Record) Refusal → Step (List Record)
recording_step (Ok records) = Goes records
recording_step (Err refusal) = Stops (recording_fault (number_of refusal))

-- a file as a recording of so many tenants
unfoldable pub check_recording : (tenants : ℕ) → List ℕ → Step (List Record)
check_recording tenants bytes = recording_step (recording_of tenants bytes)

-- how many items there were, and what became of them
abbrev pub summary_counts : Summary → List ℕ
summary_counts s = codes "requests " ++ decimal s.requests ++ codes " admitted " ++ decimal s.admitted ++ codes " started " ++ decimal s.started

-- the line of a summary
abbrev pub summary_line : Summary → List ℕ
summary_line s = line (summary_counts s ++ codes " turns " ++ decimal s.turns ++ codes " units " ++ decimal s.units)

-- there are too many items; or the text and the summary of the replay
abbrev pub unless_too_many : Bool → Configuration → List Program → List Record → Ended
unless_too_many true config programs records = recording_fault too_many_requests
unless_too_many false config programs records = Done (replay_text config programs records) (summary_line (summary_of config programs records))

abbrev pub replayed : Configuration → List Program → List Record → Ended
replayed config programs records = unless_too_many (has_too_many records) config programs records

-- `replay` from its recording on
abbrev pub recording_plan : (name : List ℕ) → Configuration → List Program → Plan
recording_plan name config programs =
    checked_file name recording_limit (check_recording (length config.tenants)) (λ records. Ends (replayed config programs records))

-- the ending on a recording that was checked
abbrev pub recording_end : Configuration → List Program → Step (List Record) → Ended
recording_end config programs (Stops e) = e
recording_end config programs (Goes records) = replayed config programs records

-- `replay`: the configuration, the modules, the recording, then the run
abbrev pub replay_plan : ReplayWords → Plan
replay_plan words = config_plan words.config_name (recording_plan words.recording_name)
