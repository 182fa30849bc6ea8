-- What a `replay` has written: the replay theorem, which `run` promises.
use Rattle.std.specs.Prelude.{◌≡◌, ℕ, List, length, false, Some, Ok}
use Rattle.std.specs.List.{AllByRecursion}
use Rattle.outside.specs.Library.{Files}
use Rattle.outside.specs.Sink.{Appends, SinkState}
use Rattle.wasm_meaning.specs.Programs.{Program}
use Rattle.wasm_meaning.specs.Requests.{Request, Verdict, verdict}
use Rattle.serve_config.specs.Configuration.{Configuration}
use Rattle.serve_config.specs.Routing.{all_routes}
use Rattle.recording_format.specs.declared.records.Record.{Record}
use Rattle.recording_format.specs.Recorded.{Recorded}
use Rattle.recorded_arrivals.specs.Limits.{has_too_many}
use Rattle.recorded_runner.specs.Alone.{alone}
use Rattle.recorded_runner.specs.Readings.{replies_in, replies_to}
use Rattle.recorded_runner.specs.ReplayText.{replay_text}
use Rattle.recorded_runner.specs.Summaries.{summary_of}
use Rattle.commands.specs.CommandLine.{ReplayWords}
use Rattle.commands.specs.Endings.{Done, Ended}
use Rattle.commands.specs.Promises.{AreServed, HoldsConfig}
use Rattle.commands.specs.Recordings.{recording_of}
use Rattle.commands.specs.ReplayPlans.{summary_line}

-- a file with this name is held, and is this recording of so many tenants
pub record HoldsRecording (name : List ℕ) (files : Files) (tenants : ℕ) (records : List Record) : Type 0 where
  pub file : List ℕ
  pub holds : files name ≡ Some file
  pub accepted : recording_of tenants file ≡ Ok records

-- the configuration of a `replay` is held, and these are the programs of its routes
pub record Ready (words : ReplayWords) (files : Files) (config : Configuration) (programs : List Program) : Type 0 where
  pub held : HoldsConfig words.config_name files config
  pub served : AreServed files (all_routes config.tenants) programs

-- what the files of a `replay` are: a configuration, the programs of its routes, and a recording of no more than 4,096 items
pub record Replays (words : ReplayWords) (files : Files) (config : Configuration) (programs : List Program) (records : List Record) : Type 0 where
  pub ready : Ready words files config programs
  pub recorded : HoldsRecording words.recording_name files (length config.tenants) records
  pub few : has_too_many records ≡ false

-- a `replay` over these files is answered by its text and the line of its summary
pub record AnswersReplay (words : ReplayWords) (files : Files) (e : Ended) : Type 0 where
  pub config : Configuration
  pub programs : List Program
  pub records : List Record
  pub files_are : Replays words files config programs records
  pub ends : e ≡ Done (replay_text config programs records) (summary_line (summary_of config programs records))

-- whatever its body and its budget, a request to this program has a verdict
abbrev pub HasVerdicts : Program → Type 0
HasVerdicts program = (request : Request) → request.program ≡ program → (v : Verdict) × (verdict request ≡ Some v)

-- The output took just the replay text of the configuration, the programs and the recording that the files spell, and the notes the line of
-- its summary. The text is that of the one-thread definition: each item's reply, in order, is that of its named refusal or of the
-- uninterrupted meaning of its module on its body within its budget. Of the files nothing is supposed: the bytes of the recording's file
-- spell these records, and each request to one of the programs has a verdict.
pub record WritesReplay (words : ReplayWords) (files : Files) (out out' notes notes' : SinkState) : Type 0 where
  pub config : Configuration
  pub programs : List Program
  pub records : List Record
  pub files_are : Replays words files config programs records
  pub spelt : Recorded (length config.tenants) files_are.recorded.file records
  pub answered : AllByRecursion HasVerdicts programs
  pub out_took : Appends out out' (replay_text config programs records)
  pub notes_took : Appends notes notes' (summary_line (summary_of config programs records))

-- Each tenant's replies in this text, read back connection by connection, are those that a replay of its connections alone writes: of the
-- recording without the connections of all others.
abbrev pub AreApart : Configuration → List Program → List Record → (text : List ℕ) → Type 0
AreApart config programs records text =
    (tenant : ℕ)
    → replies_to tenant records text ≡ replies_in (alone tenant records) (replay_text config programs (alone tenant records))

-- the output took a text in which each tenant's replies are those that it has alone
pub record WritesApart (words : ReplayWords) (files : Files) (out out' : SinkState) : Type 0 where
  pub config : Configuration
  pub programs : List Program
  pub records : List Record
  pub files_are : Replays words files config programs records
  pub text : List ℕ
  pub out_took : Appends out out' text
  pub apart : AreApart config programs records text
