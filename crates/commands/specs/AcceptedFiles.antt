-- The files of a `replay` that are accepted, each by its grammar.
use Rattle.std.specs.Prelude.{◌≡◌, ℕ, List, length, false, Some}
use Rattle.outside.specs.Library.{Files}
use Rattle.wasm_meaning.specs.Programs.{Program}
use Rattle.serve_config.specs.Configuration.{Configuration}
use Rattle.serve_config.specs.Routing.{all_routes}
use Rattle.recording_format.specs.declared.records.Record.{Record}
use Rattle.recording_format.specs.Recorded.{Recorded}
use Rattle.recorded_arrivals.specs.Limits.{has_too_many}
use Rattle.commands.specs.CommandLine.{ReplayWords}
use Rattle.commands.specs.Promises.{AreServed, HoldsConfig}

-- the bytes of the configuration's file are this configuration; those of each route's file spell a module that is valid and linked with the
-- route's pages, and these are their programs; and those of the recording's file spell these records, which have no more than 4,096 items
pub record AreAccepted (words : ReplayWords) (files : Files) (config : Configuration) (programs : List Program) (records : List Record) : Type 0 where
  pub configured : HoldsConfig words.config_name files config
  pub served : AreServed files (all_routes config.tenants) programs
  pub recording : List ℕ
  pub holds : files words.recording_name ≡ Some recording
  pub spelt : Recorded (length config.tenants) recording records
  pub few : has_too_many records ≡ false
