-- The files of a `replay` that are accepted, in the words of the laws about its ending.
use Rattle.std.proofs.Common.{◌≡◌, ℕ, ◌^◌, ◌<◌, List, length, Some, Ok, false, ap, arith}
use Rattle.outside.specs.Library.{Files}
use Rattle.wasm_meaning.specs.Programs.{Program}
use Rattle.serve_config.specs.Configuration.{Configuration}
use Rattle.serve_config.specs.Ranges.{IsInRange}
use Rattle.recording_format.specs.declared.records.Record.{Record}
use Rattle.recording_format.specs.Recorded.{AreBytes, Recorded}
use Rattle.recorded_runner.specs.ReplayText.{replay_text}
use Rattle.recorded_runner.specs.Summaries.{summary_of}
use Rattle.commands.specs.AcceptedFiles.{AreAccepted}
use Rattle.commands.specs.CommandLine.{AsksReplay, ReplayWords, command_of}
use Rattle.commands.specs.Commands.{ending}
use Rattle.commands.specs.Endings.{Done, Ended, status_of}
use Rattle.commands.specs.Recordings.{recording_of}
use Rattle.commands.specs.ReplayPlans.{summary_line}
use Rattle.commands.specs.Replays.{AnswersReplay, Ready}
use Rattle.commands.specs.declared.status.Status.TheVariants as status
use Rattle.commands.proofs.ReplayLaws.{recorded}

pub answered_is_done : (r : ReplayWords) (files : Files) (e : Ended) → AnswersReplay r files e → status_of e ≡ status.Ok
answered_is_done r files e answers = ap status_of answers.ends

pub few_tenants : (c : Configuration) → IsInRange c → length c.tenants < 2 ^ 32
few_tenants c in_range =
    let most = in_range.few.below in
    omega arith

pub are_ready : (r : ReplayWords) (files : Files) (c : Configuration) (programs : List Program) (records : List Record) → AreAccepted r files c programs records → Ready r files c programs
are_ready r files c programs records a = record { held = a.configured; served = a.served }

pub accepted_end : (words : List (List ℕ)) (files : Files) (r : ReplayWords) (c : Configuration) (programs : List Program) (records : List Record)
    → command_of words ≡ Some (AsksReplay r) → (a : AreAccepted r files c programs records) → recording_of (length c.tenants) a.recording ≡ Ok records
    → ending words files ≡ Done (replay_text c programs records) (summary_line (summary_of c programs records))
accepted_end words files r c programs records is a read =
    recorded words files r c programs a.recording records false is (are_ready r files c programs records a) a.holds read a.few

pub answered_are : (r : ReplayWords) (files : Files) (e : Ended)
    → ((tenants : ℕ) (bytes : List ℕ) (records : List Record) → AreBytes bytes → recording_of tenants bytes ≡ Ok records → Recorded tenants bytes records)
    → ((file : List ℕ) → files r.recording_name ≡ Some file → AreBytes file) → AnswersReplay r files e
    → (c : Configuration) × (programs : List Program) × (records : List Record) × AreAccepted r files c programs records
answered_are r files e read bytes a =
    let held = a.files_are.recorded in (
      a.config,
      a.programs,
      a.records,
      record {
        configured = a.files_are.ready.held;
        served = a.files_are.ready.served;
        recording = held.file;
        holds = held.holds;
        spelt = read (length a.config.tenants) held.file a.records (bytes held.file held.holds) held.accepted;
        few = a.files_are.few;
      },
    )
