-- How a `replay` ends, by what its files are and spell.
use Rattle.std.proofs.Common.{◌≡◌, ◌≢◌, ℕ, ◌^◌, ◌<◌, Bool, true, false, List, length, Option, None, Some, Result, Ok, Err, refl, sym, ap, ◌∙◌}
use Rattle.outside.specs.Library.{Files}
use Rattle.wasm_meaning.specs.Programs.{Program}
use Rattle.serve_config.specs.Configuration.{Configuration}
use Rattle.serve_config.specs.Routing.{all_routes}
use Rattle.recording_format.specs.Refusals.{number_of}
use Rattle.recording_format.specs.declared.records.Record.{Record}
use Rattle.recording_format.specs.declared.refusals.Refusal.{Refusal}
use Rattle.recorded_arrivals.specs.Limits.{has_too_many, too_many_requests}
use Rattle.commands.proofs.CheckLaws.{IsOver, IsReady, Prepared, prepared, ready_ends}
use Rattle.commands.proofs.Checks.{recording_checked}
use Rattle.commands.specs.CheckPlans.{check_plan, config_plan, counted}
use Rattle.commands.specs.CommandLine.{Asked, AsksReplay, ReplayWords, command_of}
use Rattle.commands.specs.Commands.{ending, plan_of}
use Rattle.commands.specs.Endings.{Ended, not_read, recording_fault, status_of}
use Rattle.commands.specs.Plans.{Ends, Plan, Step, found, go_on, over}
use Rattle.commands.specs.Recordings.{recording_of}
use Rattle.commands.specs.ReplayPlans.{check_recording, recording_plan, recording_step, replay_plan, replayed, unless_too_many}
use Rattle.commands.specs.Replays.{AnswersReplay, Ready}
use Rattle.commands.specs.declared.status.Status.TheVariants as status

asks : (words : List (List ℕ)) (files : Files) (r : ReplayWords) → command_of words ≡ Some (AsksReplay r) → ending words files ≡ over files (replay_plan r)
asks words files r is = ap (λ (a : Option Asked). over files (plan_of a)) is

pub not_ready : (words : List (List ℕ)) (files : Files) (r : ReplayWords) → command_of words ≡ Some (AsksReplay r) → (status_of (over files (check_plan r.config_name)) ≡ status.Ok → ⊥)
    → ending words files ≡ over files (check_plan r.config_name)
not_ready words files r is bad = by (prepared files r.config_name)
  where
    by : Prepared files r.config_name → ending words files ≡ over files (check_plan r.config_name)
    by (IsReady c held programs served) = absurd (bad (ap status_of (ready_ends files r.config_name (λ c programs. Ends (counted c)) c programs held served)))
    by (IsOver e other ends) = asks words files r is ∙ ends (recording_plan r.recording_name) ∙ sym (ends (λ c programs. Ends (counted c)))

-- behind a configuration and its modules the recording is read
from_ready : (words : List (List ℕ)) (files : Files) (r : ReplayWords) (c : Configuration) (programs : List Program) → command_of words ≡ Some (AsksReplay r) → Ready r files c programs
    → ending words files ≡ over files (recording_plan r.recording_name c programs)
from_ready words files r c programs is h = asks words files r is ∙ ready_ends files r.config_name (recording_plan r.recording_name) c programs h.held h.served

from_file : (files : Files) (name : List ℕ) (c : Configuration) (programs : List Program) (file : Option (List ℕ)) → files name ≡ file
    → over files (recording_plan name c programs) ≡ over files (found name (check_recording (length c.tenants)) (λ records. Ends (replayed c programs records)) file)
from_file files name c programs file held =
    ap (λ (f : Option (List ℕ)). over files (found name (check_recording (length c.tenants)) (λ records. Ends (replayed c programs records)) f)) held

from_read : (files : Files) (name : List ℕ) (c : Configuration) (programs : List Program) (file : List ℕ) (read : Result (List Record) Refusal) → files name ≡ Some file → recording_of (length c.tenants) file ≡ read
    → over files (recording_plan name c programs) ≡ over files (go_on (λ records. Ends (replayed c programs records)) (recording_step read))
from_read files name c programs file read held is =
    from_file files name c programs (Some file) held
    ∙ ap (λ (s : Step (List Record)). over files (go_on (λ records. Ends (replayed c programs records)) s)) (recording_checked (length c.tenants) file read is)

pub recording_missing : (words : List (List ℕ)) (files : Files) (r : ReplayWords) (c : Configuration) (programs : List Program) → command_of words ≡ Some (AsksReplay r) → Ready r files c programs → files r.recording_name ≡ None
    → ending words files ≡ not_read r.recording_name
recording_missing words files r c programs is h none = from_ready words files r c programs is h ∙ from_file files r.recording_name c programs None none

pub recording_refused : (words : List (List ℕ)) (files : Files) (r : ReplayWords) (c : Configuration) (programs : List Program) (file : List ℕ) (why : Refusal) → command_of words ≡ Some (AsksReplay r) → Ready r files c programs
    → files r.recording_name ≡ Some file → recording_of (length c.tenants) file ≡ Err why → ending words files ≡ recording_fault (number_of why)
recording_refused words files r c programs file why is h held refused = from_ready words files r c programs is h ∙ from_read files r.recording_name c programs file (Err why) held refused

-- the recording is replayed, unless it has too many items
pub recorded : (words : List (List ℕ)) (files : Files) (r : ReplayWords) (c : Configuration) (programs : List Program) (file : List ℕ) (records : List Record) (many : Bool) → command_of words ≡ Some (AsksReplay r) → Ready r files c programs
    → files r.recording_name ≡ Some file → recording_of (length c.tenants) file ≡ Ok records → has_too_many records ≡ many → ending words files ≡ unless_too_many many c programs records
recorded words files r c programs file records many is h held read counts =
    from_ready words files r c programs is h ∙ from_read files r.recording_name c programs file (Ok records) held read
    ∙ ap (λ (b : Bool). unless_too_many b c programs records) counts

pub too_many : (words : List (List ℕ)) (files : Files) (r : ReplayWords) (c : Configuration) (programs : List Program) (file : List ℕ) (records : List Record) → command_of words ≡ Some (AsksReplay r) → Ready r files c programs
    → files r.recording_name ≡ Some file → recording_of (length c.tenants) file ≡ Ok records → has_too_many records ≡ true → ending words files ≡ recording_fault too_many_requests
too_many words files r c programs file records is h held read counts = recorded words files r c programs file records true is h held read counts

pub complete : (words : List (List ℕ)) (files : Files) (r : ReplayWords) (c : Configuration) (programs : List Program) (file : List ℕ) (records : List Record) → command_of words ≡ Some (AsksReplay r) → Ready r files c programs
    → files r.recording_name ≡ Some file → recording_of (length c.tenants) file ≡ Ok records → has_too_many records ≡ false → AnswersReplay r files (ending words files)
complete words files r c programs file records is h held read few = record {
  config = c;
  programs = programs;
  records = records;
  files_are = record {
    ready = h;
    recorded = record { file = file; holds = held; accepted = read };
    few = few;
  };
  ends = recorded words files r c programs file records false is h held read few;
}

-- Each `replay` over files is one of these.

not_done : (e f : Ended) → e ≡ f → status_of f ≢ status.Ok → status_of e ≡ status.Ok → ⊥
not_done e f same other done = other (sym (ap status_of same) ∙ done)

pub done_is_answered : (words : List (List ℕ)) (files : Files) (r : ReplayWords) → command_of words ≡ Some (AsksReplay r) → status_of (ending words files) ≡ status.Ok → AnswersReplay r files (ending words files)
done_is_answered words files r is done = by (prepared files r.config_name)
  where
    by_count : (c : Configuration) (programs : List Program) → Ready r files c programs → (file : List ℕ) → files r.recording_name ≡ Some file → (records : List Record) → recording_of (length c.tenants) file ≡ Ok records
        → (many : Bool) → has_too_many records ≡ many → AnswersReplay r files (ending words files)
    by_count c programs h file held records read true counts = absurd (not_done _ _ (too_many words files r c programs file records is h held read counts) (λ bad. cc) done)
    by_count c programs h file held records read false counts = complete words files r c programs file records is h held read counts

    by_read : (c : Configuration) (programs : List Program) → Ready r files c programs → (file : List ℕ) → files r.recording_name ≡ Some file → (read : Result (List Record) Refusal) → recording_of (length c.tenants) file ≡ read
        → AnswersReplay r files (ending words files)
    by_read c programs h file held (Err why) read = absurd (not_done _ _ (recording_refused words files r c programs file why is h held read) (λ bad. cc) done)
    by_read c programs h file held (Ok records) read = by_count c programs h file held records read (has_too_many records) refl

    by_file : (c : Configuration) (programs : List Program) → Ready r files c programs → (file : Option (List ℕ)) → files r.recording_name ≡ file → AnswersReplay r files (ending words files)
    by_file c programs h None none = absurd (not_done _ _ (recording_missing words files r c programs is h none) (λ bad. cc) done)
    by_file c programs h (Some file) held = by_read c programs h file held (recording_of (length c.tenants) file) refl

    by : Prepared files r.config_name → AnswersReplay r files (ending words files)
    by (IsReady c held programs served) = by_file c programs (record { held = held; served = served }) (files r.recording_name) refl
    by (IsOver e bad ends) = absurd (bad (sym (ap status_of (asks words files r is ∙ ends (recording_plan r.recording_name))) ∙ done))
