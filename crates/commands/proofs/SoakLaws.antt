-- How a `soak` ends.
use Rattle.std.proofs.Common.{◌≡◌, ℕ, Bool, true, false, List, Option, Some, Result, Ok, Err, refl, ap, ◌∙◌, sym}
use Rattle.std.specs.Prelude.{IsOk}
use Rattle.outside.specs.Library.{Files}
use Rattle.wasm_meaning.specs.Programs.{Program}
use Rattle.serve_config.specs.Loading.{Unloaded}
use Rattle.generated_load.specs.Configuration.{soak_configuration}
use Rattle.generated_load.specs.Recording.{soak_records}
use Rattle.recorded_arrivals.specs.Limits.{has_too_many, too_many_requests}
use Rattle.recorded_runner.specs.Summaries.{summary_of}
use Rattle.commands.specs.CommandLine.{Asked, AsksSoak, SoakWords, command_of}
use Rattle.commands.specs.Commands.{ending, plan_of}
use Rattle.commands.specs.Endings.{Ended, recording_fault, shown, status_of}
use Rattle.commands.specs.Plans.{over}
use Rattle.commands.specs.ReplayPlans.{summary_line}
use Rattle.commands.specs.SoakPlans.{all_loaded, soak_end, soak_loaded, summed_unless}
use Rattle.commands.specs.declared.status.Status.TheVariants as status

pub all_are_loaded : (result : Result (List Program) Unloaded) → IsOk result → result ≡ Ok (all_loaded result)
all_are_loaded (Ok programs) is = refl
all_are_loaded (Err why) is = cc

abbrev line_of : SoakWords → Ended
line_of s = shown (summary_line (summary_of soak_configuration soak_loaded (soak_records s.start s.count)))

asks : (words : List (List ℕ)) (files : Files) (s : SoakWords) → command_of words ≡ Some (AsksSoak s) → ending words files ≡ soak_end s
asks words files s is = ap (λ (a : Option Asked). over files (plan_of a)) is

unless : (s : SoakWords) (many : Bool) → has_too_many (soak_records s.start s.count) ≡ many
    → soak_end s ≡ summed_unless many soak_configuration soak_loaded (soak_records s.start s.count)
unfolding soak_end
unless s many is = ap (λ (b : Bool). summed_unless b soak_configuration soak_loaded (soak_records s.start s.count)) is

pub complete : (words : List (List ℕ)) (files : Files) (s : SoakWords) → command_of words ≡ Some (AsksSoak s) → has_too_many (soak_records s.start s.count) ≡ false → ending words files ≡ line_of s
complete words files s is few = asks words files s is ∙ unless s false few

pub too_many : (words : List (List ℕ)) (files : Files) (s : SoakWords) → command_of words ≡ Some (AsksSoak s) → has_too_many (soak_records s.start s.count) ≡ true → ending words files ≡ recording_fault too_many_requests
too_many words files s is many = asks words files s is ∙ unless s true many

pub answered : (words : List (List ℕ)) (files : Files) (s : SoakWords) → command_of words ≡ Some (AsksSoak s) → status_of (ending words files) ≡ status.Ok → ending words files ≡ line_of s
answered words files s is done = by (has_too_many (soak_records s.start s.count)) refl
  where
    by : (many : Bool) → has_too_many (soak_records s.start s.count) ≡ many → ending words files ≡ line_of s
    by false few = complete words files s is few
    by true many = cc (sym (ap status_of (too_many words files s is many)) ∙ done)
