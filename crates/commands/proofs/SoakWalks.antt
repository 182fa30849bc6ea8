-- What a replay asks of the load, and what it comes to.
use Rattle.std.proofs.Common.{◌≡◌, ℕ, true, false, List, [], ◌∷◌, Result, Ok, Err, sym, ap, ◌∙◌}
use Rattle.std.specs.Prelude.{map}
use Rattle.std.specs.List.{AllByRecursion}
use Rattle.wasm_meaning.specs.Programs.{Program}
use Rattle.serve_config.specs.Configuration.{Configuration}
use Rattle.serve_config.specs.declared.tenants.Route.{Route}
use Rattle.serve_config.specs.Loading.{Unloaded}
use Rattle.recording_format.specs.declared.records.Event.{Event}
use Rattle.recording_format.specs.declared.records.Event.TheVariants.{Begins, Arrives, Closes}
use Rattle.recording_format.specs.declared.records.Record.{Record}
use Rattle.recorded_arrivals.specs.Limits.{has_too_many, too_many_requests}
use Rattle.recorded_runner.specs.Serving.{AreOwned, AreProgramsOf, IsOwned}
use Rattle.recorded_runner.specs.Summaries.{summary_of}
use Rattle.recorded_runner.specs.declared.played.Summary.{Summary}
use Rattle.generated_load.specs.Recording.{IsOwned as IsOfTheLoad}
use Rattle.commands.specs.Endings.{Due, due, recording_fault, shown}
use Rattle.commands.specs.ReplayPlans.{summary_line}
use Rattle.commands.specs.SoakPlans.{all_loaded, summed, summed_unless}

-- programs with the pages of these routes are theirs
pub are_theirs : (routes : List Route) (programs : List Program) → map (λ (p : Program). p.pages) programs ≡ map (λ (r : Route). r.pages) routes → AreProgramsOf routes programs
are_theirs [] [] same = tt
are_theirs [] (p ∷ ps) same = cc
are_theirs (r ∷ rs) [] same = cc
are_theirs (r ∷ rs) (p ∷ ps) same = (cc, are_theirs rs ps cc)

-- all that is loaded is these programs
pub loaded_are : (result : Result (List Program) Unloaded) (programs : List Program) → result ≡ Ok programs → all_loaded result ≡ programs
loaded_are result programs is = ap (λ (r : Result (List Program) Unloaded). all_loaded r) is

owned_event : (event : Event) → IsOfTheLoad 1 event → IsOwned 1 event
owned_event (Begins tenant) is = is
owned_event (Arrives piece) is = tt
owned_event Closes is = tt

pub are_owned : (records : List Record) → AllByRecursion (λ (r : Record). IsOfTheLoad 1 r.event) records → AreOwned 1 records
are_owned [] all = tt
are_owned (r ∷ records) all = (owned_event r.event all.0, are_owned records all.1)

-- the ending of a replay that came to this summary
pub summed_ends : (config : Configuration) (programs : List Program) (records : List Record) (summary : Summary) (e : Due)
    → has_too_many records ≡ false → summary ≡ summary_of config programs records → e ≡ due (shown (summary_line summary)) → e ≡ due (summed config programs records)
summed_ends config programs records summary e few is ends =
    ends ∙ (ap (λ (s : Summary). due (shown (summary_line s))) is ∙ ap (λ b. due (summed_unless b config programs records)) (sym few))

-- and of one that has too many items
pub many_ends : (config : Configuration) (programs : List Program) (records : List Record) (number : ℕ) (e : Due)
    → number ≡ too_many_requests → has_too_many records ≡ true → e ≡ due (recording_fault number) → e ≡ due (summed config programs records)
many_ends config programs records number e is many ends =
    ends ∙ (ap (λ (n : ℕ). due (recording_fault n)) is ∙ ap (λ b. due (summed_unless b config programs records)) (sym many))
