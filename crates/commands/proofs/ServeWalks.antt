-- How `serve` comes to its ending.
use Rattle.std.proofs.Common.{◌≡◌, ◌≢◌, ◌⊎◌, inl, inr, ℕ, suc, ◌*◌, List, [], ◌∷◌, length, Option, None, Some, Result, Ok, Err, refl, sym, ap, subst, ◌∙◌}
use Rattle.outside.specs.Faults.{Rose}
use Rattle.outside_links.specs.Door.{DoorState}
use Rattle.wasm_meaning.specs.Programs.{Program}
use Rattle.wasm_reader.specs.Modules.{most_bytes}
use Rattle.module_files.specs.FilePrograms.{Unfit, program_of}
use Rattle.serve_config.specs.Configuration.{Configuration}
use Rattle.serve_config.specs.Reading.{configuration}
use Rattle.serve_config.specs.Routing.{all_routes}
use Rattle.serve_config.specs.declared.refusals.Refusal.{Refusal}
use Rattle.serve_config.specs.declared.tenants.Route.{Route}
use Rattle.serve_sessions.specs.Causes.{RoseBy}
use Rattle.serve_sessions.specs.declared.serving.Served.{Served}
use Rattle.serve_sessions.specs.declared.serving.Served.TheVariants as serving
use Rattle.commands.proofs.Walking.{Giving}
use Rattle.commands.specs.CheckPlans.{Onward, check_config, check_route, config_limit, config_plan, config_step, module_name, modules_plan, routes_plan}
use Rattle.commands.specs.Endings.{Due, Ended, due, status_of, usage}
use Rattle.commands.specs.ModuleChecks.{check_module, module_step}
use Rattle.commands.specs.Plans.{Comes, Ends, Goes, Plan, Reads, Step, Stops, Walks, found, go_on}
use Rattle.commands.specs.Readying.{Readies}
use Rattle.commands.specs.ServePromises.{IsConfigured, IsRefusal, Serves, served_end}
use Rattle.commands.specs.ServeWords.{closed, door_fault, no_thread, serve_plan_of}
use Rattle.commands.specs.declared.checking.Unready.{Unready}
use Rattle.commands.specs.declared.checking.Unready.TheVariants.{Refused}

-- Where the reads of a configuration and its modules end a command, it is refused.

abbrev AllRefuse : Plan → Type 0
AllRefuse (Ends e) = IsRefusal (status_of e)
AllRefuse (Reads name most next) = (answer : Option (List ℕ)) → AllRefuse (next answer)

abbrev StopsRefused : {A : Type 0} → Step A → Type 0
StopsRefused (Stops e) = AllRefuse (Ends e)
StopsRefused (Goes value) = Unit {0}

go_on_refuses : {A : Type 0} (next : A → Plan) (step : Step A) → ((value : A) → AllRefuse (next value)) → StopsRefused step → AllRefuse (go_on next step)
go_on_refuses next (Stops e) refuses stops = stops
go_on_refuses next (Goes value) refuses stops = refuses value

file_refuses : {A : Type 0} (name : List ℕ) (most : ℕ) (check : List ℕ → Step A) (next : A → Plan)
    → ((bytes : List ℕ) → StopsRefused (check bytes)) → ((value : A) → AllRefuse (next value)) → (answer : Option (List ℕ)) → AllRefuse (found name check next answer)
file_refuses name most check next stops refuses None = tt
file_refuses name most check next stops refuses (Some bytes) = go_on_refuses next (check bytes) refuses (stops bytes)

module_refuses : (route pages : ℕ) (bytes : List ℕ) → StopsRefused (check_module route pages bytes)
module_refuses route pages bytes = at (program_of pages bytes)
  where
    at : (made : Result Program Unfit) → StopsRefused (module_step route made)
    at (Ok program) = tt
    at (Err why) = tt

config_refuses : (bytes : List ℕ) → StopsRefused (check_config bytes)
unfolding check_config
config_refuses bytes = at (configuration bytes)
  where
    at : (read : Result Configuration Refusal) → StopsRefused (config_step read)
    at (Ok c) = tt
    at (Err refusal) = tt

modules_refuse : (number : ℕ) (routes : List Route) (next : List Program → Plan) → ((programs : List Program) → AllRefuse (next programs)) → AllRefuse (modules_plan number routes next)
modules_refuse number [] next refuses = refuses []
modules_refuse number (r ∷ routes) next refuses =
    file_refuses (module_name r) most_bytes (check_route number r) _
    (module_refuses number r.pages)
    (λ program. modules_refuse (suc number) routes (λ programs. next (program ∷ programs)) (λ programs. refuses (program ∷ programs)))

abbrev refuses_all : Onward
refuses_all c programs = Ends usage

plan_refuses : (name : List ℕ) → AllRefuse (config_plan name refuses_all)
plan_refuses name =
    file_refuses name config_limit check_config (routes_plan refuses_all) config_refuses
    (λ c. modules_refuse 0 (all_routes c.tenants) (refuses_all c) (λ programs. tt))

walk_refuses : {L : Type 0} (gave : Giving L) (plan : Plan) (old new : L) (e : Ended) → AllRefuse plan → Walks gave plan old new e → IsRefusal (status_of e)
walk_refuses gave (Ends planned) old new e refuses walk = subst IsRefusal (ap status_of (sym walk.0)) refuses
walk_refuses gave (Reads name most next) old new e refuses (inl fails) = subst IsRefusal (ap status_of (sym fails.1)) tt
walk_refuses gave (Reads name most next) old new e refuses (inr (between, answer, given, walk)) = walk_refuses gave (next answer) between new e (refuses answer) walk

-- What the calls come to.

module _ {L : Type 0} (gave : Giving L) where
  -- the words have another shape
  pub serves_usage : (asked : Option (List ℕ)) (lib : L) (t t' : ℕ) (d d' : DoorState) (planned : Due) → asked ≡ None → planned ≡ due usage → Serves gave asked lib lib t t' d d' planned
  serves_usage asked lib t t' d d' planned none is = record {
    ending = usage;
    ends = inl (record { walk = subst (λ (a : Option (List ℕ)). Walks gave (serve_plan_of a) lib lib usage) (sym none) (refl, refl); refusal = tt });
    is_due = is;
  }

  -- the reads ended it
  pub serves_refused : (asked : Option (List ℕ)) (name : List ℕ) (old new : L) (t t' : ℕ) (d d' : DoorState) (planned : Due) → asked ≡ Some name
      → ((next : Onward) → Comes gave (config_plan name next) old new planned) → Serves gave asked old new t t' d d' planned
  serves_refused asked name old new t t' d d' planned is comes =
      let here = comes (λ c programs. Ends closed) in
      let other = comes refuses_all in
      let refused = walk_refuses gave (config_plan name refuses_all) old new other.ending (plan_refuses name) other.walk in
      let same : status_of other.ending ≡ status_of here.ending = ap (λ (p : Due). p.status) (sym other.is_due ∙ here.is_due) in
      record {
        ending = here.ending;
        ends = inl (record { walk = subst (λ (a : Option (List ℕ)). Walks gave (serve_plan_of a) old new here.ending) (sym is) here.walk; refusal = subst IsRefusal same refused });
        is_due = here.is_due;
      }

  pub serves_unready : (asked : Option (List ℕ)) (name : List ℕ) (why : Unready) (old new : L) (t t' : ℕ) (d d' : DoorState) (planned : Due) → asked ≡ Some name
      → Readies gave (config_plan name) (Err why) old new → why ≡ Refused planned → Serves gave asked old new t t' d d' planned
  serves_unready asked name why old new t t' d d' planned is readies same =
      serves_refused asked name old new t t' d d' planned is (subst (λ (w : Unready). Readies gave (config_plan name) (Err w) old new) same readies)

  -- a server began and ended so
  pub serves_as : (asked : Option (List ℕ)) (old new : L) (t t' : ℕ) (d d' : DoorState) (c : Configuration) (served : Served) (planned : Due) → IsConfigured gave asked old new c
      → served ≢ serving.NoMemory → planned ≡ due (served_end served)
      → (served ≡ serving.Closed → RoseBy d.ended d'.ended (c.clerks * length c.tenants))
      → (served ≡ serving.NoThread → Rose t t') → (served ≡ serving.DoorFault → Rose d.faults d'.faults)
      → Serves gave asked old new t t' d d' planned
  serves_as asked old new t t' d d' c serving.Closed planned reads enough is all thread fault = record { ending = closed; ends = inr (c, reads, inl (refl, all refl)); is_due = is }
  serves_as asked old new t t' d d' c serving.NoThread planned reads enough is all thread fault = record { ending = no_thread; ends = inr (c, reads, inr (inl (refl, thread refl))); is_due = is }
  serves_as asked old new t t' d d' c serving.DoorFault planned reads enough is all thread fault = record { ending = door_fault; ends = inr (c, reads, inr (inr (refl, fault refl))); is_due = is }
  serves_as asked old new t t' d d' c serving.NoMemory planned reads enough is all thread fault = absurd (enough refl)
