-- How a `check` ends, by what its files are and spell.
use Rattle.std.proofs.Common.{◌≡◌, ◌≢◌, ℕ, zero, suc, ◌+◌, List, [], ◌∷◌, ◌++◌, length, Option, None, Some, Result, Ok, Err, refl, sym, ap, subst, ◌∙◌, arith}
use Rattle.outside.specs.Library.{Files}
use Rattle.wasm_ops.specs.declared.faults.Fault.{Fault}
use Rattle.wasm_reader.specs.Modules.{RefusesModule}
use Rattle.wasm_meaning.specs.LinkRules.{link_number}
use Rattle.wasm_meaning.specs.Programs.{Program}
use Rattle.wasm_meaning.specs.declared.links.Unlinked.{Unlinked}
use Rattle.wasm_meaning.specs.declared.violations.Broken.{Broken}
use Rattle.serve_config.specs.Configuration.{Configuration}
use Rattle.serve_config.specs.Reading.{configuration}
use Rattle.serve_config.specs.Refusals.{number_of}
use Rattle.serve_config.specs.Routing.{all_routes}
use Rattle.serve_config.specs.declared.refusals.Refusal.{Refusal}
use Rattle.serve_config.specs.declared.tenants.Route.{Route}
use Rattle.commands.proofs.Checks.{Judged, IsProgramOf, IsNone, judged, check_accepted, check_invalid, check_refused, check_unlinked, config_checked}
use Rattle.module_files.specs.Accepted.{IsInvalid, IsUnlinked}
use Rattle.commands.specs.CheckPlans.{Onward, check_config, check_plan, check_route, config_plan, counted, module_name, modules_plan, routes_plan}
use Rattle.commands.specs.CommandLine.{Asked, AsksCheck, command_of}
use Rattle.commands.specs.Commands.{ending, plan_of}
use Rattle.commands.specs.Endings.{Ended, config_fault, module_fault, not_read, status_of}
use Rattle.commands.specs.Plans.{Ends, Goes, Plan, Step, Stops, found, go_on, over}
use Rattle.commands.specs.Promises.{AnswersCheck, AreServed, ComesBehind, HoldsConfig, IsServed}
use Rattle.commands.specs.declared.status.Status.TheVariants as status

-- The modules of routes, whatever follows.

-- the plan from a route's file on
from_route : (files : Files) (number : ℕ) (r : Route) (routes : List Route) (next : List Program → Plan) (file : Option (List ℕ)) → files (module_name r) ≡ file
    → over files (modules_plan number (r ∷ routes) next)
    ≡ over files (found (module_name r) (check_route number r) (λ value. modules_plan (suc number) routes (λ values. next (value ∷ values))) file)
from_route files number r routes next file held =
    ap (λ (f : Option (List ℕ)). over files (found (module_name r) (check_route number r) (λ value. modules_plan (suc number) routes (λ values. next (value ∷ values))) f)) held

-- the plan from the check of its file on
from_step : (files : Files) (number : ℕ) (r : Route) (routes : List Route) (next : List Program → Plan) (file : List ℕ) (step : Step Program) → files (module_name r) ≡ Some file → check_route number r file ≡ step
    → over files (modules_plan number (r ∷ routes) next)
    ≡ over files (go_on (λ value. modules_plan (suc number) routes (λ values. next (value ∷ values))) step)
from_step files number r routes next file step held check =
    from_route files number r routes next (Some file) held
    ∙ ap (λ (s : Step Program). over files (go_on (λ value. modules_plan (suc number) routes (λ values. next (value ∷ values))) s)) check

-- the plan goes past a route that is served
past_one : (files : Files) (number : ℕ) (r : Route) (routes : List Route) (next : List Program → Plan) (program : Program) → IsServed files r program
    → over files (modules_plan number (r ∷ routes) next) ≡ over files (modules_plan (suc number) routes (λ values. next (program ∷ values)))
past_one files number r routes next program s =
    from_step files number r routes next s.file (Goes program) s.holds (check_accepted number r.pages s.file program s.accepted)

-- it goes past all that are served
pub past_all : (files : Files) (number : ℕ) (routes : List Route) (next : List Program → Plan) (programs : List Program) → AreServed files routes programs
    → over files (modules_plan number routes next) ≡ over files (next programs)
past_all files number [] next [] served = refl
past_all files number [] next (program ∷ programs) served = absurd served
past_all files number (r ∷ routes) next [] served = absurd served
past_all files number (r ∷ routes) next (program ∷ programs) served =
    past_one files number r routes next program served.0 ∙ past_all files (suc number) routes (λ values. next (program ∷ values)) programs served.1

-- and where the one behind these ends it, it has ended
behind : (files : Files) (number : ℕ) (before : List Route) (programs : List Program) (r : Route) (after : List Route) (at : ℕ) (e : Ended) → AreServed files before programs → at ≡ number + length before
    → ((next : List Program → Plan) → over files (modules_plan at (r ∷ after) next) ≡ e) → (next : List Program → Plan) → over files (modules_plan number (before ++ r ∷ after) next) ≡ e
behind files number [] [] r after at e served is ends next =
    let here : at ≡ number = omega arith in
    ap (λ (n : ℕ). over files (modules_plan n (r ∷ after) next)) (sym here) ∙ ends next
behind files number [] (program ∷ programs) r after at e served is ends next = absurd served
behind files number (q ∷ before) [] r after at e served is ends next = absurd served
behind files number (q ∷ before) (program ∷ programs) r after at e served is ends next =
    let further : at ≡ suc number + length before = omega arith in
    past_one files number q (before ++ r ∷ after) next program served.0
    ∙ behind files (suc number) before programs r after at e served.1 further ends (λ values. next (program ∷ values))

-- The configuration before them.

pub from_config : (files : Files) (name : List ℕ) (next : Onward) (file : Option (List ℕ)) → files name ≡ file → over files (config_plan name next) ≡ over files (found name check_config (routes_plan next) file)
from_config files name next file held = ap (λ (f : Option (List ℕ)). over files (found name check_config (routes_plan next) f)) held

pub from_accepted : (files : Files) (name : List ℕ) (next : Onward) (c : Configuration) → HoldsConfig name files c → over files (config_plan name next) ≡ over files (routes_plan next c)
from_accepted files name next c h =
    from_config files name next (Some h.file) h.holds ∙ ap (λ (s : Step Configuration). over files (go_on (routes_plan next) s)) (config_checked h.file (Ok c) h.accepted)

pub from_refused : (files : Files) (name : List ℕ) (next : Onward) (file : List ℕ) (refusal : Refusal) → files name ≡ Some file → configuration file ≡ Err refusal → over files (config_plan name next) ≡ config_fault (number_of refusal)
from_refused files name next file refusal held is =
    from_config files name next (Some file) held ∙ ap (λ (s : Step Configuration). over files (go_on (routes_plan next) s)) (config_checked file (Err refusal) is)

-- the first route that is not served ends the plan
pub first_ends : (files : Files) (name : List ℕ) (next : Onward) (c : Configuration) (before : List Route) (r : Route) (e : Ended) → HoldsConfig name files c → (first : ComesBehind files c before r)
    → ((next : List Program → Plan) → over files (modules_plan (length before) (r ∷ first.after) next) ≡ e) → over files (config_plan name next) ≡ e
first_ends files name next c before r e h first ends =
    let at : length before ≡ 0 + length before = omega arith in
    from_accepted files name next c h
    ∙ ap (λ (routes : List Route). over files (modules_plan 0 routes (next c))) first.routes
    ∙ behind files 0 before first.programs r first.after (length before) e first.served at ends (next c)

pub module_missing_ends : (files : Files) (number : ℕ) (r : Route) (after : List Route) → files (module_name r) ≡ None → (next : List Program → Plan) → over files (modules_plan number (r ∷ after) next) ≡ not_read (module_name r)
module_missing_ends files number r after none next = from_route files number r after next None none

pub module_stops_ends : (files : Files) (number : ℕ) (r : Route) (after : List Route) (file : List ℕ) (e : Ended) → files (module_name r) ≡ Some file → check_route number r file ≡ Stops e → (next : List Program → Plan) → over files (modules_plan number (r ∷ after) next) ≡ e
module_stops_ends files number r after file e held stops next = from_step files number r after next file (Stops e) held stops

-- What is due for a `check`.

asks : (words : List (List ℕ)) (files : Files) (name : List ℕ) → command_of words ≡ Some (AsksCheck name) → ending words files ≡ over files (check_plan name)
asks words files name is = ap (λ (a : Option Asked). over files (plan_of a)) is

abbrev shows : Onward
shows c programs = Ends (counted c)

pub config_missing : (words : List (List ℕ)) (files : Files) (name : List ℕ) → command_of words ≡ Some (AsksCheck name) → files name ≡ None → ending words files ≡ not_read name
config_missing words files name is none = asks words files name is ∙ from_config files name shows None none

pub config_refused : (words : List (List ℕ)) (files : Files) (name file : List ℕ) (refusal : Refusal) → command_of words ≡ Some (AsksCheck name) → files name ≡ Some file → configuration file ≡ Err refusal
    → ending words files ≡ config_fault (number_of refusal)
config_refused words files name file refusal is held refused = asks words files name is ∙ from_refused files name shows file refusal held refused

pub module_missing : (words : List (List ℕ)) (files : Files) (name : List ℕ) (c : Configuration) (before : List Route) (r : Route) → command_of words ≡ Some (AsksCheck name) → HoldsConfig name files c
    → ComesBehind files c before r → files r.«module» ≡ None → ending words files ≡ not_read r.«module»
module_missing words files name c before r is h first none =
    asks words files name is ∙ first_ends files name shows c before r _ h first (module_missing_ends files (length before) r first.after none)

pub module_refused : (words : List (List ℕ)) (files : Files) (name : List ℕ) (c : Configuration) (before : List Route) (r : Route) (file : List ℕ) (fault : Fault) → command_of words ≡ Some (AsksCheck name) → HoldsConfig name files c
    → ComesBehind files c before r → files r.«module» ≡ Some file → RefusesModule file fault → ending words files ≡ module_fault (length before) fault.number fault.place
module_refused words files name c before r file fault is h first held refused =
    asks words files name is
    ∙ first_ends files name shows c before r _ h first (module_stops_ends files (length before) r first.after file _ held (check_refused (length before) r.pages file fault refused))

pub module_invalid : (words : List (List ℕ)) (files : Files) (name : List ℕ) (c : Configuration) (before : List Route) (r : Route) (file : List ℕ) (broken : Broken) → command_of words ≡ Some (AsksCheck name) → HoldsConfig name files c
    → ComesBehind files c before r → files r.«module» ≡ Some file → IsInvalid file broken → ending words files ≡ module_fault (length before) broken.number broken.item
module_invalid words files name c before r file broken is h first held invalid =
    asks words files name is
    ∙ first_ends files name shows c before r _ h first (module_stops_ends files (length before) r first.after file _ held (check_invalid (length before) r.pages file broken invalid))

pub module_unlinked : (words : List (List ℕ)) (files : Files) (name : List ℕ) (c : Configuration) (before : List Route) (r : Route) (file : List ℕ) (why : Unlinked) → command_of words ≡ Some (AsksCheck name) → HoldsConfig name files c
    → ComesBehind files c before r → files r.«module» ≡ Some file → IsUnlinked r.pages file why → ending words files ≡ module_fault (length before) (link_number why.rule) why.item
module_unlinked words files name c before r file why is h first held unlinked =
    asks words files name is
    ∙ first_ends files name shows c before r _ h first (module_stops_ends files (length before) r first.after file _ held (check_unlinked (length before) r.pages file why unlinked))

pub complete : (words : List (List ℕ)) (files : Files) (name : List ℕ) (c : Configuration) (programs : List Program) → command_of words ≡ Some (AsksCheck name) → HoldsConfig name files c
    → AreServed files (all_routes c.tenants) programs → ending words files ≡ counted c
complete words files name c programs is h served =
    asks words files name is ∙ from_accepted files name shows c h ∙ past_all files 0 (all_routes c.tenants) (shows c) programs served

-- Each `check` over files is one of these.

-- the routes are served, or the first that is not ends the plan, whatever follows
pub data Past (files : Files) (number : ℕ) (routes : List Route) : Type 0 where
  AllServed : (programs : List Program) (served : AreServed files routes programs) → Past files number routes
  StopsAt : (e : Ended) (bad : status_of e ≢ status.Ok) (ends : (next : List Program → Plan) → over files (modules_plan number routes next) ≡ e) → Past files number routes

past : (files : Files) (number : ℕ) (routes : List Route) → Past files number routes
past files number [] = AllServed [] tt
past files number (r ∷ routes) = by_file (past files (suc number) routes) (files (module_name r)) refl
  where
    behind_one : (program : Program) → IsServed files r program → Past files (suc number) routes → Past files number (r ∷ routes)
    behind_one program served (AllServed programs others) = AllServed (program ∷ programs) (served, others)
    behind_one program served (StopsAt e bad ends) =
        StopsAt e bad (λ next. past_one files number r routes next program served ∙ ends (λ values. next (program ∷ values)))

    by_judgement : (file : List ℕ) → files (module_name r) ≡ Some file → Past files (suc number) routes → Judged number r.pages file → Past files number (r ∷ routes)
    by_judgement file held rest (IsNone refusal place stops) =
        StopsAt (module_fault number refusal place) (λ bad. cc) (λ next. module_stops_ends files number r routes file _ held stops next)
    by_judgement file held rest (IsProgramOf program accepted) = behind_one program (record { file = file; holds = held; accepted = accepted }) rest

    by_file : Past files (suc number) routes → (file : Option (List ℕ)) → files (module_name r) ≡ file → Past files number (r ∷ routes)
    by_file rest None held = StopsAt (not_read (module_name r)) (λ bad. cc) (λ next. module_missing_ends files number r routes held next)
    by_file rest (Some file) held = by_judgement file held rest (judged number r.pages file)

-- the configuration is held and its routes are served, or the plan has ended, whatever follows
pub data Prepared (files : Files) (name : List ℕ) : Type 0 where
  IsReady : (c : Configuration) (held : HoldsConfig name files c) (programs : List Program) (served : AreServed files (all_routes c.tenants) programs) → Prepared files name
  IsOver : (e : Ended) (bad : status_of e ≢ status.Ok) (ends : (next : Onward) → over files (config_plan name next) ≡ e) → Prepared files name

pub prepared : (files : Files) (name : List ℕ) → Prepared files name
prepared files name = by_file (files name) refl
  where
    by_routes : (c : Configuration) → HoldsConfig name files c → Past files 0 (all_routes c.tenants) → Prepared files name
    by_routes c held (AllServed programs served) = IsReady c held programs served
    by_routes c held (StopsAt e bad ends) = IsOver e bad (λ next. from_accepted files name next c held ∙ ends (next c))

    by_config : (file : List ℕ) → files name ≡ Some file → (read : Result Configuration Refusal) → configuration file ≡ read → Prepared files name
    by_config file held (Err refusal) is = IsOver (config_fault (number_of refusal)) (λ bad. cc) (λ next. from_refused files name next file refusal held is)
    by_config file held (Ok c) is = by_routes c (record { file = file; holds = held; accepted = is }) (past files 0 (all_routes c.tenants))

    by_file : (file : Option (List ℕ)) → files name ≡ file → Prepared files name
    by_file None held = IsOver (not_read name) (λ bad. cc) (λ next. from_config files name next None held)
    by_file (Some file) held = by_config file held (configuration file) refl

pub ready_ends : (files : Files) (name : List ℕ) (next : Onward) (c : Configuration) (programs : List Program) → HoldsConfig name files c → AreServed files (all_routes c.tenants) programs
    → over files (config_plan name next) ≡ over files (next c programs)
ready_ends files name next c programs held served = from_accepted files name next c held ∙ past_all files 0 (all_routes c.tenants) (next c) programs served

pub done_is_answered : (words : List (List ℕ)) (files : Files) (name : List ℕ) → command_of words ≡ Some (AsksCheck name) → status_of (ending words files) ≡ status.Ok → AnswersCheck name files (ending words files)
done_is_answered words files name is done = by (prepared files name)
  where
    by : Prepared files name → AnswersCheck name files (ending words files)
    by (IsReady c held programs served) = record { config = c; held = held; programs = programs; served = served; ends = complete words files name c programs is held served }
    by (IsOver e bad ends) = absurd (bad (sym (ap status_of (asks words files name is ∙ ends shows)) ∙ done))
