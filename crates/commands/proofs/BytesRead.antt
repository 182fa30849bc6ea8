-- Of files that are read and are bytes: those that are accepted are bytes to their end, so that a recording is spelt, and requests to programs have verdicts.
use Rattle.std.proofs.Common.{◌≡◌, ℕ, suc, ◌+◌, ◌≤◌, List, [], ◌∷◌, length, take, Option, Some, IfSome, Ok, sym, ap, subst, ◌∙◌, arith}
use Rattle.std.proofs.lemmas.List.{take_all}
use Rattle.std.specs.List.{AllByRecursion}
use Rattle.outside.specs.Library.{AreBytes, Files}
use Rattle.wasm_meaning.specs.Programs.{Program}
use Rattle.wasm_ops.proofs.ByteLaws.{all_bytes}
use Rattle.wasm_reader.specs.Modules.{most_bytes}
use Rattle.serve_config.specs.Configuration.{Configuration}
use Rattle.serve_config.specs.Routing.{all_routes}
use Rattle.serve_config.specs.declared.tenants.Route.{Route}
use Rattle.recording_format.specs.Recorded.{Recorded}
use Rattle.recording_format.specs.declared.records.Record.{Record}
use Rattle.commands.proofs.Checks.{check_accepted, config_checked}
use Rattle.commands.proofs.InvokeLaws.{has_verdict}
use Rattle.commands.proofs.RecordingLaws.{accepted_fits, read_is}
use Rattle.commands.specs.CheckPlans.{Onward, check_config, check_route, config_plan, module_name, modules_plan, routes_plan}
use Rattle.commands.specs.Plans.{Goes, Plan, ReadsBytes, Step, found, go_on}
use Rattle.commands.specs.Promises.{AreServed, HoldsConfig, IsServed}
use Rattle.commands.specs.ReplayPlans.{recording_limit, recording_plan}
use Rattle.commands.specs.Replays.{HasVerdicts, HoldsRecording}

-- a file that is no longer than it may be was read to its end
whole_bytes : (most : ℕ) (held : Option (List ℕ)) (file : List ℕ) → held ≡ Some file → length file ≤ most
    → IfSome held (λ front. AreBytes (take (most + 1) front)) → AreBytes file
whole_bytes most held file is fits read =
    let front : AreBytes (take (most + 1) file) = subst (λ (f : Option (List ℕ)). IfSome f (λ x. AreBytes (take (most + 1) x))) is read in
    let all : take (most + 1) file ≡ file = take_all (most + 1) file (omega (arith, fits)) in
    subst (λ (x : List ℕ). AreBytes x) all front

-- behind a configuration
config_read : (files : Files) (name : List ℕ) (next : Onward) (c : Configuration) → HoldsConfig name files c → ReadsBytes files (config_plan name next) → ReadsBytes files (routes_plan next c)
config_read files name next c h reads =
    let goes : found name check_config (routes_plan next) (files name) ≡ routes_plan next c =
    ap (λ (f : Option (List ℕ)). found name check_config (routes_plan next) f) h.holds ∙ ap (λ (s : Step Configuration). go_on (routes_plan next) s) (config_checked h.file (Ok c) h.accepted) in
    subst (ReadsBytes files) goes reads.1

-- a request to the program of a route that is served has a verdict
served_answers : (files : Files) (r : Route) (program : Program) → IsServed files r program → IfSome (files (module_name r)) (λ front. AreBytes (take (most_bytes + 1) front)) → HasVerdicts program
served_answers files r program s read =
    let are : AreBytes s.file = whole_bytes most_bytes (files (module_name r)) s.file s.holds s.accepted.spelt.small read in
    has_verdict r.pages s.file program (all_bytes s.file (λ i. let fits = are i in omega arith)) s.accepted

-- and behind the modules of routes
modules_read : (files : Files) (number : ℕ) (routes : List Route) (next : List Program → Plan) (programs : List Program) → AreServed files routes programs → ReadsBytes files (modules_plan number routes next)
    → AllByRecursion HasVerdicts programs × ReadsBytes files (next programs)
modules_read files number [] next [] served reads = (tt, reads)
modules_read files number [] next (program ∷ programs) served reads = absurd served
modules_read files number (r ∷ routes) next [] served reads = absurd served
modules_read files number (r ∷ routes) next (program ∷ programs) served reads =
    let s = served.0 in
    let onward : Program → Plan = λ value. modules_plan (suc number) routes (λ values. next (value ∷ values)) in
    let goes : found (module_name r) (check_route number r) onward (files (module_name r)) ≡ onward program =
    ap (λ (f : Option (List ℕ)). found (module_name r) (check_route number r) onward f) s.holds
    ∙ ap (λ (t : Step Program). go_on onward t) (check_accepted number r.pages s.file program s.accepted) in
    let rest = modules_read files (suc number) routes (λ values. next (program ∷ values)) programs served.1 (subst (ReadsBytes files) goes reads.1) in
    ((served_answers files r program s reads.0, rest.0), rest.1)

-- the programs of a configuration, and what is read behind them
pub ready_read : (files : Files) (name : List ℕ) (next : Onward) (c : Configuration) (programs : List Program) → HoldsConfig name files c → AreServed files (all_routes c.tenants) programs
    → ReadsBytes files (config_plan name next) → AllByRecursion HasVerdicts programs × ReadsBytes files (next c programs)
ready_read files name next c programs h served reads =
    modules_read files 0 (all_routes c.tenants) (next c) programs served (config_read files name next c h reads)

-- the bytes of a recording's file spell its records
pub recording_spelt : (files : Files) (name : List ℕ) (c : Configuration) (programs : List Program) (records : List Record) → (h : HoldsRecording name files (length c.tenants) records)
    → ReadsBytes files (recording_plan name c programs) → Recorded (length c.tenants) h.file records
recording_spelt files name c programs records h reads =
    let fits = accepted_fits (length c.tenants) h.file records h.accepted in
    read_is (length c.tenants) h.file records (whole_bytes recording_limit (files name) h.file h.holds fits reads.0) h.accepted
