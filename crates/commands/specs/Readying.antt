-- What comes of the reads with which `check` begins, and a replay too: a configuration with its programs, or an ending.
use Rattle.std.specs.Prelude.{ℕ, List, Result, Ok, Err, Vec}
use Rattle.std.specs.declared.alloc.Global.{Global}
use Rattle.std.specs.declared.sync.Arc.{Arc}
use Rattle.outside.specs.Library.{Fetched}
use Rattle.wasm_meaning.specs.Programs.{Program}
use Rattle.serve_config.specs.Configuration.{Configuration}
use Rattle.serve_config.specs.Loaded.{programs_in}
use Rattle.serve_config.specs.Routing.{all_routes}
use Rattle.recorded_runner.specs.Serving.{AreProgramsOf}
use Rattle.commands.specs.CheckPlans.{Onward, routes_plan}
use Rattle.commands.specs.Endings.{IsBrief}
use Rattle.commands.specs.Plans.{Comes, Leads, Plan}
use Rattle.commands.specs.declared.checking.Configured.{Configured}
use Rattle.commands.specs.declared.checking.Unready.{Unready}
use Rattle.commands.specs.declared.checking.Unready.TheVariants.{Refused, NoMemory}

-- what ends a command that cannot go on is brief
abbrev pub EndsBrief : Unready → Type 0
EndsBrief (Refused planned) = IsBrief planned
EndsBrief NoMemory = Unit {0}

-- the reads were made with which a plan of this form begins, whatever it goes on with: behind them it goes on with what is answered,
-- which are programs with the pages of the routes, or it has ended, or memory ran out
abbrev pub Readies
    : {L : Type 0} (gave : L → L → List ℕ → ℕ → Fetched → Type 0) (plan : Onward → Plan) → Result Configured Unready → (old new : L) → Type 0
Readies gave plan (Ok ready) old new =
    ((next : Onward) → Leads gave (plan next) (next ready.config (programs_in ready.programs.items)) old new)
    × AreProgramsOf (all_routes ready.config.tenants) (programs_in ready.programs.items)
Readies gave plan (Err (Refused planned)) old new = (next : Onward) → Comes gave (plan next) old new planned
Readies gave plan (Err NoMemory) old new = Unit {0}

-- the same of the modules of a configuration
abbrev pub ReadiesPrograms
    : {L : Type 0} (gave : L → L → List ℕ → ℕ → Fetched → Type 0) (config : Configuration) → Result (Vec (Arc Program Global) Global) Unready → (old new : L) → Type 0
ReadiesPrograms gave config (Ok programs) old new =
    ((next : Onward) → Leads gave (routes_plan next config) (next config (programs_in programs.items)) old new)
    × AreProgramsOf (all_routes config.tenants) (programs_in programs.items)
ReadiesPrograms gave config (Err (Refused planned)) old new = (next : Onward) → Comes gave (routes_plan next config) old new planned
ReadiesPrograms gave config (Err NoMemory) old new = Unit {0}
