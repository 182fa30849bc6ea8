-- The plan of `check`: a configuration, and then the modules of its routes in order. A replay begins so too.
use Rattle.std.specs.Prelude.{ℕ, List, ◌++◌, length, codes, decimal, Result, Ok, Err}
use Rattle.wasm_meaning.specs.Programs.{Program}
use Rattle.wasm_reader.specs.Modules.{most_bytes}
use Rattle.serve_config.specs.Configuration.{Configuration}
use Rattle.serve_config.specs.Reading.{configuration}
use Rattle.serve_config.specs.Refusals.{number_of}
use Rattle.serve_config.specs.Routing.{all_routes}
use Rattle.serve_config.specs.declared.refusals.Refusal.{Refusal}
use Rattle.serve_config.specs.declared.tenants.Route.{Route}
use Rattle.commands.specs.Endings.{Ended, config_fault, shown}
use Rattle.commands.specs.ModuleChecks.{check_module}
use Rattle.commands.specs.Plans.{Plan, Ends, Step, Stops, Goes, checked_file, checked_files}
use Rattle.commands.specs.Texts.{line}

-- the most bytes of a configuration's file: 1 MiB
abbrev pub config_limit : ℕ
config_limit = 1048576

-- bytes that are a configuration, or what refuses them first
abbrev pub config_step : Result Configuration Refusal → Step Configuration
config_step (Ok c) = Goes c
config_step (Err refusal) = Stops (config_fault (number_of refusal))

-- a file as a configuration
unfoldable pub check_config : List ℕ → Step Configuration
check_config bytes = config_step (configuration bytes)

-- the name of the file with a route's module
abbrev pub module_name : Route → List ℕ
module_name r = r.«module»

-- that file, as the program of the route with this number
abbrev pub check_route : (number : ℕ) → Route → List ℕ → Step Program
check_route number r bytes = check_module number r.pages bytes

-- the modules of these routes, of which the first has this number, and then
abbrev pub modules_plan : (number : ℕ) (routes : List Route) → (next : List Program → Plan) → Plan
modules_plan number routes next = checked_files module_name most_bytes check_route number routes next

-- what follows a configuration and the programs of its routes
abbrev pub Onward : Type 0
Onward = Configuration → List Program → Plan

-- the modules of a configuration, and then
abbrev pub routes_plan : Onward → Configuration → Plan
routes_plan next c = modules_plan 0 (all_routes c.tenants) (next c)

-- the file of this name is a configuration; its modules; and then
abbrev pub config_plan : (name : List ℕ) → Onward → Plan
config_plan name next = checked_file name config_limit check_config (routes_plan next)

-- how many tenants and routes there are
abbrev pub counts_line : (tenants routes : ℕ) → List ℕ
counts_line tenants routes = line (codes "tenants " ++ decimal tenants ++ codes " routes " ++ decimal routes)

-- all that a configuration names is accepted
abbrev pub counted : Configuration → Ended
counted c = shown (counts_line (length c.tenants) (length (all_routes c.tenants)))

-- `check`: the configuration, then the modules
abbrev pub check_plan : (name : List ℕ) → Plan
check_plan name = config_plan name (λ c programs. Ends (counted c))
