-- What `load_programs` answers, beside what its reads come to.
use Rattle.std.specs.Prelude.{◌≡◌, ◌<◌, ℕ, List, length, map, Result, Ok, Err}
use Rattle.std.specs.Arc.{arc_value}
use Rattle.std.specs.declared.alloc.Global.{Global}
use Rattle.std.specs.declared.sync.Arc.{Arc}
use Rattle.outside.specs.Faults.{Rose}
use Rattle.wasm_meaning.specs.Programs.{Program}
use Rattle.serve_config.specs.declared.tenants.Route.{Route}
use Rattle.serve_config.specs.Loading.{Unloaded, NotRead, IsUnfit}
use Rattle.serve_config.specs.declared.load_faults.LoadFault.{LoadFault}
use Rattle.serve_config.specs.declared.load_faults.LoadFault.TheVariants.{Read, Module, NoMemory}

-- this holds of what is answered, or memory ran out
abbrev pub IsLoaded : {A B : Type 0} → (A → B) → Result A LoadFault → (Result B Unloaded → Type 0) → Type 0
IsLoaded view (Ok x) Came = Came (Ok (view x))
IsLoaded view (Err (Read route)) Came = Came (Err (NotRead route))
IsLoaded view (Err (Module route number place)) Came = Came (Err (IsUnfit route number place))
IsLoaded view (Err NoMemory) Came = Unit {0}

-- the programs that are shared
abbrev pub programs_in : List (Arc Program Global) → List Program
programs_in shared = map arc_value shared

-- the fault is that of the route with this number
abbrev pub IsOf : (number : ℕ) → LoadFault → Type 0
IsOf number (Read route) = route ≡ number
IsOf number (Module route refusal place) = route ≡ number
IsOf number NoMemory = Unit {0}

-- the fault is that of one of these routes
abbrev pub IsAmong : List Route → LoadFault → Type 0
IsAmong routes (Read route) = route < length routes
IsAmong routes (Module route refusal place) = route < length routes
IsAmong routes NoMemory = Unit {0}

-- the file of a route was not read, for a read failed and was counted
abbrev pub HasFailed : Result (List Program) Unloaded → (before now : ℕ) → Type 0
HasFailed came before now = (route : ℕ) × (came ≡ Err (NotRead route)) × Rose before now
