-- What each status of `run` says, clause by clause.
use Rattle.std.specs.Prelude.{◌≡◌, ◌⊎◌, ℕ, ◌≤◌, List, [], ◌∷◌, ◌++◌, length, Some, Ok}
use Rattle.outside.specs.Faults.{Rose}
use Rattle.outside.specs.Library.{Files, LibraryState}
use Rattle.outside.specs.Sink.{Appends, SinkState}
use Rattle.wasm_meaning.specs.Programs.{Program}
use Rattle.module_files.specs.Accepted.{IsAccepted}
use Rattle.commands.specs.ModuleChecks.{given_pages}
use Rattle.serve_config.specs.Configuration.{Configuration}
use Rattle.serve_config.specs.Reading.{configuration}
use Rattle.serve_config.specs.Routing.{all_routes}
use Rattle.serve_config.specs.declared.tenants.Route.{Route}
use Rattle.commands.specs.CheckPlans.{counted}
use Rattle.commands.specs.CommandLine.{InvokeWords}
use Rattle.commands.specs.Commands.{body_limit, ran, request_of}
use Rattle.commands.specs.Endings.{Ended}
use Rattle.commands.specs.Texts.{line}
use Rattle.commands.specs.declared.status.Status.{Status}
use Rattle.commands.specs.declared.status.Status.TheVariants as status

-- a command that is neither done nor broken off by a write fault has written nothing to the output, and one line to the notes
pub record Refused (out out' notes notes' : SinkState) : Type 0 where
  pub out_took : Appends out out' []
  pub words : List ℕ
  pub notes_took : Appends notes notes' (line words)

-- one of the outputs counted a fault
abbrev pub WriteRose : (out out' notes notes' : SinkState) → Type 0
WriteRose out out' notes notes' = Rose out.faults out'.faults ⊎ Rose notes.faults notes'.faults

-- the status is this one, unless there was no memory, or a write or a read failed and was counted
abbrev pub Yields : (planned result : Status) (lib lib' : LibraryState) (out out' notes notes' : SinkState) → Type 0
Yields planned result lib lib' out out' notes notes' =
    (result ≡ planned)
    ⊎ (result ≡ status.NoMemory)
    ⊎ ((result ≡ status.WriteFault) × WriteRose out out' notes notes')
    ⊎ ((result ≡ status.ReadFault) × Rose lib.faults lib'.faults)

-- an `invoke` over these files is answered so: the module's file spells a module that is valid and linked, the body is not too long,
-- and the reply and the units are those of the verdict on the request to its program
pub record AnswersInvoke (words : InvokeWords) (files : Files) (e : Ended) : Type 0 where
  pub file : List ℕ
  pub program : Program
  pub body : List ℕ
  pub holds_module : files words.module_name ≡ Some file
  pub accepted : IsAccepted given_pages file program
  pub holds_body : files words.body_name ≡ Some body
  pub fits : length body ≤ body_limit
  pub ends : e ≡ ran (request_of program words.budget body)

-- the files of an `invoke` are held: the module is this one, and the body too
abbrev pub HoldsBoth : InvokeWords → Files → (file body : List ℕ) → Type 0
HoldsBoth words files file body = (files words.module_name ≡ Some file) × (files words.body_name ≡ Some body)

-- a file with this name is held, and is this configuration
pub record HoldsConfig (name : List ℕ) (files : Files) (c : Configuration) : Type 0 where
  pub file : List ℕ
  pub holds : files name ≡ Some file
  pub accepted : configuration file ≡ Ok c

-- the file of a route's module is held, and spells a module that is valid and linked with the route's pages; this is its program
pub record IsServed (files : Files) (r : Route) (program : Program) : Type 0 where
  pub file : List ℕ
  pub holds : files r.«module» ≡ Some file
  pub accepted : IsAccepted r.pages file program

-- so it is of these routes, and these are their programs in order
abbrev pub AreServed : Files → List Route → List Program → Type 0
AreServed files [] [] = Unit {0}
AreServed files (r ∷ routes) (program ∷ programs) = IsServed files r program × AreServed files routes programs
AreServed files [] (program ∷ programs) = ⊥
AreServed files (r ∷ routes) [] = ⊥

-- of a configuration's routes this one comes behind these, which are served. Its number is how many they are.
pub record ComesBehind (files : Files) (c : Configuration) (before : List Route) (r : Route) : Type 0 where
  pub after : List Route
  pub routes : all_routes c.tenants ≡ before ++ r ∷ after
  pub programs : List Program
  pub served : AreServed files before programs

-- a `check` over these files is answered so: the file is a configuration, each route's module is served, and what is told is how many
-- tenants and routes there are
pub record AnswersCheck (name : List ℕ) (files : Files) (e : Ended) : Type 0 where
  pub config : Configuration
  pub held : HoldsConfig name files config
  pub programs : List Program
  pub served : AreServed files (all_routes config.tenants) programs
  pub ends : e ≡ counted config
