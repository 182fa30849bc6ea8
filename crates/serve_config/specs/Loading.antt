-- The programs of routes: for each in order its file is read, and then made into its program.
use Rattle.std.specs.Prelude.{◌≡◌, ◌⊎◌, ℕ, suc, ◌+◌, List, [], ◌∷◌, ◌++◌, length, Option, None, Some, Result, Ok, Err}
use Rattle.outside.specs.Library.{Fails, Fetched, Files, Gives}
use Rattle.wasm_reader.specs.Modules.{most_bytes}
use Rattle.wasm_meaning.specs.Programs.{Program}
use Rattle.module_files.specs.FilePrograms.{Unfit, program_of}
use Rattle.serve_config.specs.declared.tenants.Route.{Route}

-- why programs are not loaded: the file of the route with this number is not read; or it is no program
pub data Unloaded : Type 0 where
  NotRead : (route : ℕ) → Unloaded
  IsUnfit : (route number place : ℕ) → Unloaded

abbrev pub fit : (number : ℕ) → Result Program Unfit → Result Program Unloaded
fit number (Ok program) = Ok program
fit number (Err why) = Err (IsUnfit number why.number why.place)

-- the program of a route, from what a read of its file gave
abbrev pub from_answer : (number : ℕ) → Route → Option (List ℕ) → Result Program Unloaded
from_answer number r None = Err (NotRead number)
from_answer number r (Some bytes) = fit number (program_of r.pages bytes)

-- one program in front of others
abbrev pub with_first : Program → Result (List Program) Unloaded → Result (List Program) Unloaded
with_first program (Ok programs) = Ok (program ∷ programs)
with_first program (Err why) = Err why

module _ {L : Type 0} (gave : L → L → List ℕ → ℕ → Fetched → Type 0) where
  -- one file was read between these states, and this came of it
  abbrev pub Loads : (number : ℕ) → Route → (old new : L) → Result Program Unloaded → Type 0
  Loads number r old new one =
      (gave old new r.«module» most_bytes Fails × (one ≡ Err (NotRead number)))
      ⊎ ((answer : Option (List ℕ)) × gave old new r.«module» most_bytes (Gives answer) × (one ≡ from_answer number r answer))

  -- behind a program the others come, and else nothing more is read
  abbrev pub Follows : Result Program Unloaded → (between new : L) → (all : Result (List Program) Unloaded) → (Result (List Program) Unloaded → Type 0) → Type 0
  Follows (Ok program) between new all Others = (rest : Result (List Program) Unloaded) × Others rest × (all ≡ with_first program rest)
  Follows (Err why) between new all Others = (all ≡ Err why) × (new ≡ between)

  -- the files of these routes, of which the first has this number, were read in order and no others, and this came of it
  abbrev pub LoadsAll : (number : ℕ) → List Route → (old new : L) → Result (List Program) Unloaded → Type 0
  LoadsAll number [] old new all = (all ≡ Ok []) × (new ≡ old)
  LoadsAll number (r ∷ rs) old new all =
      (between : L) × (one : Result Program Unloaded) × Loads number r old between one × Follows one between new all (λ rest. LoadsAll (suc number) rs between new rest)

-- The same over files that are told.

abbrev pub follow : Result Program Unloaded → Result (List Program) Unloaded → Result (List Program) Unloaded
follow (Ok program) rest = with_first program rest
follow (Err why) rest = Err why

-- what comes of these routes' files
abbrev pub loaded : Files → (number : ℕ) → List Route → Result (List Program) Unloaded
loaded files number [] = Ok []
loaded files number (r ∷ rs) = follow (from_answer number r (files r.«module»)) (loaded files (suc number) rs)

-- The same in the words of the files alone.

-- the file of the route's module is held, and comes to this program
pub record HasProgram (files : Files) (r : Route) (program : Program) : Type 0 where
  pub file : List ℕ
  pub held : files r.«module» ≡ Some file
  pub made : program_of r.pages file ≡ Ok program

-- so it is of these routes, and these are their programs in order
abbrev pub HavePrograms : Files → List Route → List Program → Type 0
HavePrograms files [] [] = Unit {0}
HavePrograms files (r ∷ routes) (program ∷ programs) = HasProgram files r program × HavePrograms files routes programs
HavePrograms files [] (program ∷ programs) = ⊥
HavePrograms files (r ∷ routes) [] = ⊥

-- the file of the route with this number is none: it is not held; or it is held and refused so
abbrev pub HasNone : Files → (number : ℕ) → Route → Unloaded → Type 0
HasNone files number r (NotRead route) = (route ≡ number) × (files r.«module» ≡ None)
HasNone files number r (IsUnfit route refusal place) =
    (file : List ℕ) × (files r.«module» ≡ Some file) × (program_of r.pages file ≡ Err (record { number = refusal; place = place })) × (route ≡ number)

-- of these routes, of which the first has this number, one has no program, and all before it have theirs
pub record IsFirstWithNone (files : Files) (first : ℕ) (routes : List Route) (why : Unloaded) : Type 0 where
  pub before : List Route
  pub route : Route
  pub after : List Route
  pub split : routes ≡ before ++ route ∷ after
  pub programs : List Program
  pub served : HavePrograms files before programs
  pub none : HasNone files (first + length before) route why
