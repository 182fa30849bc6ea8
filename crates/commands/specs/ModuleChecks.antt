-- A file as the program of a route: what its bytes come to with the pages that it is given.
use Rattle.std.specs.Prelude.{ℕ, List, Result, Ok, Err}
use Rattle.wasm_meaning.specs.Programs.{Program}
use Rattle.module_files.specs.FilePrograms.{Unfit, program_of}
use Rattle.commands.specs.Endings.{module_fault}
use Rattle.commands.specs.Plans.{Step, Stops, Goes}

-- a program, or what refuses its bytes first
abbrev pub module_step : (route : ℕ) → Result Program Unfit → Step Program
module_step route (Ok program) = Goes program
module_step route (Err why) = Stops (module_fault route why.number why.place)

-- the file of the route's module
abbrev pub check_module : (route pages : ℕ) → List ℕ → Step Program
check_module route pages bytes = module_step route (program_of pages bytes)

-- the pages that the program of an `invoke` is given: 16 MiB
abbrev pub given_pages : ℕ
given_pages = 256
