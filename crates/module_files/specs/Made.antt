-- What `program_of` answers, beside what the bytes come to.
use Rattle.std.specs.Prelude.{◌≡◌, Result, Ok, Err}
use Rattle.wasm_meaning.specs.Programs.{Program}
use Rattle.module_files.specs.FilePrograms.{Unfit}
use Rattle.module_files.specs.declared.faults.Unmade.{Unmade}
use Rattle.module_files.specs.declared.faults.Unmade.TheVariants as unmade

-- this came of it, or memory ran out
abbrev pub IsMade : Result Program Unmade → Result Program Unfit → Type 0
IsMade (Ok program) due = due ≡ Ok program
IsMade (Err (unmade.Unfit number place)) due = due ≡ Err (record { number = number; place = place })
IsMade (Err unmade.NoMemory) due = Unit {0}
