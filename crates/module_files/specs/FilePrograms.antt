-- The program of a module's file: the module that the bytes spell, which is validated and linked.
use Rattle.std.specs.Prelude.{ℕ, nat_lt, if◌then◌else◌, List, length, Result, Ok, Err}
use Rattle.wasm_ops.specs.Refusals.{number_of}
use Rattle.wasm_ops.specs.declared.faults.Refusal.TheVariants.{TooLarge}
use Rattle.wasm_ops.specs.declared.modules.Module.{Module}
use Rattle.wasm_code.specs.Bodies.{beginning}
use Rattle.wasm_code.specs.Reading.{Read}
use Rattle.wasm_reader.specs.Modules.{most_bytes, whole_module}
use Rattle.wasm_meaning.specs.LinkRules.{link_number}
use Rattle.wasm_meaning.specs.Programs.{Program, link}
use Rattle.wasm_meaning.specs.Validity.{module_walk}
use Rattle.wasm_meaning.specs.ValidityChecks.{Check}
use Rattle.wasm_meaning.specs.declared.links.Unlinked.{Unlinked}

-- why bytes are no program: the number of the refusal, and its place or item
pub record Unfit : Type 0 where
  pub number : ℕ
  pub place : ℕ

abbrev pub linked : Result Program Unlinked → Result Program Unfit
linked (Ok program) = Ok program
linked (Err why) = Err (record { number = link_number why.rule; place = why.item })

abbrev pub validated : (pages : ℕ) → Module → Check → Result Program Unfit
validated pages parts (Ok passed) = linked (link parts pages)
validated pages parts (Err broken) = Err (record { number = broken.number; place = broken.item })

abbrev pub module_read : (pages : ℕ) → Read Module → Result Program Unfit
module_read pages (Ok read) = validated pages read.0 (module_walk read.0)
module_read pages (Err fault) = Err (record { number = fault.number; place = fault.place })

-- the program of a file that has so many pages, or its first refusal
unfoldable pub program_of : (pages : ℕ) → List ℕ → Result Program Unfit
program_of pages bytes =
    if nat_lt most_bytes (length bytes) then Err (record { number = number_of TooLarge; place = 0 }) else module_read pages (whole_module.read (beginning bytes))
