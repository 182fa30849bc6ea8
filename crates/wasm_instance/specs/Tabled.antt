-- What a program keeps beside its module.
use Rattle.std.specs.Prelude.{◌≡◌, ℕ, List, map, Option}
use Rattle.wasm_ops.specs.declared.host_calls.HostName.{HostName}
use Rattle.wasm_meaning.specs.Programs.{Program, IsProgram, hosts, defined, start_body, entry_body, most}
use Rattle.wasm_instance.specs.declared.callees.Shape.{Shape}
use Rattle.wasm_instance.specs.Callees.{shape_of}

-- the program is one, and these are its functions, entries and greatest pages
pub record IsTabled (program : Program) (imported : List HostName) (shapes : List Shape) (start entry : Option ℕ) (greatest : ℕ) : Type 0 where
  pub linked : IsProgram program
  pub hosts_are : imported ≡ hosts program.linked
  pub shapes_are : shapes ≡ map shape_of (defined program.linked)
  pub start_is : start ≡ start_body program.linked
  pub entry_is : entry ≡ entry_body program.linked
  pub most_is : greatest ≡ most program
