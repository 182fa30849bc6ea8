-- What the bytes of a module's file come to: a program, or why there is none.
use Rattle.std.specs.Prelude.{◌≡◌, ℕ, List, Some, Ok, Err}
use Rattle.wasm_ops.specs.declared.modules.Module.{Module}
use Rattle.wasm_meaning.specs.declared.links.Unlinked.{Unlinked}
use Rattle.wasm_meaning.specs.declared.violations.Broken.{Broken}
use Rattle.wasm_meaning.specs.Linking.{link_refusal}
use Rattle.wasm_meaning.specs.Programs.{Program, link}
use Rattle.wasm_meaning.specs.Validity.{module_walk}
use Rattle.wasm_reader.specs.Modules.{SpellsModule}

-- the bytes spell a module that is valid and linked with so many pages, and this is its program
pub record IsAccepted (pages : ℕ) (bytes : List ℕ) (program : Program) : Type 0 where
  pub parts : Module
  pub spelt : SpellsModule bytes parts
  pub valid : module_walk parts ≡ Ok tt
  pub links : link parts pages ≡ Ok program

-- the bytes spell a module that breaks a rule, and this is the first
pub record IsInvalid (bytes : List ℕ) (broken : Broken) : Type 0 where
  pub parts : Module
  pub spelt : SpellsModule bytes parts
  pub broken_first : module_walk parts ≡ Err broken

-- the bytes spell a valid module that is not linked, and this is what refuses it first
pub record IsUnlinked (pages : ℕ) (bytes : List ℕ) (why : Unlinked) : Type 0 where
  pub parts : Module
  pub spelt : SpellsModule bytes parts
  pub valid : module_walk parts ≡ Ok tt
  pub refused_first : link_refusal parts pages ≡ Some why
