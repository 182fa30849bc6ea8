-- What `read_module` answers, from what its reader does.
use Rattle.std.proofs.Common.{ℕ, ◌≤◌, List, length, Result, Ok, Err, IfOk, IfErr}
use Rattle.wasm_ops.specs.declared.faults.Fault.{Fault}
use Rattle.wasm_ops.specs.declared.modules.Module.{Module}
use Rattle.wasm_ops.specs.Input.{Input}
use Rattle.wasm_code.specs.Bodies.{beginning}
use Rattle.wasm_code.specs.declared.faults.CodeFault.{CodeFault}
use Rattle.wasm_code.specs.declared.faults.CodeFault.TheVariants.{Bytes, NoMemory}
use Rattle.wasm_reader.specs.Modules.{whole_module, most_bytes, SpellsModule, RefusesModule}
use Rattle.wasm_code.specs.Faults.{Gives, IsAmong, GivesValue, GivesFault}
use Rattle.wasm_reader.proofs.ModuleLaws.{spelt_from, refused_from, module_or_fault, one_module, one_refusal}

-- The reader gives what the definition reads, and takes no bytes behind it.

abbrev pub GivesModule : (bytes : List ℕ) (result : Result Module CodeFault) (after : Input) → Type 0
GivesModule bytes result after = Gives (λ parts. (parts, after)) result (whole_module.read (beginning bytes))

pub found
    : (bytes : List ℕ) (result : Result Module CodeFault) (after : Input) → length bytes ≤ most_bytes → GivesModule bytes result after
    → IfOk result (λ parts. SpellsModule bytes parts)
found bytes (Ok parts) after small gives = spelt_from bytes parts after small gives
found bytes (Err fault) after small gives = tt

pub refused
    : (bytes : List ℕ) (result : Result Module CodeFault) (after : Input) → length bytes ≤ most_bytes → GivesModule bytes result after
    → IfErr result (λ fault. IsAmong fault (RefusesModule bytes))
refused bytes (Ok parts) after small gives = tt
refused bytes (Err (Bytes fault)) after small gives = refused_from bytes fault small gives
refused bytes (Err NoMemory) after small gives = tt

-- Both ways from one, by the laws.

value_given
    : (bytes : List ℕ) (result : Result Module CodeFault) → IfOk result (λ parts. SpellsModule bytes parts)
    → IfErr result (λ fault. IsAmong fault (RefusesModule bytes)) → (parts : Module) → SpellsModule bytes parts → GivesValue result parts
value_given bytes (Ok read) is_found is_refused parts spells = one_module bytes read parts is_found spells
value_given bytes (Err (Bytes fault)) is_found is_refused parts spells = module_or_fault bytes parts fault spells is_refused
value_given bytes (Err NoMemory) is_found is_refused parts spells = tt

fault_given
    : (bytes : List ℕ) (result : Result Module CodeFault) → IfOk result (λ parts. SpellsModule bytes parts)
    → IfErr result (λ fault. IsAmong fault (RefusesModule bytes)) → (fault : Fault) → RefusesModule bytes fault → GivesFault result fault
fault_given bytes (Ok read) is_found is_refused fault refuses = module_or_fault bytes read fault is_found refuses
fault_given bytes (Err (Bytes other)) is_found is_refused fault refuses = one_refusal bytes other fault is_refused refuses
fault_given bytes (Err NoMemory) is_found is_refused fault refuses = tt

pub only
    : (bytes : List ℕ) (result : Result Module CodeFault) (after : Input) → length bytes ≤ most_bytes → GivesModule bytes result after
    → (parts : Module) → SpellsModule bytes parts → GivesValue result parts
only bytes result after small gives = value_given bytes result (found bytes result after small gives) (refused bytes result after small gives)

pub only_refused
    : (bytes : List ℕ) (result : Result Module CodeFault) (after : Input) → length bytes ≤ most_bytes → GivesModule bytes result after
    → (fault : Fault) → RefusesModule bytes fault → GivesFault result fault
only_refused bytes result after small gives = fault_given bytes result (found bytes result after small gives) (refused bytes result after small gives)
