-- The locals that a body declares, in groups of one type (WebAssembly Core 1.0, section 5.5.13).
use Rattle.std.specs.Prelude.{◌≡◌, ◌⊎◌, ℕ, suc, zero, ◌+◌, ◌<◌, ◌≤◌, List, [], ◌∷◌, ◌++◌, length, replicate, Ok}
use Rattle.wasm_ops.specs.declared.faults.Fault.{Fault}
use Rattle.wasm_ops.specs.declared.types.ValType.{ValType}
use Rattle.wasm_ops.specs.declared.numbers.Sign.TheVariants.{Unsigned}
use Rattle.wasm_ops.specs.Limits.{most_locals}
use Rattle.wasm_ops.specs.Input.{Input}
use Rattle.wasm_ops.specs.NumberInput.{ReadsNumber, RefusesNumber, number_from}
use Rattle.wasm_ops.specs.declared.faults.Refusal.TheVariants as refusal
use Rattle.wasm_ops.specs.Refusals.{fault_at}
use Rattle.wasm_code.specs.Reading.{Read, and_then, as_part, within}
use Rattle.wasm_code.specs.Types.{ReadsType, RefusesType, type_from}

-- a group: so many locals of one type
pub record Group : Type 0 where
  pub count : ℕ
  pub value : ValType

-- groups, one behind another, each a count and a type
abbrev pub ReadsGroups : (groups : List Group) (before after : Input) → Type 0
ReadsGroups [] before after = after ≡ before
ReadsGroups (group ∷ groups) before after =
    (there : Input) × (behind : Input) × ReadsNumber Unsigned 32 before group.count there × ReadsType there group.value behind × ReadsGroups groups behind after

-- the type of each local
abbrev pub written_out : (groups : List Group) → List ValType
written_out [] = []
written_out (group ∷ groups) = replicate group.count group.value ++ written_out groups

-- so many groups stand there, whose locals come behind those before them, and there are not too many
abbrev pub AddsGroups : (count : ℕ) (locals : List ValType) (before : Input) (all : List ValType) (after : Input) → Type 0
AddsGroups count locals before all after =
    (groups : List Group) × (length groups ≡ count) × ReadsGroups groups before after × (all ≡ locals ++ written_out groups) × (length all ≤ most_locals)

-- no group stands behind these locals: its count is refused, or there would be too many with it, or its type is none
abbrev pub RefusesGroup : (locals : List ValType) (before : Input) (fault : Fault) → Type 0
RefusesGroup locals before fault =
    RefusesNumber Unsigned 32 before fault
    ⊎ ((count : ℕ) × (there : Input) × ReadsNumber Unsigned 32 before count there
    × (((most_locals < length locals + count) × (fault ≡ fault_at refusal.TooManyLocals before.at))
    ⊎ ((length locals + count ≤ most_locals) × RefusesType there fault)))

-- fewer stand there, and the next one is refused
abbrev pub RefusesGroups : (count : ℕ) (locals : List ValType) (before : Input) (fault : Fault) → Type 0
RefusesGroups count locals before fault =
    (groups : List Group) × (here : Input) × (length groups < count) × ReadsGroups groups before here
    × (length (locals ++ written_out groups) ≤ most_locals) × RefusesGroup (locals ++ written_out groups) here fault

-- their number, and the groups
abbrev pub ReadsLocals : (before : Input) (all : List ValType) (after : Input) → Type 0
ReadsLocals before all after =
    (groups : ℕ) × (there : Input) × ReadsNumber Unsigned 32 before groups there × AddsGroups groups [] there all after

abbrev pub RefusesLocals : (before : Input) (fault : Fault) → Type 0
RefusesLocals before fault =
    RefusesNumber Unsigned 32 before fault
    ⊎ ((groups : ℕ) × (there : Input) × ReadsNumber Unsigned 32 before groups there × RefusesGroups groups [] there fault)

-- The same as functions.

abbrev pub with_group : (locals : List ValType) (count : ℕ) → ValType → List ValType
with_group locals count value = locals ++ replicate count value

abbrev pub group_from : (locals : List ValType) → Input → Read (List ValType)
group_from locals before =
    and_then (number_from Unsigned 32 before) (λ count there.
    within most_locals (length locals + count) (fault_at refusal.TooManyLocals before.at) (as_part (with_group locals count) (type_from there)))

abbrev pub groups_from : (groups : ℕ) (locals : List ValType) → Input → Read (List ValType)
groups_from zero locals before = Ok (locals, before)
groups_from (suc groups) locals before = and_then (group_from locals before) (λ more there. groups_from groups more there)

abbrev pub locals_from : Input → Read (List ValType)
locals_from before = and_then (number_from Unsigned 32 before) (λ groups there. groups_from groups [] there)
