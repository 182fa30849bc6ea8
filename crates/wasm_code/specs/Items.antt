-- How one item of a body is spelt, and what refuses it (WebAssembly Core 1.0, section 5.4).
use Rattle.std.specs.Prelude.{◌≡◌, ◌⊎◌, ℕ, suc, zero, ◌+◌, ◌<◌, ◌≤◌, List, [], ◌∷◌, ◌++◌, length, Option, Ok}
use Rattle.wasm_ops.specs.declared.faults.Fault.{Fault}
use Rattle.wasm_ops.specs.declared.operators.Op.{Op}
use Rattle.wasm_ops.specs.declared.operators.Op.TheVariants as op
use Rattle.wasm_ops.specs.declared.types.ValType.{ValType}
use Rattle.wasm_ops.specs.declared.numbers.Sign.TheVariants.{Unsigned}
use Rattle.wasm_ops.specs.Limits.{most_targets, most_blocks}
use Rattle.wasm_ops.specs.Input.{Input, byte_from}
use Rattle.wasm_ops.specs.NumberInput.{ReadsNumber, RefusesNumber, number_from}
use Rattle.wasm_ops.specs.declared.faults.Refusal.TheVariants as refusal
use Rattle.wasm_ops.specs.Refusals.{fault_at}
use Rattle.wasm_code.specs.declared.items.Item.{Item}
use Rattle.wasm_code.specs.declared.items.Item.TheVariants as item
use Rattle.wasm_code.specs.declared.forms.Form.{Form}
use Rattle.wasm_code.specs.declared.forms.Form.TheVariants.{Operator, Labels, Prefixed, Opens, Else, End}
use Rattle.wasm_code.specs.Forms.{form_of}
use Rattle.wasm_code.specs.Reading.{Read, and_then, as_part, within, ReadsByte, LacksByte}
use Rattle.wasm_code.specs.Types.{ReadsBlockType, RefusesBlockType, block_type_from}
use Rattle.wasm_code.specs.Layouts.{ReadsLayout, RefusesLayout, ReadsPrefixed, RefusesPrefixed, layout_from, prefixed_from}

-- An item, with the labels of all `br_table`s up to it and with its own.
abbrev pub Parsed : Type 0
Parsed = Item × List ℕ

-- labels, one behind another
abbrev pub ReadsLabels : (labels : List ℕ) (before after : Input) → Type 0
ReadsLabels [] before after = after ≡ before
ReadsLabels (label ∷ labels) before after =
    (there : Input) × ReadsNumber Unsigned 32 before label there × ReadsLabels labels there after

-- so many labels stand there, which come behind those before them
abbrev pub AddsLabels : (count : ℕ) (targets : List ℕ) (before : Input) (all : List ℕ) (after : Input) → Type 0
AddsLabels count targets before all after =
    (labels : List ℕ) × (length labels ≡ count) × ReadsLabels labels before after × (all ≡ targets ++ labels)

-- fewer stand there, and what comes next is no number
abbrev pub RefusesLabels : (count : ℕ) (before : Input) (fault : Fault) → Type 0
RefusesLabels count before fault =
    (labels : List ℕ) × (there : Input) × (length labels < count) × ReadsLabels labels before there × RefusesNumber Unsigned 32 there fault

-- the operator, whose labels begin behind those before it
abbrev pub branch_table : (targets : List ℕ) (count : ℕ) (all : List ℕ) → Parsed
branch_table targets count all = (item.Operator (op.BrTable (length targets) count), all)

-- what stands behind the byte of an item, where so many blocks are open: the default of a `br_table` is the last of its labels
abbrev pub ReadsForm : Form → (depth : ℕ) (targets : List ℕ) (before : Input) (parsed : Parsed) (after : Input) → Type 0
ReadsForm (Operator layout) depth targets before parsed after =
    (operator : Op) × ReadsLayout layout before operator after × (parsed ≡ (item.Operator operator, targets))
ReadsForm Prefixed depth targets before parsed after =
    (operator : Op) × ReadsPrefixed before operator after × (parsed ≡ (item.Operator operator, targets))
ReadsForm Labels depth targets before parsed after =
    (count : ℕ) × (there : Input) × ReadsNumber Unsigned 32 before count there × ((count ≤ most_targets)
    × ((all : List ℕ) × AddsLabels (suc count) targets there all after × (parsed ≡ branch_table targets count all)))
ReadsForm (Opens opener) depth targets before parsed after =
    (depth + 1 ≤ most_blocks) × ((result : Option ValType) × ReadsBlockType before result after × (parsed ≡ (item.Opens opener result, targets)))
ReadsForm Else depth targets before parsed after = (parsed ≡ (item.Else, targets)) × (after ≡ before)
ReadsForm End depth targets before parsed after = (parsed ≡ (item.End, targets)) × (after ≡ before)

-- no such item is spelt; its byte stands at `at`
abbrev pub RefusesForm : Form → (depth : ℕ) (targets : List ℕ) (at : ℕ) (before : Input) (fault : Fault) → Type 0
RefusesForm (Operator layout) depth targets at before fault = RefusesLayout layout at before fault
RefusesForm Prefixed depth targets at before fault = RefusesPrefixed at before fault
RefusesForm Labels depth targets at before fault =
    RefusesNumber Unsigned 32 before fault
    ⊎ ((count : ℕ) × (there : Input) × ReadsNumber Unsigned 32 before count there
    × (((most_targets < count) × (fault ≡ fault_at refusal.TooManyTargets before.at))
    ⊎ ((count ≤ most_targets) × RefusesLabels (suc count) there fault)))
RefusesForm (Opens opener) depth targets at before fault =
    ((most_blocks < depth + 1) × (fault ≡ fault_at refusal.TooDeep at))
    ⊎ ((depth + 1 ≤ most_blocks) × RefusesBlockType before fault)
RefusesForm Else depth targets at before fault = ⊥
RefusesForm End depth targets at before fault = ⊥

-- the item is spelt from the first place to the second
abbrev pub ReadsItem : (depth : ℕ) (targets : List ℕ) (before : Input) (parsed : Parsed) (after : Input) → Type 0
ReadsItem depth targets before parsed after =
    (byte : ℕ) × (there : Input) × ReadsByte before byte there × ReadsForm (form_of byte) depth targets there parsed after

-- no item is spelt there, for the reason that the fault tells
abbrev pub RefusesItem : (depth : ℕ) (targets : List ℕ) (before : Input) (fault : Fault) → Type 0
RefusesItem depth targets before fault =
    LacksByte before fault
    ⊎ ((byte : ℕ) × (there : Input) × ReadsByte before byte there × RefusesForm (form_of byte) depth targets before.at there fault)

-- The same as functions.

abbrev pub labels_from : (count : ℕ) (targets : List ℕ) → Input → Read (List ℕ)
labels_from zero targets before = Ok (targets, before)
labels_from (suc count) targets before =
    and_then (number_from Unsigned 32 before) (λ label there. labels_from count (targets ++ label ∷ []) there)

abbrev pub table_from : (targets : List ℕ) → Input → Read Parsed
table_from targets before =
    and_then (number_from Unsigned 32 before) (λ count there.
    within most_targets count (fault_at refusal.TooManyTargets before.at) (as_part (branch_table targets count) (labels_from (suc count) targets there)))

abbrev pub form_from : Form → (depth : ℕ) (targets : List ℕ) (at : ℕ) → Input → Read Parsed
form_from (Operator layout) depth targets at before = as_part (λ operator. (item.Operator operator, targets)) (layout_from layout at before)
form_from Prefixed depth targets at before = as_part (λ operator. (item.Operator operator, targets)) (prefixed_from at before)
form_from Labels depth targets at before = table_from targets before
form_from (Opens opener) depth targets at before =
    within most_blocks (depth + 1) (fault_at refusal.TooDeep at) (as_part (λ result. (item.Opens opener result, targets)) (block_type_from before))
form_from Else depth targets at before = Ok ((item.Else, targets), before)
form_from End depth targets at before = Ok ((item.End, targets), before)

-- the item that is spelt there, or the fault
abbrev pub item_from : (depth : ℕ) (targets : List ℕ) → Input → Read Parsed
item_from depth targets before =
    and_then (byte_from before) (λ byte there. form_from (form_of byte) depth targets before.at there)
