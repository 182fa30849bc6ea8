-- One turn of the loops over labels and over groups of locals.
use Rattle.std.proofs.Common.{◌≡◌, ℕ, suc, ◌+◌, ◌-◌, List, [], ◌∷◌, ◌++◌, length, take, replicate, Ok, Err, refl, ap, sym, ◌∙◌, arith}
use Rattle.std.proofs.lemmas.List.{take_all}
use Rattle.wasm_ops.specs.declared.faults.Fault.{Fault}
use Rattle.wasm_ops.specs.declared.types.ValType.{ValType}
use Rattle.wasm_ops.specs.declared.numbers.Sign.TheVariants.{Unsigned}
use Rattle.wasm_ops.specs.Input.{Input}
use Rattle.wasm_ops.specs.NumberInput.{number_from}
use Rattle.wasm_code.specs.declared.faults.CodeFault.{CodeFault}
use Rattle.wasm_code.specs.declared.faults.CodeFault.TheVariants.{Bytes, NoMemory}
use Rattle.wasm_code.specs.Faults.{IsFaultOf}
use Rattle.wasm_code.specs.Reading.{Read, and_then}
use Rattle.wasm_code.specs.Items.{labels_from}
use Rattle.wasm_code.specs.Locals.{group_from, groups_from}

-- a label, and those behind it
pub label_goes
    : (n m : ℕ) (targets : List ℕ) (before : Input) (label : ℕ) (there : Input) → n ≡ suc m → number_from Unsigned 32 before ≡ Ok (label, there)
    → labels_from m (targets ++ label ∷ []) there ≡ labels_from n targets before
label_goes n m targets before label there e goes = rw (e, goes) refl

pub label_fails
    : (n m : ℕ) (targets : List ℕ) (before : Input) (fault : Fault) → n ≡ suc m → number_from Unsigned 32 before ≡ Err fault
    → labels_from n targets before ≡ Err fault
label_fails n m targets before fault e fails = rw (e, fails) refl

-- a group, and those behind it
pub group_goes
    : (n m : ℕ) (locals : List ValType) (before : Input) (more : List ValType) (there : Input) → n ≡ suc m → group_from locals before ≡ Ok (more, there)
    → groups_from m more there ≡ groups_from n locals before
group_goes n m locals before more there e goes =
    let next : List ValType → Input → Read (List ValType) = λ more there. groups_from m more there in
    let one = ap (λ (r : Read (List ValType)). and_then r next) goes in rw e (sym one)

pub group_fails
    : (n m : ℕ) (locals : List ValType) (before : Input) (fault : Fault) → n ≡ suc m → group_from locals before ≡ Err fault
    → groups_from n locals before ≡ Err fault
group_fails n m locals before fault e fails =
    let next : List ValType → Input → Read (List ValType) = λ more there. groups_from m more there in
    let one = ap (λ (r : Read (List ValType)). and_then r next) fails in rw e one

-- a vector that grows by so many of one value
pub resized : (locals : List ValType) (count : ℕ) (value : ValType) → take (length locals + count) locals ++ replicate (length locals + count - length locals) value ≡ locals ++ replicate count value
resized locals count value =
    let all : take (length locals + count) locals ≡ locals = take_all (length locals + count) locals (omega arith) in
    let more : length locals + count - length locals ≡ count = omega arith in
    rw (all, more) refl

-- what a group answers in place of its locals is the answer
pub groups_refused
    : (n m : ℕ) (locals : List ValType) (before : Input) (all : Read (List ValType)) (fault : CodeFault) → n ≡ suc m → groups_from n locals before ≡ all
    → IsFaultOf fault (group_from locals before) → IsFaultOf fault all
groups_refused n m locals before all (Bytes fault) e same fails = sym same ∙ group_fails n m locals before fault e fails
groups_refused n m locals before all NoMemory e same fails = tt
