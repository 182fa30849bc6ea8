-- For each list of bytes one of the two holds in one way: they spell a module, or they are refused with a fault.
use Rattle.std.proofs.Common.{◌≡◌, ◌⊎◌, inl, inr, ℕ, ◌≤◌, List, [], ◌∷◌, length, Ok, Err, refl, ap, sym, ◌∙◌, arith}
use Rattle.std.proofs.lemmas.Bool.{cases_lt}
use Rattle.wasm_ops.specs.declared.faults.Fault.{Fault}
use Rattle.wasm_ops.specs.declared.faults.Refusal.TheVariants.{BadMagic, BadVersion, CountsDiffer, TooLarge}
use Rattle.wasm_ops.specs.Refusals.{fault_at}
use Rattle.wasm_ops.specs.declared.modules.Module.{Module}
use Rattle.wasm_ops.specs.Input.{Input}
use Rattle.wasm_code.specs.Bodies.{beginning}
use Rattle.wasm_code.specs.Reading.{Read}
use Rattle.wasm_code.proofs.Decisions.{Decides}
use Rattle.wasm_reader.specs.Syntax.{or_fault}
use Rattle.wasm_reader.specs.Parts.{this}
use Rattle.wasm_reader.specs.Modules.{always, opens_with, magic, version, header, at_start, complete, whole_module, most_bytes, SpellsModule, RefusesModule}
use Rattle.wasm_reader.proofs.SyntaxLaws.{IsDecidedBy, byte_decided, pure_decided, checked_decided, ◌⨾⨾◌}
use Rattle.wasm_reader.proofs.StepLaws.{to_end_decided}
use Rattle.wasm_reader.proofs.SectionLaws.{one_section_decided, one_section_takes}

opens_with_decided : (fault : Fault) (wanted : List ℕ) → IsDecidedBy (opens_with fault wanted)
opens_with_decided fault [] = pure_decided tt
opens_with_decided fault (next ∷ more) =
    checked_decided (this next) (always fault) byte_decided ⨾⨾ λ found. opens_with_decided fault more

pub header_decided : IsDecidedBy header
header_decided = opens_with_decided (fault_at BadMagic 0) magic ⨾⨾ λ begun. opens_with_decided (fault_at BadVersion 4) version

pub whole_module_decided : IsDecidedBy whole_module
whole_module_decided =
    header_decided ⨾⨾ λ begun. to_end_decided at_start one_section_decided one_section_takes ⨾⨾ λ done.
    checked_decided complete (or_fault CountsDiffer) (pure_decided done)

-- What is decided is one of the two, in one way.

not_both
    : {A : Type 0} (read : Read A) (Reads : A → Input → Type 0) (Refuses : Fault → Type 0) → Decides A read Reads Refuses
    → (x : A) (after : Input) (fault : Fault) → Reads x after → Refuses fault → ⊥
not_both read Reads Refuses one x after fault reads refuses =
    let to_value = one.only x after reads in
    let to_fault = one.only_refused fault refuses in cc

same_value
    : {A : Type 0} (read : Read A) (Reads : A → Input → Type 0) (Refuses : Fault → Type 0) → Decides A read Reads Refuses
    → (x y : A) (here there : Input) → Reads x here → Reads y there → x ≡ y
same_value {A} read Reads Refuses one x y here there reads also =
    let first = one.only x here reads in
    let second = one.only y there also in
    let same : (x, here) ≡ (y, there) = cc in ap (λ (p : A × Input). p.0) same

same_fault
    : {A : Type 0} (read : Read A) (Reads : A → Input → Type 0) (Refuses : Fault → Type 0) → Decides A read Reads Refuses
    → (f g : Fault) → Refuses f → Refuses g → f ≡ g
same_fault read Reads Refuses one f g refuses also =
    let first = one.only_refused f refuses in
    let second = one.only_refused g also in cc

-- the module at all bytes
decided
    : (bytes : List ℕ) → Decides Module (whole_module.read (beginning bytes)) (whole_module.Reads (beginning bytes)) (whole_module.Refuses (beginning bytes))
decided bytes = whole_module_decided.decides (beginning bytes)

-- The laws of modules.

abbrev IsEither : List ℕ → Type 0
IsEither bytes = ((parts : Module) × SpellsModule bytes parts) ⊎ ((fault : Fault) × RefusesModule bytes fault)

pub spelt_from
    : (bytes : List ℕ) (parts : Module) (after : Input) → length bytes ≤ most_bytes → whole_module.read (beginning bytes) ≡ Ok (parts, after)
    → SpellsModule bytes parts
spelt_from bytes parts after small e = record { after = after; small = small; spelt = (decided bytes).found parts after e }

pub refused_from
    : (bytes : List ℕ) (fault : Fault) → length bytes ≤ most_bytes → whole_module.read (beginning bytes) ≡ Err fault → RefusesModule bytes fault
refused_from bytes fault small e = inr record { small = small; refused = (decided bytes).refused fault e }

either_at : (bytes : List ℕ) (read : Read Module) → length bytes ≤ most_bytes → whole_module.read (beginning bytes) ≡ read → IsEither bytes
either_at bytes (Ok read) small e = inl (read.0, spelt_from bytes read.0 read.1 small e)
either_at bytes (Err fault) small e = inr (fault, refused_from bytes fault small e)

pub either : (bytes : List ℕ) → IsEither bytes
either bytes = elim (cases_lt most_bytes (length bytes)) [
  | inl large ↦ inr (fault_at TooLarge 0, inl record { large = large; told = refl })
  | inr small ↦ either_at bytes (whole_module.read (beginning bytes)) small refl
]

pub module_or_fault : (bytes : List ℕ) (parts : Module) (fault : Fault) → SpellsModule bytes parts → RefusesModule bytes fault → ⊥
module_or_fault bytes parts fault spells (inl many) =
    let small = spells.small in
    let large = many.large in omega arith
module_or_fault bytes parts fault spells (inr refuses) =
    not_both (whole_module.read (beginning bytes)) (whole_module.Reads (beginning bytes)) (whole_module.Refuses (beginning bytes)) (decided bytes)
    parts spells.after fault spells.spelt refuses.refused

pub one_module : (bytes : List ℕ) (x y : Module) → SpellsModule bytes x → SpellsModule bytes y → x ≡ y
one_module bytes x y one two =
    same_value (whole_module.read (beginning bytes)) (whole_module.Reads (beginning bytes)) (whole_module.Refuses (beginning bytes)) (decided bytes)
    x y one.after two.after one.spelt two.spelt

pub one_refusal : (bytes : List ℕ) (f g : Fault) → RefusesModule bytes f → RefusesModule bytes g → f ≡ g
one_refusal bytes f g (inl one) (inl two) = one.told ∙ sym two.told
one_refusal bytes f g (inl one) (inr two) =
    let small = two.small in
    let large = one.large in
    let bad : ⊥ = omega arith in absurd bad
one_refusal bytes f g (inr one) (inl two) =
    let small = one.small in
    let large = two.large in
    let bad : ⊥ = omega arith in absurd bad
one_refusal bytes f g (inr one) (inr two) =
    same_fault (whole_module.read (beginning bytes)) (whole_module.Reads (beginning bytes)) (whole_module.Refuses (beginning bytes)) (decided bytes)
    f g one.refused two.refused
