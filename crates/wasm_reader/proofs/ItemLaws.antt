-- Items one behind another, and vectors, are read as the syntax has them.
use Rattle.std.proofs.Common.{◌≡◌, ◌⊎◌, inl, inr, ℕ, suc, zero, ◌<◌, List, [], ◌∷◌, ◌++◌, length, refl, ap, sym, ◌∙◌, subst, arith, append_assoc, append-nil}
use Rattle.wasm_ops.specs.declared.faults.Fault.{Fault}
use Rattle.wasm_ops.specs.declared.faults.Refusal.TheVariants.{TooLarge}
use Rattle.wasm_ops.specs.Input.{Input}
use Rattle.wasm_code.proofs.Decisions.{Decides, and_then_decides, told_decides, stands_decides}
use Rattle.wasm_reader.specs.Syntax.{Syntax, ReadsItems, items_from, items, within_limit, limited, vector, vector_within, or_fault}
use Rattle.wasm_reader.proofs.SyntaxLaws.{IsDecidedBy, number_decided, checked_decided, ◌⨾⨾◌}

-- so many more items behind those so far
abbrev pub AddsItems
    : {A : Type 0} → (count : ℕ) → (item : List A → Syntax A) → (so_far : List A) → (before : Input) → (all : List A) → (after : Input) → Type 0
AddsItems {A} count item so_far before all after =
    (more : List A) × (all ≡ so_far ++ more) × (length more ≡ count) × ReadsItems item so_far more before after

-- one of so many more items is refused
abbrev pub RefusesItems : {A : Type 0} → (count : ℕ) → (item : List A → Syntax A) → (so_far : List A) → (before : Input) → (fault : Fault) → Type 0
RefusesItems {A} count item so_far before fault =
    (more : List A) × (there : Input) × (length more < count) × ReadsItems item so_far more before there × (item (so_far ++ more)).Refuses there fault

-- the next item, and the others behind it

abbrev AddsFirst
    : {A : Type 0} → (count : ℕ) → (item : List A → Syntax A) → (so_far : List A) → (before : Input) → (all : List A) → (after : Input) → Type 0
AddsFirst {A} count item so_far before all after =
    (x : A) × (there : Input) × (item so_far).Reads before x there × AddsItems count item (so_far ++ x ∷ []) there all after

abbrev RefusesFirst : {A : Type 0} → (count : ℕ) → (item : List A → Syntax A) → (so_far : List A) → (before : Input) → (fault : Fault) → Type 0
RefusesFirst {A} count item so_far before fault =
    (item so_far).Refuses before fault
    ⊎ ((x : A) × (there : Input) × (item so_far).Reads before x there × RefusesItems count item (so_far ++ x ∷ []) there fault)

more_items
    : {A : Type 0} (count : ℕ) (item : List A → Syntax A) (so_far : List A) (before : Input) (all : List A) (after : Input)
    → AddsFirst count item so_far before all after → AddsItems (suc count) item so_far before all after
more_items count item so_far before all after adds =
    let x = adds.0 in
    let behind = adds.3 in
    let regroup = append_assoc so_far (x ∷ []) behind.0 in
    (x ∷ behind.0, behind.1 ∙ regroup, ap suc behind.2, (adds.1, adds.2, behind.3))

first_item
    : {A : Type 0} (count : ℕ) (item : List A → Syntax A) (so_far : List A) (before : Input) (all : List A) (after : Input)
    (more : List A) → all ≡ so_far ++ more → length more ≡ suc count → ReadsItems item so_far more before after
    → AddsFirst count item so_far before all after
first_item count item so_far before all after [] e many reads = let bad : ⊥ = omega arith in absurd bad
first_item count item so_far before all after (x ∷ more) e many reads =
    let regroup = append_assoc so_far (x ∷ []) more in
    (x, reads.0, reads.1, (more, e ∙ sym regroup, omega arith, reads.2))

refuses_more
    : {A : Type 0} (count : ℕ) (item : List A → Syntax A) (so_far : List A) (before : Input) (fault : Fault)
    → RefusesFirst count item so_far before fault → RefusesItems (suc count) item so_far before fault
refuses_more {A} count item so_far before fault (inl refuses) =
    let P : List A → Type 0 = λ xs. (item xs).Refuses before fault in
    ([], before, omega arith, refl, subst P (sym (append-nil so_far)) refuses)
refuses_more {A} count item so_far before fault (inr refuses) =
    let x = refuses.0 in
    let behind = refuses.3 in
    let fewer = behind.2 in
    let P : List A → Type 0 = λ xs. (item xs).Refuses behind.1 fault in (
      x ∷ behind.0,
      behind.1,
      omega arith,
      (refuses.1, refuses.2, behind.3),
      subst P (append_assoc so_far (x ∷ []) behind.0) behind.4,
    )

refuses_first
    : {A : Type 0} (count : ℕ) (item : List A → Syntax A) (so_far : List A) (before : Input) (fault : Fault)
    (more : List A) (there : Input) → length more < suc count → ReadsItems item so_far more before there → (item (so_far ++ more)).Refuses there fault
    → RefusesFirst count item so_far before fault
refuses_first {A} count item so_far before fault [] there fewer reads refuses =
    let P : List A → Input → Type 0 = λ xs place. (item xs).Refuses place fault in
    let at_place : Input → Type 0 = P so_far in
    let behind : List A → Type 0 = λ xs. P xs there in
    inl (subst at_place reads (subst behind (append-nil so_far) refuses))
refuses_first {A} count item so_far before fault (x ∷ more) there fewer reads refuses =
    let P : List A → Type 0 = λ xs. (item xs).Refuses there fault in
    inr (x, reads.0, reads.1, (more, there, omega arith, reads.2, subst P (sym (append_assoc so_far (x ∷ []) more)) refuses))

no_items
    : {A : Type 0} (item : List A → Syntax A) (so_far : List A) (before : Input) (all : List A) (after : Input)
    (more : List A) → all ≡ so_far ++ more → length more ≡ zero → ReadsItems item so_far more before after → (all ≡ so_far) × (after ≡ before)
no_items item so_far before all after [] e none reads = (e ∙ append-nil so_far, reads)
no_items item so_far before all after (x ∷ more) e none reads = let bad : ⊥ = omega arith in absurd bad

pub items_from_decides
    : {A : Type 0} (count : ℕ) (item : List A → Syntax A) (so_far : List A) (before : Input) → ((xs : List A) → IsDecidedBy (item xs))
    → Decides (List A) (items_from count item so_far before) (AddsItems count item so_far before) (RefusesItems count item so_far before)
items_from_decides {A} zero item so_far before each =
    told_decides (items_from zero item so_far before)
    (λ all after. (all ≡ so_far) × (after ≡ before)) (AddsItems zero item so_far before) (λ fault. ⊥) (RefusesItems zero item so_far before)
    (stands_decides so_far before)
    (λ all after is. ([], is.0 ∙ sym (append-nil so_far), refl, is.1))
    (λ all after adds. no_items item so_far before all after adds.0 adds.1 adds.2 adds.3)
    (λ fault none. absurd none)
    (λ fault refuses. let fewer = refuses.2 in let bad : ⊥ = omega arith in bad)
items_from_decides {A} (suc count) item so_far before each =
    told_decides (items_from (suc count) item so_far before)
    (AddsFirst count item so_far before) (AddsItems (suc count) item so_far before)
    (RefusesFirst count item so_far before) (RefusesItems (suc count) item so_far before)
    (and_then_decides ((item so_far).read before) (λ x there. items_from count item (so_far ++ x ∷ []) there)
    ((item so_far).Reads before) ((item so_far).Refuses before)
    (λ x there. AddsItems count item (so_far ++ x ∷ []) there)
    (λ x there. RefusesItems count item (so_far ++ x ∷ []) there)
    ((each so_far).decides before) (λ x there reads. items_from_decides count item (so_far ++ x ∷ []) there each))
    (more_items count item so_far before)
    (λ all after adds. first_item count item so_far before all after adds.0 adds.1 adds.2 adds.3)
    (refuses_more count item so_far before)
    (λ fault refuses. refuses_first count item so_far before fault refuses.0 refuses.1 refuses.2 refuses.3 refuses.4)

pub items_decided
    : {A : Type 0} (count : ℕ) {item : List A → Syntax A} → ((xs : List A) → IsDecidedBy (item xs)) → IsDecidedBy (items count item)
items_decided {A} count {item} each =
    record {
      decides = λ before.
          told_decides (items_from count item [] before)
          (AddsItems count item [] before) ((items count item).Reads before)
          (RefusesItems count item [] before) ((items count item).Refuses before)
          (items_from_decides count item [] before each)
          (λ all after adds.
          let P : List A → Type 0 = λ xs. (length xs ≡ count) × ReadsItems item [] xs before after in
          subst P (sym adds.1) (adds.2, adds.3))
          (λ all after reads. (all, refl, reads.0, reads.1))
          (λ fault refuses. refuses)
          (λ fault refuses. refuses);
    }

-- Vectors.

pub limited_decided : (before most : ℕ) → IsDecidedBy (limited before most)
limited_decided before most = checked_decided (within_limit before most) (or_fault TooLarge) number_decided

pub vector_decided : {A : Type 0} {item : Syntax A} → IsDecidedBy item → IsDecidedBy (vector item)
vector_decided one = number_decided ⨾⨾ λ count. items_decided count (λ so_far. one)

pub vector_within_decided : {A : Type 0} (before most : ℕ) {item : Syntax A} → IsDecidedBy item → IsDecidedBy (vector_within before most item)
vector_within_decided before most one = limited_decided before most ⨾⨾ λ count. items_decided count (λ so_far. one)
