-- What is known of what a syntax spells, where bytes lie ahead: each syntax that is put together has it from its parts.
use Rattle.std.proofs.Common.{◌≡◌, ℕ, ◌+◌, ◌^◌, ◌<◌, ◌≤◌, Bool, true, false, if◌then◌else◌, nat_lt, List, [], ◌∷◌, ◌++◌, length, Option, Some, None, refl, ap, sym, subst, arith, length-append}
use Rattle.std.proofs.lemmas.Bool.{ltb-false}
use Rattle.std.specs.List.{AllByRecursion}
use Rattle.wasm_ops.specs.declared.faults.Fault.{Fault}
use Rattle.wasm_ops.specs.declared.faults.Refusal.TheVariants.{TooLarge}
use Rattle.wasm_ops.specs.declared.numbers.Sign.{Sign}
use Rattle.wasm_ops.specs.declared.numbers.Sign.TheVariants.{Unsigned}
use Rattle.wasm_ops.specs.Bytes.{AreBytes}
use Rattle.wasm_ops.specs.Input.{Input}
use Rattle.wasm_ops.proofs.ByteLaws.{spelt_below, spelt_bytes}
use Rattle.wasm_ops.proofs.InputLaws.{spelt-shorter}
use Rattle.wasm_code.specs.Reading.{ReadsByte}
use Rattle.wasm_reader.specs.Syntax.{Syntax, byte, integer, number, bytes, pure, ◌⨾◌, map, checked, or_fault, ReadsItems, items, within_limit, limited, vector_of, vector, vector_within}

-- both parts of a list

all_front : {X : Type 0} (P : X → Type 0) (xs ys : List X) → AllByRecursion P (xs ++ ys) → AllByRecursion P xs
all_front P [] ys all = tt
all_front P (x ∷ xs) ys all = (all.0, all_front P xs ys all.1)

all_behind : {X : Type 0} (P : X → Type 0) (xs ys : List X) → AllByRecursion P (xs ++ ys) → AllByRecursion P ys
all_behind P [] ys all = all
all_behind P (x ∷ xs) ys all = all_behind P xs ys all.1

-- bytes lie ahead, and no more of them than 32 bits count
pub record HasBytes (before : Input) : Type 0 where
  pub are : AreBytes before.left
  pub few : length before.left < 2 ^ 32

pub record Yields {A : Type 0} (s : Syntax A) (P : A → Type 0) : Type 0 where
  pub yields : (before : Input) (x : A) (after : Input) → HasBytes before → s.Reads before x after → P x × HasBytes after

-- whatever it is
abbrev pub Anything : {A : Type 0} → A → Type 0
Anything x = Unit {0}

pub byte_taken : (before : Input) (b : ℕ) (after : Input) → HasBytes before → ReadsByte before b after → HasBytes after
byte_taken before b after has reads =
    let all : AreBytes (b ∷ after.left) = subst AreBytes reads.next has.are in
    let lengths = ap (λ (xs : List ℕ). length xs) reads.next in
    let few = has.few in
    record { are = all.1; few = omega arith }

pub byte_yields : Yields byte Anything
byte_yields = record { yields = λ before b after has reads. (tt, byte_taken before b after has reads) }

pub integer_yields : (sign : Sign) (bits : ℕ) → Yields (integer sign bits) (λ n. n < 2 ^ bits)
integer_yields sign bits =
    record {
      yields = λ before n after has reads.
          let shorter = spelt-shorter sign bits before.left n after.left reads.spelt in
          let few = has.few in (
            spelt_below sign bits before.left n after.left has.are reads.spelt,
            record { are = spelt_bytes sign bits before.left n after.left has.are reads.spelt; few = omega arith },
          );
    }

pub number_yields : Yields number (λ n. n < 2 ^ 32)
number_yields = integer_yields Unsigned 32

-- bytes, of which there are no more than lay ahead
pub front_taken
    : (before : Input) (front : List ℕ) (after : Input) → HasBytes before → before.left ≡ front ++ after.left
    → AreBytes front × (length front < 2 ^ 32) × HasBytes after
front_taken before front after has cut =
    let all : AreBytes (front ++ after.left) = subst AreBytes cut has.are in
    let lengths = ap (λ (xs : List ℕ). length xs) cut in
    let parts = length-append front after.left in
    let few = has.few in (
      all_front (λ b. b < 2 ^ 8) front after.left all,
      omega arith,
      record { are = all_behind (λ b. b < 2 ^ 8) front after.left all; few = omega arith },
    )

pub bytes_yields : (count : ℕ) → Yields (bytes count) (λ xs. length xs < 2 ^ 32)
bytes_yields count =
    record {
      yields = λ before xs after has reads. let parts = front_taken before xs after has reads.cut in (parts.1, parts.2);
    }

pub pure_yields : {A : Type 0} (P : A → Type 0) (x : A) → P x → Yields (pure x) P
pure_yields P x holds = record { yields = λ before y after has reads. (subst P (sym reads.0) holds, subst HasBytes (sym reads.1) has) }

pub then_yields
    : {A B : Type 0} {first : Syntax A} {next : A → Syntax B} {P : A → Type 0} {Q : B → Type 0}
    → Yields first P → ((x : A) → P x → Yields (next x) Q) → Yields (first ⨾ next) Q
then_yields one other =
    record {
      yields = λ before y after has reads.
          let first = one.yields before reads.0 reads.1 has reads.2 in
          (other reads.0 first.0).yields reads.1 y after first.1 reads.3;
    }

pub map_yields
    : {A B : Type 0} (view : A → B) {s : Syntax A} {P : A → Type 0} (Q : B → Type 0) → Yields s P → ((x : A) → P x → Q (view x)) → Yields (map view s) Q
map_yields view Q one holds =
    record {
      yields = λ before y after has reads.
          let first = one.yields before reads.0 after has reads.1 in
          (subst Q (sym reads.2) (holds reads.0 first.0), first.1);
    }

pub checked_yields
    : {A B : Type 0} (test : A → Option B) (fault : (at : ℕ) → A → Fault) {s : Syntax A} {P : A → Type 0} (Q : B → Type 0)
    → Yields s P → ((x : A) (y : B) → P x → test x ≡ Some y → Q y) → Yields (checked test fault s) Q
checked_yields test fault Q one holds =
    record {
      yields = λ before y after has reads.
          let first = one.yields before reads.0 after has reads.1 in
          (holds reads.0 y first.0 reads.2, first.1);
    }

-- Things one behind another.

items_read
    : {A : Type 0} (item : List A → Syntax A) (P : A → Type 0) (so_far more : List A) (before after : Input) → ((xs : List A) → Yields (item xs) P)
    → HasBytes before → ReadsItems item so_far more before after → AllByRecursion P more × HasBytes after
items_read item P so_far [] before after each has reads = (tt, subst HasBytes (sym reads) has)
items_read item P so_far (x ∷ more) before after each has reads =
    let first = (each so_far).yields before x reads.0 has reads.1 in
    let others = items_read item P (so_far ++ x ∷ []) more reads.0 after each first.1 reads.2 in
    ((first.0, others.0), others.1)

pub items_yields
    : {A : Type 0} (count : ℕ) {item : List A → Syntax A} {P : A → Type 0} → ((xs : List A) → Yields (item xs) P)
    → Yields (items count item) (λ xs. AllByRecursion P xs × (length xs ≡ count))
items_yields count {item} {P} each =
    record {
      yields = λ before xs after has reads.
          let all = items_read item P [] xs before after each has reads.1 in
          ((all.0, reads.0), all.1);
    }

-- Vectors.

within_chosen
    : (before most count found : ℕ) (above : Bool) → nat_lt most (before + count) ≡ above → (if above then None else Some count) ≡ Some found
    → before + found ≤ most
within_chosen before most count found true e is = let bad : ⊥ = cc in absurd bad
within_chosen before most count found false e is =
    let few = ltb-false most (before + count) e in
    let same : count ≡ found = cc in omega arith

pub limited_yields : (before most : ℕ) → Yields (limited before most) (λ count. before + count ≤ most)
limited_yields before most =
    checked_yields (within_limit before most) (or_fault TooLarge) (λ count. before + count ≤ most) number_yields
    (λ count found fits is. within_chosen before most count found (nat_lt most (before + count)) refl is)

pub vector_of_yields
    : {A : Type 0} {counted : Syntax ℕ} {item : List A → Syntax A} (C : ℕ → Type 0) (P : A → Type 0) → Yields counted C → ((xs : List A) → Yields (item xs) P)
    → Yields (vector_of counted item) (λ xs. AllByRecursion P xs × C (length xs))
vector_of_yields C P count each =
    then_yields count (λ n holds.
    let all = items_yields n each in
    record {
      yields = λ before xs after has reads.
          let found = all.yields before xs after has reads in
          ((found.0.0, subst C (sym found.0.1) holds), found.1);
    })

-- so many of them as 32 bits count
abbrev pub IsCounted : ℕ → Type 0
IsCounted n = n < 2 ^ 32

pub vector_yields : {A : Type 0} {item : Syntax A} (P : A → Type 0) → Yields item P → Yields (vector item) (λ xs. AllByRecursion P xs × IsCounted (length xs))
vector_yields P one = vector_of_yields IsCounted P number_yields (λ so_far. one)

pub vector_within_yields
    : {A : Type 0} {item : Syntax A} (before most : ℕ) (P : A → Type 0) → Yields item P
    → Yields (vector_within before most item) (λ xs. AllByRecursion P xs × (before + length xs ≤ most))
vector_within_yields before most P one = vector_of_yields (λ n. before + n ≤ most) P (limited_yields before most) (λ so_far. one)
