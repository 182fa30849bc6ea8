-- A reader that decides a form: it answers what is spelt, and refuses with the fault, and both both ways.
use Rattle.std.proofs.Common.{◌≡◌, ◌⊎◌, inl, inr, ℕ, ◌+◌, ◌<◌, ◌≤◌, List, [], ◌∷◌, Ok, Err, refl, ap, sym, ◌∙◌}
use Rattle.std.proofs.lemmas.Bool.{cases_lt, lt-ltb, le-ltb}
use Rattle.wasm_ops.specs.declared.faults.Fault.{Fault}
use Rattle.wasm_ops.specs.declared.faults.Refusal.{Refusal}
use Rattle.wasm_ops.specs.declared.numbers.Sign.{Sign}
use Rattle.wasm_ops.specs.Input.{Input, cut_short, byte_of, byte_from}
use Rattle.wasm_ops.specs.NumberInput.{ReadsNumber, RefusesNumber, number_from}
use Rattle.wasm_ops.proofs.InputLaws.{taken}
use Rattle.wasm_code.specs.Reading.{Read, and_then, as_part, within, ReadsByte, LacksByte}

pub record Decides (A : Type 0) (read : Read A) (Reads : A → Input → Type 0) (Refuses : Fault → Type 0) : Type 0 where
  pub found : (x : A) (after : Input) → read ≡ Ok (x, after) → Reads x after
  pub only : (x : A) (after : Input) → Reads x after → read ≡ Ok (x, after)
  pub refused : (fault : Fault) → read ≡ Err fault → Refuses fault
  pub only_refused : (fault : Fault) → Refuses fault → read ≡ Err fault

-- what was read, and where
pub read_parts : {A : Type 0} (x y : A) (here there : Input) → (let r : Read A = Ok (x, here) in r) ≡ Ok (y, there) → (x ≡ y) × (here ≡ there)
read_parts {A} x y here there e =
    let same : (x, here) ≡ (y, there) = cc in
    (ap (λ (p : A × Input). p.0) same, ap (λ (p : A × Input). p.1) same)

pub read_same : {A : Type 0} (x y : A) (here there : Input) → x ≡ y → here ≡ there → (let r : Read A = Ok (x, here) in r) ≡ Ok (y, there)
read_same {A} x y here there value place =
    ap (λ (v : A). let r : Read A = Ok (v, here) in r) value ∙ ap (λ (z : Input). let r : Read A = Ok (y, z) in r) place

pub fault_same : {A : Type 0} (f g : Fault) → f ≡ g → (let r : Read A = Err f in r) ≡ Err g
fault_same {A} f g e = ap (λ (h : Fault). let r : Read A = Err h in r) e

-- One thing behind another.

pub and_then_ok
    : {A B : Type 0} (first : Read A) (next : A → Input → Read B) (y : B) (after : Input) → and_then first next ≡ Ok (y, after)
    → (x : A) × (there : Input) × (first ≡ Ok (x, there)) × (next x there ≡ Ok (y, after))
and_then_ok (Ok read) next y after e = (read.0, read.1, refl, e)
and_then_ok (Err fault) next y after e = let bad : ⊥ = cc in absurd bad

pub and_then_err
    : {A B : Type 0} (first : Read A) (next : A → Input → Read B) (fault : Fault) → and_then first next ≡ Err fault
    → (first ≡ Err fault) ⊎ ((x : A) × (there : Input) × (first ≡ Ok (x, there)) × (next x there ≡ Err fault))
and_then_err (Ok read) next fault e = inr (read.0, read.1, refl, e)
and_then_err (Err f) next fault e = let same : f ≡ fault = cc in inl (fault_same f fault same)

pub and_then_at
    : {A B : Type 0} (first : Read A) (next : A → Input → Read B) (x : A) (there : Input) → first ≡ Ok (x, there) → and_then first next ≡ next x there
and_then_at {A} first next x there e = ap (λ (r : Read A). and_then r next) e

pub and_then_decides
    : {A B : Type 0} (first : Read A) (next : A → Input → Read B)
    (Reads : A → Input → Type 0) (Refuses : Fault → Type 0) (Behind : A → Input → B → Input → Type 0) (Fails : A → Input → Fault → Type 0)
    → Decides A first Reads Refuses → ((x : A) (there : Input) → Reads x there → Decides B (next x there) (Behind x there) (Fails x there))
    → Decides B (and_then first next)
    (λ y after. (x : A) × (there : Input) × Reads x there × Behind x there y after)
    (λ fault. Refuses fault ⊎ ((x : A) × (there : Input) × Reads x there × Fails x there fault))
and_then_decides {A} {B} first next Reads Refuses Behind Fails one other =
    record {
      found = λ y after e.
          let parts = and_then_ok first next y after e in
          let reads = one.found parts.0 parts.1 parts.2 in
          (parts.0, parts.1, reads, (other parts.0 parts.1 reads).found y after parts.3);
      only = λ y after reads.
          and_then_at first next reads.0 reads.1 (one.only reads.0 reads.1 reads.2) ∙ (other reads.0 reads.1 reads.2).only y after reads.3;
      refused = λ fault e. elim (and_then_err first next fault e) [
        | inl fails ↦ inl (one.refused fault fails)
        | inr parts ↦
            let reads = one.found parts.0 parts.1 parts.2 in
            inr (parts.0, parts.1, reads, (other parts.0 parts.1 reads).refused fault parts.3)
      ];
      only_refused = λ fault refuses. elim refuses [
        | inl fails ↦ ap (λ (r : Read A). and_then r next) (one.only_refused fault fails)
        | inr parts ↦
            and_then_at first next parts.0 parts.1 (one.only parts.0 parts.1 parts.2)
            ∙ (other parts.0 parts.1 parts.2).only_refused fault parts.3
      ];
    }

-- the same, where what is read and what is refused are told in other words
pub told_decides
    : {A : Type 0} (read : Read A) (Reads Other : A → Input → Type 0) (Refuses Fails : Fault → Type 0) → Decides A read Reads Refuses
    → ((x : A) (after : Input) → Reads x after → Other x after) → ((x : A) (after : Input) → Other x after → Reads x after)
    → ((fault : Fault) → Refuses fault → Fails fault) → ((fault : Fault) → Fails fault → Refuses fault)
    → Decides A read Other Fails
told_decides read Reads Other Refuses Fails one to back fails refuses =
    record {
      found = λ x after e. to x after (one.found x after e);
      only = λ x after reads. one.only x after (back x after reads);
      refused = λ fault e. fails fault (one.refused fault e);
      only_refused = λ fault f. one.only_refused fault (refuses fault f);
    }

-- A part of something else.

as_part_ok
    : {A B : Type 0} (view : A → B) (read : Read A) (y : B) (after : Input) → as_part view read ≡ Ok (y, after)
    → (x : A) × (read ≡ Ok (x, after)) × (y ≡ view x)
as_part_ok {A} view (Ok read) y after e =
    let parts = read_parts (view read.0) y read.1 after e in (read.0, read_same read.0 read.0 read.1 after refl parts.1, sym parts.0)
as_part_ok view (Err fault) y after e = let bad : ⊥ = cc in absurd bad

as_part_err : {A B : Type 0} (view : A → B) (read : Read A) (fault : Fault) → as_part view read ≡ Err fault → read ≡ Err fault
as_part_err view (Ok read) fault e = let bad : ⊥ = cc in absurd bad
as_part_err view (Err f) fault e = let same : f ≡ fault = cc in fault_same f fault same

pub as_part_decides
    : {A B : Type 0} (view : A → B) (read : Read A) (Reads : A → Input → Type 0) (Refuses : Fault → Type 0)
    → Decides A read Reads Refuses → Decides B (as_part view read) (λ y after. (x : A) × Reads x after × (y ≡ view x)) Refuses
as_part_decides {A} {B} view read Reads Refuses one =
    record {
      found = λ y after e. let parts = as_part_ok view read y after e in (parts.0, one.found parts.0 after parts.1, parts.2);
      only = λ y after reads.
          ap (λ (r : Read A). as_part view r) (one.only reads.0 after reads.1)
          ∙ read_same (view reads.0) y after after (sym reads.2) refl;
      refused = λ fault e. one.refused fault (as_part_err view read fault e);
      only_refused = λ fault refuses. ap (λ (r : Read A). as_part view r) (one.only_refused fault refuses);
    }

-- A limit.

within_over : {A : Type 0} (limit number : ℕ) (fault : Fault) (read : Read A) → limit < number → within limit number fault read ≡ Err fault
within_over limit number fault read over = rw (lt-ltb limit number over) refl

within_under : {A : Type 0} (limit number : ℕ) (fault : Fault) (read : Read A) → number ≤ limit → within limit number fault read ≡ read
within_under limit number fault read under = rw (le-ltb limit number under) refl

pub within_decides
    : {A : Type 0} (limit number : ℕ) (over : Fault) (read : Read A) (Reads : A → Input → Type 0) (Refuses : Fault → Type 0)
    → Decides A read Reads Refuses
    → Decides A (within limit number over read) (λ x after. (number ≤ limit) × Reads x after)
    (λ fault. ((limit < number) × (fault ≡ over)) ⊎ ((number ≤ limit) × Refuses fault))
within_decides {A} limit number over read Reads Refuses one =
    record {
      found = λ x after e. elim (cases_lt limit number) [
        | inl above ↦ let fails = within_over limit number over read above in let bad : ⊥ = cc in absurd bad
        | inr under ↦ (under, one.found x after (sym (within_under limit number over read under) ∙ e))
      ];
      only = λ x after reads. within_under limit number over read reads.0 ∙ one.only x after reads.1;
      refused = λ fault e. elim (cases_lt limit number) [
        | inl above ↦ let fails = within_over limit number over read above in inl (above, cc)
        | inr under ↦ inr (under, one.refused fault (sym (within_under limit number over read under) ∙ e))
      ];
      only_refused = λ fault refuses. elim refuses [
        | inl above ↦ within_over limit number over read above.0 ∙ fault_same over fault (sym above.1)
        | inr under ↦ within_under limit number over read under.0 ∙ one.only_refused fault under.1
      ];
    }

-- Something that stands there already, and something that is refused anyway.

pub stands_decides
    : {A : Type 0} (x : A) (here : Input)
    → Decides A (Ok (x, here)) (λ y after. (y ≡ x) × (after ≡ here)) (λ fault. ⊥)
stands_decides x here =
    record {
      found = λ y after e. let parts = read_parts x y here after e in (sym parts.0, sym parts.1);
      only = λ y after reads. read_same x y here after (sym reads.0) (sym reads.1);
      refused = λ fault e. cc;
      only_refused = λ fault refuses. absurd refuses;
    }

pub fails_decides : {A : Type 0} (over : Fault) → Decides A (Err over) (λ x after. ⊥) (λ fault. fault ≡ over)
fails_decides over =
    record {
      found = λ x after e. cc;
      only = λ x after reads. absurd reads;
      refused = λ fault e. cc;
      only_refused = λ fault refuses. fault_same over fault (sym refuses);
    }

-- Bytes and numbers.

byte_at
    : (at : ℕ) (left : List ℕ) (cut : Refusal)
    → (let here : Input = record { at = at; left = left; cut = cut } in Decides ℕ (byte_of at left cut) (ReadsByte here) (LacksByte here))
byte_at at [] cut =
    record {
      found = λ x after e. let bad : ⊥ = cc in absurd bad;
      only = λ x after reads. let next = reads.next in let bad : ⊥ = cc in absurd bad;
      refused = λ fault e. record { ended = refl; told = cc };
      only_refused = λ fault lacks. fault_same (cut_short (record { at = at; left = []; cut = cut })) fault (sym lacks.told);
    }
byte_at at (byte ∷ left) cut =
    let there : Input = record { at = at + 1; left = left; cut = cut } in
    record {
      found = λ x after e.
          let parts = read_parts byte x there after e in
          let lefts = ap (λ (z : Input). z.left) parts.1 in
          let ats = ap (λ (z : Input). z.at) parts.1 in
          let cuts = ap (λ (z : Input). z.cut) parts.1 in
          let same = parts.0 in
          record { next = cc; behind = sym ats; same_cut = sym cuts };
      only = λ x after reads.
          let next = reads.next in
          let value : byte ≡ x = cc in
          let lefts : left ≡ after.left = cc in
          let moved : ℕ → Input = λ n. record { at = n; left = left; cut = cut } in
          let rest : List ℕ → Input = λ xs. record { at = after.at; left = xs; cut = cut } in
          let with_cut : Refusal → Input = λ why. record { at = after.at; left = after.left; cut = why } in
          read_same byte x there after value (ap moved (sym reads.behind) ∙ ap rest lefts ∙ ap with_cut (sym reads.same_cut));
      refused = λ fault e. let bad : ⊥ = cc in absurd bad;
      only_refused = λ fault lacks. let ended = lacks.ended in let bad : ⊥ = cc in absurd bad;
    }

pub byte_decides : (before : Input) → Decides ℕ (byte_from before) (ReadsByte before) (LacksByte before)
byte_decides before = byte_at before.at before.left before.cut

number_only
    : (sign : Sign) (bits : ℕ) (before : Input) (x : ℕ) (after : Input) (read : Read ℕ) → 0 < bits → number_from sign bits before ≡ read
    → ReadsNumber sign bits before x after → number_from sign bits before ≡ Ok (x, after)
number_only sign bits before x after (Ok p) some e reads =
    let same = (taken sign bits (Ok p.0) before p.1 some e).only x after reads in
    let first = same.0 in
    let value : p.0 ≡ x = cc in
    e ∙ read_same p.0 x p.1 after value same.1
number_only sign bits before x after (Err f) some e reads =
    let same = (taken sign bits (Err f) before before some (e, refl)).only x after reads in
    let first = same.0 in
    let bad : ⊥ = cc in absurd bad

number_fails
    : (sign : Sign) (bits : ℕ) (before : Input) (fault : Fault) (read : Read ℕ) → 0 < bits → number_from sign bits before ≡ read
    → RefusesNumber sign bits before fault → number_from sign bits before ≡ Err fault
number_fails sign bits before fault (Ok p) some e refuses =
    let same = (taken sign bits (Ok p.0) before p.1 some e).only_refused fault refuses in
    let bad : ⊥ = cc in absurd bad
number_fails sign bits before fault (Err f) some e refuses =
    let same = (taken sign bits (Err f) before before some (e, refl)).only_refused fault refuses in
    let told : f ≡ fault = cc in
    e ∙ fault_same f fault told

pub number_decides
    : (sign : Sign) (bits : ℕ) (before : Input) → 0 < bits → Decides ℕ (number_from sign bits before) (ReadsNumber sign bits before) (RefusesNumber sign bits before)
number_decides sign bits before some =
    record {
      found = λ x after e. (taken sign bits (Ok x) before after some e).found;
      only = λ x after reads. number_only sign bits before x after (number_from sign bits before) some refl reads;
      refused = λ fault e. (taken sign bits (Err fault) before before some (e, refl)).refused;
      only_refused = λ fault refuses. number_fails sign bits before fault (number_from sign bits before) some refl refuses;
    }
