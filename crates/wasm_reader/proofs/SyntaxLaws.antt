-- The reader of a syntax answers what the syntax spells and refuses what it refuses: each syntax that is put together has this where its parts have it.
use Rattle.std.proofs.Common.{◌≡◌, ◌⊎◌, inl, inr, ℕ, ◌+◌, ◌<◌, ◌≤◌, List, [], ◌∷◌, ◌++◌, length, take, drop, Option, Some, None, Ok, Err, refl, ap, sym, ◌∙◌, subst, arith, length-append}
use Rattle.std.proofs.lemmas.Bool.{cases_lt, le-leb, lt-leb}
use Rattle.std.proofs.lemmas.List.{take-append-drop, length-take-le}
use Rattle.std.proofs.Math.Seq.{take-append_seam, drop-append_seam}
use Rattle.wasm_ops.specs.declared.faults.Fault.{Fault}
use Rattle.wasm_ops.specs.declared.faults.Refusal.{Refusal}
use Rattle.wasm_ops.specs.declared.numbers.Sign.{Sign}
use Rattle.wasm_ops.specs.declared.numbers.Sign.TheVariants.{Unsigned}
use Rattle.wasm_ops.specs.Refusals.{fault_at}
use Rattle.wasm_ops.specs.Input.{Input, cut_short, bytes_from, window_at}
use Rattle.wasm_ops.proofs.InputLaws.{same_input}
use Rattle.wasm_code.specs.Reading.{Read, and_then}
use Rattle.wasm_code.proofs.Decisions.{Decides, read_parts, read_same, fault_same, and_then_decides, told_decides, as_part_decides, stands_decides, byte_decides, number_decides}
use Rattle.wasm_reader.specs.Syntax.{Syntax, byte, integer, number, ReadsBytes, LacksBytes, bytes, pure, ◌⨾◌, map, known, checked, left_at, inside, up_to_end, exactly}

-- at each place the reader of the syntax answers what is spelt there, and refuses with the fault that the bytes have, and what it answers holds there
pub record IsDecidedBy {A : Type 0} (s : Syntax A) : Type 0 where
  pub decides : (before : Input) → Decides A (s.read before) (s.Reads before) (s.Refuses before)

-- Bytes and numbers.

pub byte_decided : IsDecidedBy byte
byte_decided = record { decides = byte_decides }

pub integer_decided : (sign : Sign) (bits : ℕ) → 0 < bits → IsDecidedBy (integer sign bits)
integer_decided sign bits some = record { decides = λ before. number_decides sign bits before some }

pub number_decided : IsDecidedBy number
number_decided = integer_decided Unsigned 32 (omega arith)

abbrev behind_bytes : (count : ℕ) → Input → Input
behind_bytes count before = record { at = before.at + count; left = drop count before.left; cut = before.cut }

bytes_there : (count : ℕ) (before : Input) → count ≤ length before.left → bytes_from count before ≡ Ok (take count before.left, behind_bytes count before)
bytes_there count before room = rw (le-leb count (length before.left) room) refl

bytes_lacking : (count : ℕ) (before : Input) → length before.left < count → bytes_from count before ≡ Err (cut_short before)
bytes_lacking count before fewer = rw (lt-leb count (length before.left) fewer) refl

bytes_read : (count : ℕ) (before : Input) → count ≤ length before.left → ReadsBytes count before (take count before.left) (behind_bytes count before)
bytes_read count before room =
    record { cut = sym (take-append-drop count before.left); all = length-take-le count before.left room; behind = refl; same_cut = refl }

bytes_room : (count : ℕ) (before : Input) (xs : List ℕ) (after : Input) → ReadsBytes count before xs after → count ≤ length before.left
bytes_room count before xs after reads =
    let cut = reads.cut in
    let all = reads.all in
    omega (arith, ap (λ (ys : List ℕ). length ys) cut, length-append xs after.left)

split_same
    : (whole front back : List ℕ) (count : ℕ) → whole ≡ front ++ back → length front ≡ count → (take count whole ≡ front) × (drop count whole ≡ back)
split_same whole front back count e all =
    let front_taken = take-append_seam front back in
    let back_left = drop-append_seam front back in (cc, cc)

bytes_only
    : (count : ℕ) (before : Input) (xs : List ℕ) (after : Input) → ReadsBytes count before xs after → bytes_from count before ≡ Ok (xs, after)
bytes_only count before xs after reads =
    let parts = split_same before.left xs after.left count reads.cut reads.all in
    bytes_there count before (bytes_room count before xs after reads)
    ∙ read_same (take count before.left) xs (behind_bytes count before) after parts.0 (same_input (behind_bytes count before) after (sym reads.behind) parts.1 (sym reads.same_cut))

bytes_found
    : (count : ℕ) (before : Input) (xs : List ℕ) (after : Input) → count ≤ length before.left → bytes_from count before ≡ Ok (xs, after)
    → ReadsBytes count before xs after
bytes_found count before xs after room e =
    let P : List ℕ × Input → Type 0 = λ read. ReadsBytes count before read.0 read.1 in
    let there = bytes_there count before room in
    let same : (take count before.left, behind_bytes count before) ≡ (xs, after) = cc in
    subst P same (bytes_read count before room)

pub bytes_decided : (count : ℕ) → IsDecidedBy (bytes count)
bytes_decided count =
    record {
      decides = λ before. record {
        found = λ xs after e. elim (cases_lt (length before.left) count) [
          | inl fewer ↦ let lacking = bytes_lacking count before fewer in let bad : ⊥ = cc in absurd bad
          | inr room ↦ bytes_found count before xs after room e
        ];
        only = λ xs after reads. bytes_only count before xs after reads;
        refused = λ fault e. elim (cases_lt (length before.left) count) [
          | inl fewer ↦ let lacking = bytes_lacking count before fewer in record { fewer = fewer; told = cc }
          | inr room ↦ let there = bytes_there count before room in let bad : ⊥ = cc in absurd bad
        ];
        only_refused = λ fault lacks. bytes_lacking count before lacks.fewer ∙ fault_same (cut_short before) fault (sym lacks.told);
      };
    }

-- What stands there already.

pub pure_decided : {A : Type 0} (x : A) → IsDecidedBy (pure x)
pure_decided x = record { decides = λ before. stands_decides x before }

-- One thing behind another.

infixr 10 ◌⨾⨾◌
pub ◌⨾⨾◌ : {A B : Type 0} {first : Syntax A} {next : A → Syntax B} → IsDecidedBy first → ((x : A) → IsDecidedBy (next x)) → IsDecidedBy (first ⨾ next)
◌⨾⨾◌ {A} {B} {first} {next} one other =
    record {
      decides = λ before. and_then_decides (first.read before) (λ x there. (next x).read there)
          (first.Reads before) (first.Refuses before)
          (λ x there. (next x).Reads there) (λ x there. (next x).Refuses there)
          (one.decides before) (λ x there reads. (other x).decides there);
    }

pub map_decided : {A B : Type 0} (view : A → B) {s : Syntax A} → IsDecidedBy s → IsDecidedBy (map view s)
map_decided view {s} one =
    record { decides = λ before. as_part_decides view (s.read before) (s.Reads before) (s.Refuses before) (one.decides before) }

-- What a test makes of a thing.

pub known_decides
    : {A : Type 0} (of : Option A) (fault : Fault) (there : Input)
    → Decides A (known of fault there) (λ y after. (of ≡ Some y) × (after ≡ there)) (λ f. (of ≡ None) × (f ≡ fault))
known_decides {A} (Some x) fault there =
    record {
      found = λ y after e. let parts = read_parts x y there after e in (ap (λ (v : A). Some v) parts.0, sym parts.1);
      only = λ y after reads. let is = reads.0 in let same : x ≡ y = cc in read_same x y there after same (sym reads.1);
      refused = λ f e. let bad : ⊥ = cc in absurd bad;
      only_refused = λ f refuses. let none = refuses.0 in let bad : ⊥ = cc in absurd bad;
    }
known_decides None fault there =
    record {
      found = λ y after e. let bad : ⊥ = cc in absurd bad;
      only = λ y after reads. let is = reads.0 in let bad : ⊥ = cc in absurd bad;
      refused = λ f e. (refl, cc);
      only_refused = λ f refuses. fault_same fault f (sym refuses.1);
    }

pub checked_decided
    : {A B : Type 0} (test : A → Option B) (fault : (at : ℕ) → A → Fault) {s : Syntax A} → IsDecidedBy s → IsDecidedBy (checked test fault s)
checked_decided {A} {B} test fault {s} one =
    record {
      decides = λ before.
          let next : A → Input → Read B = λ x there. known (test x) (fault before.at x) there in
          let Behind : A → Input → B → Input → Type 0 = λ x there y after. (test x ≡ Some y) × (after ≡ there) in
          let Fails : A → Input → Fault → Type 0 = λ x there f. (test x ≡ None) × (f ≡ fault before.at x) in
          let both = and_then_decides (s.read before) next (s.Reads before) (s.Refuses before) Behind Fails
          (one.decides before) (λ x there reads. known_decides (test x) (fault before.at x) there) in
          told_decides (and_then (s.read before) next)
          (λ y after. (x : A) × (there : Input) × s.Reads before x there × Behind x there y after)
          ((checked test fault s).Reads before)
          (λ f. s.Refuses before f ⊎ ((x : A) × (there : Input) × s.Reads before x there × Fails x there f))
          ((checked test fault s).Refuses before)
          both
          (λ y after reads.
          let P : Input → Type 0 = λ place. s.Reads before reads.0 place in
          (reads.0, subst P (sym reads.3.1) reads.2, reads.3.0))
          (λ y after reads. (reads.0, after, reads.1, (reads.2, refl)))
          (λ f refuses. elim refuses [ inl fails ↦ inl fails | inr tested ↦ inr (tested.0, tested.1, tested.2, tested.3.0, tested.3.1) ])
          (λ f refuses. elim refuses [ inl fails ↦ inl fails | inr tested ↦ inr (tested.0, tested.1, tested.2, (tested.3, tested.4)) ]);
    }

-- A window.

-- the same refusals, and what is read in other words
reads_decides
    : {A : Type 0} (read : Read A) (Reads Other : A → Input → Type 0) (Refuses : Fault → Type 0) → Decides A read Reads Refuses
    → ((x : A) (after : Input) → Reads x after → Other x after) → ((x : A) (after : Input) → Other x after → Reads x after)
    → Decides A read Other Refuses
reads_decides read Reads Other Refuses one to back =
    told_decides read Reads Other Refuses Refuses one to back (λ fault refuses. refuses) (λ fault refuses. refuses)

left_at_ok
    : {A : Type 0} (after : Input) (read : Read A) (x : A) (there : Input) → left_at after read ≡ Ok (x, there)
    → (end : Input) × (read ≡ Ok (x, end)) × (there ≡ after)
left_at_ok after (Ok read) x there e =
    let parts = read_parts read.0 x after there e in (read.1, read_same read.0 x read.1 read.1 parts.0 refl, sym parts.1)
left_at_ok after (Err fault) x there e = let bad : ⊥ = cc in absurd bad

left_at_err : {A : Type 0} (after : Input) (read : Read A) (fault : Fault) → left_at after read ≡ Err fault → read ≡ Err fault
left_at_err after (Ok read) fault e = let bad : ⊥ = cc in absurd bad
left_at_err after (Err f) fault e = let same : f ≡ fault = cc in fault_same f fault same

left_at_decides
    : {A : Type 0} (after : Input) (read : Read A) (Reads : A → Input → Type 0) (Refuses : Fault → Type 0) → Decides A read Reads Refuses
    → Decides A (left_at after read) (λ x there. (end : Input) × Reads x end × (there ≡ after)) Refuses
left_at_decides {A} after read Reads Refuses one =
    record {
      found = λ x there e. let parts = left_at_ok after read x there e in (parts.0, one.found x parts.0 parts.1, parts.2);
      only = λ x there reads.
          ap (λ (r : Read A). left_at after r) (one.only x reads.0 reads.1) ∙ read_same x x after there refl (sym reads.2);
      refused = λ fault e. one.refused fault (left_at_err after read fault e);
      only_refused = λ fault refuses. ap (λ (r : Read A). left_at after r) (one.only_refused fault refuses);
    }

pub inside_decided : {A : Type 0} (count : ℕ) (why : Refusal) {s : Syntax A} → IsDecidedBy s → IsDecidedBy (inside count why s)
inside_decided {A} count why {s} one =
    record {
      decides = λ before.
          let next : List ℕ → Input → Read A = λ held after. left_at after (s.read (window_at why before held)) in
          let Behind : List ℕ → Input → A → Input → Type 0 =
          λ held there x after. (end : Input) × s.Reads (window_at why before held) x end × (after ≡ there) in
          let Fails : List ℕ → Input → Fault → Type 0 = λ held there fault. s.Refuses (window_at why before held) fault in
          reads_decides (and_then (bytes_from count before) next)
          (λ x after. (held : List ℕ) × (there : Input) × ReadsBytes count before held there × Behind held there x after)
          (λ x after. (held : List ℕ) × (end : Input) × ReadsBytes count before held after × s.Reads (window_at why before held) x end)
          (λ fault. LacksBytes count before fault ⊎ ((held : List ℕ) × (there : Input) × ReadsBytes count before held there × Fails held there fault))
          (and_then_decides (bytes_from count before) next (ReadsBytes count before) (LacksBytes count before) Behind Fails
          ((bytes_decided count).decides before)
          (λ held there reads. left_at_decides there (s.read (window_at why before held))
          (s.Reads (window_at why before held)) (s.Refuses (window_at why before held)) (one.decides (window_at why before held))))
          (λ x after reads.
          let P : Input → Type 0 = λ place. ReadsBytes count before reads.0 place in
          (reads.0, reads.3.0, subst P (sym reads.3.2) reads.2, reads.3.1))
          (λ x after reads. (reads.0, after, reads.2, (reads.1, reads.3, refl)));
    }

-- Up to the end of the window.

abbrev LeavesMore : (why : Refusal) → (at : ℕ) → (left : List ℕ) → Fault → Type 0
LeavesMore why at left fault = (next : ℕ) × (rest : List ℕ) × (left ≡ next ∷ rest) × (fault ≡ fault_at why at)

up_to_end_decides
    : {A : Type 0} (why : Refusal) (x : A) (there : Input) (left : List ℕ)
    → Decides A (up_to_end why x there left) (λ y after. (y ≡ x) × (after ≡ there) × (left ≡ [])) (LeavesMore why there.at left)
up_to_end_decides why x there [] =
    record {
      found = λ y after e. let parts = read_parts x y there after e in (sym parts.0, sym parts.1, refl);
      only = λ y after reads. read_same x y there after (sym reads.0) (sym reads.1);
      refused = λ fault e. let bad : ⊥ = cc in absurd bad;
      only_refused = λ fault more. let left = more.2 in let bad : ⊥ = cc in absurd bad;
    }
up_to_end_decides why x there (next ∷ rest) =
    record {
      found = λ y after e. let bad : ⊥ = cc in absurd bad;
      only = λ y after reads. let none = reads.2 in let bad : ⊥ = cc in absurd bad;
      refused = λ fault e. (next, rest, refl, cc);
      only_refused = λ fault more. fault_same (fault_at why there.at) fault (sym more.3);
    }

pub exactly_decided : {A : Type 0} (why : Refusal) {s : Syntax A} → IsDecidedBy s → IsDecidedBy (exactly why s)
exactly_decided {A} why {s} one =
    record {
      decides = λ before.
          let next : A → Input → Read A = λ x there. up_to_end why x there there.left in
          let Behind : A → Input → A → Input → Type 0 = λ x there y after. (y ≡ x) × (after ≡ there) × (there.left ≡ []) in
          let both = and_then_decides (s.read before) next (s.Reads before) (s.Refuses before) Behind (λ x there fault. LeavesMore why there.at there.left fault)
          (one.decides before) (λ x there reads. up_to_end_decides why x there there.left) in
          told_decides (and_then (s.read before) next)
          (λ y after. (x : A) × (there : Input) × s.Reads before x there × Behind x there y after)
          ((exactly why s).Reads before)
          (λ fault. s.Refuses before fault ⊎ ((x : A) × (there : Input) × s.Reads before x there × LeavesMore why there.at there.left fault))
          ((exactly why s).Refuses before)
          both
          (λ y after reads.
          let P : A × Input → Type 0 = λ read. s.Reads before read.0 read.1 × (read.1.left ≡ []) in
          let behind = reads.3 in
          let value = behind.0 in
          let place = behind.1 in
          let same : (reads.0, reads.1) ≡ (y, after) = cc in
          subst P same (reads.2, behind.2))
          (λ x after reads. (x, after, reads.0, (refl, refl, reads.1)))
          (λ fault refuses. elim refuses [
            | inl fails ↦ inl fails
            | inr leaves ↦ inr (leaves.0, leaves.1, leaves.2, leaves.3.0, leaves.3.1, leaves.3.2, leaves.3.3)
          ])
          (λ fault refuses. elim refuses [
            | inl fails ↦ inl fails
            | inr leaves ↦ inr (leaves.0, leaves.1, leaves.2, (leaves.3, leaves.4, leaves.5, leaves.6))
          ]);
    }
