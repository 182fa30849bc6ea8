-- What stands at the front of the bytes ahead: nothing in it is refused exactly where it is the end, or a record that may come next.
use Rattle.std.proofs.Common.{◌≡◌, ◌≢◌, ℕ, zero, suc, ◌+◌, ◌^◌, ◌<◌, ◌≤◌, Bool, true, false, not, ◌&&◌, nat_le, nat_eq, ◌==◌, if◌then◌else◌, List, [], ◌∷◌, ◌++◌, length, take, drop, get_or, None, refl, sym, ap, ◌∙◌, arith}
use Rattle.std.specs.List.{AllByRecursion}
use Rattle.std.specs.Int.{w32, to_le_bytes, from_le_bytes}
use Rattle.std.proofs.lemmas.Nat.{le_bytes_4}
use Rattle.std.proofs.lemmas.Bool.{ltb-false, eqb-true}
use Rattle.std.proofs.lemmas.List.{take-append-drop, length-take, length-drop, drop-drop, get_or-drop}
use Rattle.recording_format.specs.Standing.{Standing}
use Rattle.recording_format.specs.Following.{most_connections, MayFollow}
use Rattle.recording_format.specs.Spelling.{record_spelling}
use Rattle.recording_format.specs.Looks.{kind_ahead, moment_ahead, link_ahead, number_ahead, size_ahead, record_ahead, is_in_order, Look, first_of, looks, looks_at_end, looks_at_record, refusal_ahead}
use Rattle.recording_format.specs.Recorded.{AreBytes, Fits}

-- ---- numbers

abbrev four : (a b c d : ℕ) → List ℕ
four a b c d = a ∷ b ∷ c ∷ d ∷ []

small : (a b c d : ℕ) (rest : List ℕ) → AreBytes (a ∷ b ∷ c ∷ d ∷ rest) → (i : ℕ) → get_or (four a b c d) i 0 < 256
small a b c d rest bytes zero = bytes 0
small a b c d rest bytes (suc zero) = bytes 1
small a b c d rest bytes (suc (suc zero)) = bytes 2
small a b c d rest bytes (suc (suc (suc zero))) = bytes 3
small a b c d rest bytes (suc (suc (suc (suc i)))) = omega arith

-- four bytes spell the number that they are read as
number_taken : (bytes : List ℕ) → AreBytes bytes → 4 ≤ length bytes → bytes ≡ to_le_bytes w32 (from_le_bytes w32 bytes) ++ drop 4 bytes
number_taken [] are long = absurd (omega arith)
number_taken (a ∷ []) are long = absurd (omega arith)
number_taken (a ∷ b ∷ []) are long = absurd (omega arith)
number_taken (a ∷ b ∷ c ∷ []) are long = absurd (omega arith)
number_taken (a ∷ b ∷ c ∷ d ∷ rest) are long =
    ap (λ (front : List ℕ). front ++ rest) (sym (le_bytes_4 (four a b c d) (from_le_bytes w32 (a ∷ b ∷ c ∷ d ∷ rest)) refl (small a b c d rest are) refl))

number_below : (bytes : List ℕ) → AreBytes bytes → from_le_bytes w32 bytes < 2 ^ 32
number_below bytes are = omega (arith, are 0, are 1, are 2, are 3)

pub bytes_behind : (n : ℕ) (bytes : List ℕ) → AreBytes bytes → AreBytes (drop n bytes)
bytes_behind n bytes are i = rw get_or-drop (are (n + i))

-- ---- looks

-- no look finds a fault
abbrev pub NoneFinds : List Look → Type 0
NoneFinds looks = AllByRecursion (λ look. look.0 ≡ false) looks

none_finds : (looks : List Look) → first_of looks ≡ None → NoneFinds looks
none_finds [] none = tt
none_finds ((true, why) ∷ looks) none = absurd cc
none_finds ((false, why) ∷ looks) none = (refl, none_finds looks none)

pub none_first : (looks : List Look) → NoneFinds looks → first_of looks ≡ None
none_first [] none = refl
none_first ((true, why) ∷ looks) none = absurd cc
none_first ((false, why) ∷ looks) none = none_first looks none.1

-- what the looks at a record say where none has found a fault
record Passed (tenants : ℕ) (s : Standing) (ahead : List ℕ) : Type 0 where
  head : 9 ≤ length ahead
  moment : s.last ≤ moment_ahead ahead
  order : is_in_order s.links (kind_ahead ahead) (link_ahead ahead) ≡ true
  whole : size_ahead ahead ≤ length ahead
  few : link_ahead ahead < most_connections
  known : (nat_eq (kind_ahead ahead) 1 && nat_le tenants (number_ahead ahead)) ≡ false

not_false : (b : Bool) → not b ≡ false → b ≡ true
not_false true e = refl
not_false false e = absurd cc

le_false : (m n : ℕ) → nat_le m n ≡ false → n < m
le_false m n e = grind (arith, e)

passed : (tenants : ℕ) (s : Standing) (ahead : List ℕ) → first_of (looks_at_record tenants s ahead) ≡ None → Passed tenants s ahead
passed tenants s ahead none =
    let all = none_finds (looks_at_record tenants s ahead) none in
    record {
      head = ltb-false _ _ all.0;
      moment = ltb-false _ _ all.1.0;
      order = not_false _ all.1.1.0;
      whole = ltb-false _ _ all.1.1.1.0;
      few = le_false _ _ all.1.1.1.1.0;
      known = all.1.1.1.1.1.0;
    }

-- ---- what is not refused

-- the end, alone
pub end_stands : (tenants : ℕ) (s : Standing) (ahead : List ℕ) → refusal_ahead tenants s ahead ≡ None → kind_ahead ahead ≡ 0 → ahead ≡ 0 ∷ []
end_stands tenants s [] none is = absurd cc
end_stands tenants s (zero ∷ []) none is = refl
end_stands tenants s (zero ∷ b ∷ rest) none is =
    let all = none_finds (looks tenants s (zero ∷ b ∷ rest)) none in
    let short = ltb-false _ _ all.1.1.0 in
    absurd (omega (arith, short))
end_stands tenants s (suc k ∷ rest) none is = absurd (omega (arith, is))

-- a record, which may come next
pub record Next (tenants : ℕ) (s : Standing) (ahead : List ℕ) : Type 0 where
  pub parts : ahead ≡ record_spelling (record_ahead ahead) ++ drop (size_ahead ahead) ahead
  pub whole : size_ahead ahead ≤ length ahead
  pub may : MayFollow s (record_ahead ahead)
  pub fits : Fits tenants (record_ahead ahead)

not_chosen : (b : Bool) (x y : List Look) → b ≡ false → NoneFinds (if b then x else y) → NoneFinds y
not_chosen true x y e none = absurd cc
not_chosen false x y e none = none

pub no_end : (k : ℕ) → (suc k == 0) ≡ false
no_end k = grind arith

record_passed : (tenants : ℕ) (s : Standing) (ahead : List ℕ) → refusal_ahead tenants s ahead ≡ None → kind_ahead ahead ≢ 0 → (kind_ahead ahead ≤ 3) × Passed tenants s ahead
record_passed tenants s [] none some = absurd cc
record_passed tenants s (zero ∷ rest) none some = absurd (some refl)
record_passed tenants s (suc k ∷ rest) none some =
    let all = none_finds (looks tenants s (suc k ∷ rest)) none in
    (ltb-false _ _ all.1.0, passed tenants s (suc k ∷ rest) (none_first (looks_at_record tenants s (suc k ∷ rest)) (not_chosen _ (looks_at_end (suc k ∷ rest)) (looks_at_record tenants s (suc k ∷ rest)) (no_end k) all.1.1)))

-- a number that stands at a place
field_taken : (n : ℕ) (rest : List ℕ) → AreBytes rest → n + 4 ≤ length rest → drop n rest ≡ to_le_bytes w32 (from_le_bytes w32 (drop n rest)) ++ drop (n + 4) rest
field_taken n rest are long =
    number_taken (drop n rest) (bytes_behind n rest are) (omega (arith, length-drop n rest))
    ∙ ap (λ (more : List ℕ). to_le_bytes w32 (from_le_bytes w32 (drop n rest)) ++ more) (drop-drop 4 n rest)

-- the moment and the link, and what stands behind them
head_taken : (rest : List ℕ) → AreBytes rest → 8 ≤ length rest
    → rest ≡ to_le_bytes w32 (from_le_bytes w32 rest) ++ (to_le_bytes w32 (from_le_bytes w32 (drop 4 rest)) ++ drop 8 rest)
head_taken rest are long =
    number_taken rest are (omega (arith, long))
    ∙ ap (λ (more : List ℕ). to_le_bytes w32 (from_le_bytes w32 rest) ++ more) (field_taken 4 rest are (omega (arith, long)))

abbrev headed : (rest more : List ℕ) → List ℕ
headed rest more = to_le_bytes w32 (from_le_bytes w32 rest) ++ (to_le_bytes w32 (from_le_bytes w32 (drop 4 rest)) ++ more)

begins_taken : (rest : List ℕ) → AreBytes rest → 12 ≤ length rest → rest ≡ headed rest (to_le_bytes w32 (from_le_bytes w32 (drop 8 rest)) ++ drop 12 rest)
begins_taken rest are long =
    head_taken rest are (omega (arith, long)) ∙ ap (λ (more : List ℕ). headed rest more) (field_taken 8 rest are (omega (arith, long)))

piece_taken : (rest : List ℕ) (n : ℕ) → AreBytes rest → from_le_bytes w32 (drop 8 rest) ≡ n → 12 + n ≤ length rest
    → rest ≡ headed rest (to_le_bytes w32 (length (take n (drop 12 rest))) ++ (take n (drop 12 rest) ++ drop n (drop 12 rest)))
piece_taken rest n are is long =
    let size : length (take n (drop 12 rest)) ≡ n = omega (arith, length-take n (drop 12 rest), length-drop 12 rest) in
    begins_taken rest are (omega (arith, long))
    ∙ ap (λ (more : List ℕ). headed rest (to_le_bytes w32 (from_le_bytes w32 (drop 8 rest)) ++ more)) (sym (take-append-drop n (drop 12 rest)))
    ∙ ap (λ (m : ℕ). headed rest (to_le_bytes w32 m ++ (take n (drop 12 rest) ++ drop n (drop 12 rest)))) (is ∙ sym size)

bytes_left : (byte : ℕ) (rest : List ℕ) → AreBytes (byte ∷ rest) → AreBytes rest
bytes_left byte rest are i = are (suc i)

piece_size : (rest : List ℕ) (n : ℕ) → 12 + n ≤ length rest → length (take n (drop 12 rest)) ≡ n
piece_size rest n long = omega (arith, length-take n (drop 12 rest), length-drop 12 rest)

behind_piece : (byte : ℕ) (rest : List ℕ) (n : ℕ) → drop n (drop 12 rest) ≡ drop (9 + (4 + n)) (byte ∷ rest)
behind_piece byte rest n =
    let places : suc (12 + n) ≡ 9 + (4 + n) = omega arith in
    drop-drop n 12 rest ∙ ap (λ (k : ℕ). drop k (byte ∷ rest)) places

pub next : (tenants : ℕ) (s : Standing) (ahead : List ℕ) → AreBytes ahead → refusal_ahead tenants s ahead ≡ None → kind_ahead ahead ≢ 0 → Next tenants s ahead
next tenants s [] are none some = absurd cc
next tenants s (zero ∷ rest) are none some = absurd (some refl)
next tenants s (suc zero ∷ rest) are none some =
    let p = (record_passed tenants s (suc zero ∷ rest) none some).1 in
    let left = bytes_left 1 rest are in
    record {
      parts = ap (λ (more : List ℕ). 1 ∷ more) (begins_taken rest left (omega (arith, p.whole)));
      whole = p.whole;
      may = record { moment = p.moment; link = eqb-true _ _ p.order; few = p.few };
      fits = record { moment = number_below rest left; event = le_false _ _ p.known };
    }
next tenants s (suc (suc zero) ∷ rest) are none some =
    let p = (record_passed tenants s (suc (suc zero) ∷ rest) none some).1 in
    let left = bytes_left 2 rest are in
    let n = from_le_bytes w32 (drop 8 rest) in
    let long : 12 + n ≤ length rest = omega (arith, p.whole) in
    let fits = number_below (drop 8 rest) (bytes_behind 8 rest left) in
    let piece = take n (drop 12 rest) in
    record {
      parts =
          ap (λ (more : List ℕ). 2 ∷ more) (piece_taken rest n left refl long)
          ∙ ap (λ (more : List ℕ). 2 ∷ headed rest (to_le_bytes w32 (length piece) ++ (piece ++ more))) (behind_piece 2 rest n);
      whole = p.whole;
      may = record { moment = p.moment; link = p.order; few = p.few };
      fits = record { moment = number_below rest left; event = rw (piece_size rest n long) fits };
    }
next tenants s (suc (suc (suc zero)) ∷ rest) are none some =
    let p = (record_passed tenants s (suc (suc (suc zero)) ∷ rest) none some).1 in
    let left = bytes_left 3 rest are in
    record {
      parts = ap (λ (more : List ℕ). 3 ∷ more) (head_taken rest left (omega (arith, p.whole)));
      whole = p.whole;
      may = record { moment = p.moment; link = p.order; few = p.few };
      fits = record { moment = number_below rest left; event = tt };
    }
next tenants s (suc (suc (suc (suc k))) ∷ rest) are none some =
    absurd (omega (arith, (record_passed tenants s (suc (suc (suc (suc k))) ∷ rest) none some).0))
