-- The recording that bytes are, as a function, is the one that they spell, or the refusal that they have.
use Rattle.std.proofs.Common.{◌≡◌, ◌≢◌, ◌⊎◌, inl, inr, ℕ, zero, suc, ◌+◌, ◌^◌, ◌<◌, ◌≤◌, ◌==◌, Bool, true, false, cond, if◌then◌else◌, nat_lt, List, [], ◌∷◌, ◌++◌, length, take, drop, Option, None, Some, Result, Ok, Err, refl, sym, ap, subst, ◌∙◌, arith, append_assoc, length-append}
use Rattle.std.specs.Cmp.Lexicographic.{same_text}
use Rattle.std.specs.List.{AllByRecursion, flat_map}
use Rattle.std.specs.Str.{bytes_eq}
use Rattle.std.proofs.lemmas.List.{length-drop, take-append-drop}
use Rattle.std.proofs.lemmas.List.Concat.{flat_map-cons}
use Rattle.recording_format.proofs.AheadLaws.{Next, bytes_behind, end_stands, next, no_end}
use Rattle.recording_format.proofs.SpeltLaws.{Again, again}
use Rattle.recording_format.specs.Following.{Follow, MayFollow}
use Rattle.recording_format.specs.Looks.{kind_ahead, record_ahead, refusal_ahead, size_ahead}
use Rattle.recording_format.specs.Recorded.{AreBytes, Fits, IsRefused, IsRefusedBehind, Recorded, most_bytes}
use Rattle.recording_format.specs.Spelling.{magic, record_spelling}
use Rattle.recording_format.specs.Standing.{Standing, beginning, behind, behind_all, standing_behind}
use Rattle.recording_format.specs.declared.records.Record.{Record}
use Rattle.recording_format.specs.declared.refusals.Refusal.{Refusal}
use Rattle.recording_format.specs.declared.refusals.Refusal.TheVariants.{BadMagic, TooLarge}
use Rattle.commands.proofs.Checks.{fits_limit, is_long, is_short}
use Rattle.commands.specs.Recordings.{recording_of, records_ahead, unless_refused, with_record}

-- ---- records that stand ahead are read

abbrev with_all : List Record → Result (List Record) Refusal → Result (List Record) Refusal
with_all [] rest = rest
with_all (r ∷ rs) rest = with_record r (with_all rs rest)

all_ok : (rs : List Record) → with_all rs (Ok []) ≡ Ok rs
all_ok [] = refl
all_ok (r ∷ rs) = ap (with_record r) (all_ok rs)

all_err : (rs : List Record) (why : Refusal) → with_all rs (Err why) ≡ Err why
all_err [] why = refl
all_err (r ∷ rs) why = ap (with_record r) (all_err rs why)

not_zero : (n : ℕ) → n ≢ 0 → (n == 0) ≡ false
not_zero zero some = absurd (some refl)
not_zero (suc n) some = no_end n

abbrev read_on : (steps tenants : ℕ) → Standing → List ℕ → Result (List Record) Refusal
read_on steps tenants s ahead = with_record (record_ahead ahead) (records_ahead steps tenants (behind s (record_ahead ahead)) (drop (size_ahead ahead) ahead))

-- nothing is refused, and the end does not stand there
reads_one : (steps tenants : ℕ) (s : Standing) (ahead : List ℕ) → refusal_ahead tenants s ahead ≡ None → kind_ahead ahead ≢ 0 → records_ahead (suc steps) tenants s ahead ≡ read_on steps tenants s ahead
reads_one steps tenants s ahead none some =
    ap (λ (o : Option Refusal). unless_refused o (if kind_ahead ahead == 0 then Ok [] else read_on steps tenants s ahead)) none
    ∙ ap (λ (b : Bool). if b then Ok [] else read_on steps tenants s ahead) (not_zero (kind_ahead ahead) some)

reads_this : (steps tenants : ℕ) (s : Standing) (r : Record) (ahead rest : List ℕ) → Again tenants s r ahead rest → records_ahead (suc steps) tenants s ahead ≡ with_record r (records_ahead steps tenants (behind s r) rest)
reads_this steps tenants s r ahead rest a =
    reads_one steps tenants s ahead a.none a.some
    ∙ ap (λ (q : Record). with_record q (records_ahead steps tenants (behind s q) (drop (size_ahead ahead) ahead))) a.same
    ∙ ap (λ (text : List ℕ). with_record r (records_ahead steps tenants (behind s r) text)) a.left

longer : (r : Record) (rest : List ℕ) → length rest < length (record_spelling r ++ rest)
longer r rest = omega (arith, length-append (record_spelling r) rest)

-- so it is of all of them, with steps left for what is ahead
record Reads (steps tenants : ℕ) (s : Standing) (rs : List Record) (bytes ahead : List ℕ) : Type 0 where
  left : ℕ
  enough : length ahead < suc left
  is : records_ahead steps tenants s bytes ≡ with_all rs (records_ahead (suc left) tenants (behind_all s rs) ahead)

reads_all : (steps tenants : ℕ) (s : Standing) (rs : List Record) (bytes ahead : List ℕ) → tenants < 2 ^ 32 → bytes ≡ flat_map record_spelling rs ++ ahead → Follow s rs → AllByRecursion (Fits tenants) rs
    → length bytes < steps → Reads steps tenants s rs bytes ahead
reads_all zero tenants s rs bytes ahead few is follow fit enough = absurd (omega arith)
reads_all (suc steps) tenants s [] bytes ahead few is follow fit enough =
    let same : length bytes ≡ length ahead = ap (λ (text : List ℕ). length text) is in
    record { left = steps; enough = omega arith; is = ap (λ (text : List ℕ). records_ahead (suc steps) tenants s text) is }
reads_all (suc steps) tenants s (r ∷ rs) bytes ahead few is follow fit enough =
    let rest = flat_map record_spelling rs ++ ahead in
    let first : bytes ≡ record_spelling r ++ rest = is ∙ ap (λ (text : List ℕ). text ++ ahead) (flat_map-cons record_spelling r rs) ∙ append_assoc (record_spelling r) (flat_map record_spelling rs) ahead in
    let a = subst (λ (text : List ℕ). Again tenants s r text rest) (sym first) (again tenants s r rest few follow.0 fit.0) in
    let size : length bytes ≡ length (record_spelling r ++ rest) = ap (λ (text : List ℕ). length text) first in
    let shorter : length rest < steps = omega (arith, longer r rest, size) in
    let more = reads_all steps tenants (behind s r) rs rest ahead few refl follow.1 fit.1 shorter in
    record { left = more.left; enough = more.enough; is = reads_this steps tenants s r bytes rest a ∙ ap (with_record r) more.is }

-- ---- the magic, and the limit

abbrev behind_magic : (tenants : ℕ) → List ℕ → Bool → Result (List Record) Refusal
behind_magic tenants bytes b = if b then records_ahead (suc (length bytes)) tenants beginning (drop 4 bytes) else Err BadMagic

abbrev within_limit : (tenants : ℕ) → List ℕ → Bool → Result (List Record) Refusal
within_limit tenants bytes b = if b then Err TooLarge else behind_magic tenants bytes (bytes_eq (take 4 bytes) magic)

limited_read : (tenants : ℕ) (bytes : List ℕ) (b : Bool) → nat_lt most_bytes (length bytes) ≡ b → recording_of tenants bytes ≡ within_limit tenants bytes b
unfolding recording_of
limited_read tenants bytes b is = ap (within_limit tenants bytes) is

small_read : (tenants : ℕ) (bytes : List ℕ) (b : Bool) → length bytes ≤ most_bytes → bytes_eq (take 4 bytes) magic ≡ b → recording_of tenants bytes ≡ behind_magic tenants bytes b
small_read tenants bytes b small is = limited_read tenants bytes false (is_short most_bytes (length bytes) small) ∙ ap (behind_magic tenants bytes) is

has_magic : (bytes body : List ℕ) → bytes ≡ magic ++ body → bytes_eq (take 4 bytes) magic ≡ true
has_magic bytes body is = ap (λ (text : List ℕ). bytes_eq (take 4 text) magic) is

no_magic : (bytes : List ℕ) → take 4 bytes ≢ magic → bytes_eq (take 4 bytes) magic ≡ false
no_magic bytes other = at (bytes_eq (take 4 bytes) magic) refl
  where
    at : (b : Bool) → b ≡ bytes_eq (take 4 bytes) magic → bytes_eq (take 4 bytes) magic ≡ false
    at true is = absurd (other (same_text (take 4 bytes) magic is))
    at false is = sym is

opened : (tenants : ℕ) (bytes body : List ℕ) → length bytes ≤ most_bytes → bytes ≡ magic ++ body → recording_of tenants bytes ≡ records_ahead (suc (length bytes)) tenants beginning body
opened tenants bytes body small is =
    small_read tenants bytes true small (has_magic bytes body is)
    ∙ ap (λ (text : List ℕ). records_ahead (suc (length bytes)) tenants beginning (drop 4 text)) is

body_short : (bytes body : List ℕ) → bytes ≡ magic ++ body → length body < suc (length bytes)
body_short bytes body is =
    let size : length bytes ≡ length (magic ++ body) = ap (λ (text : List ℕ). length text) is in
    omega (arith, size)

-- ---- both sides

pub recorded_is : (tenants : ℕ) (bytes : List ℕ) (records : List Record) → tenants < 2 ^ 32 → Recorded tenants bytes records → recording_of tenants bytes ≡ Ok records
recorded_is tenants bytes records few r =
    let body = flat_map record_spelling records ++ 0 ∷ [] in
    let reads = reads_all (suc (length bytes)) tenants beginning records body (0 ∷ []) few refl r.legal r.fit (body_short bytes body r.spelt) in
    opened tenants bytes body r.small r.spelt ∙ reads.is ∙ all_ok records

refused_behind : (tenants : ℕ) (bytes : List ℕ) (why : Refusal) → tenants < 2 ^ 32 → length bytes ≤ most_bytes → IsRefusedBehind tenants bytes why → recording_of tenants bytes ≡ Err why
refused_behind tenants bytes why few small b =
    let refused = b.refused in
    let before = refused.before in
    let reads = reads_all (suc (length bytes)) tenants beginning refused.records b.body refused.ahead few before.spelt before.legal before.fit (body_short bytes b.body b.begun) in
    let s = standing_behind refused.records in
    let stops : records_ahead (suc reads.left) tenants s refused.ahead ≡ Err why =
    ap (λ (o : Option Refusal). unless_refused o (if kind_ahead refused.ahead == 0 then Ok [] else read_on reads.left tenants s refused.ahead)) refused.refused in
    opened tenants bytes b.body small b.begun ∙ reads.is ∙ ap (with_all refused.records) stops ∙ all_err refused.records why

pub refused_is : (tenants : ℕ) (bytes : List ℕ) (why : Refusal) → tenants < 2 ^ 32 → IsRefused tenants bytes why → recording_of tenants bytes ≡ Err why
refused_is tenants bytes why few (inl large) =
    limited_read tenants bytes true (is_long most_bytes (length bytes) large.0) ∙ ap (λ (w : Refusal). Err w) (sym large.1)
refused_is tenants bytes why few (inr (inl other)) =
    small_read tenants bytes false other.0 (no_magic bytes other.1.0) ∙ ap (λ (w : Refusal). Err w) (sym other.1.1)
refused_is tenants bytes why few (inr (inr refused)) = refused_behind tenants bytes why few refused.0 refused.1

-- ---- what is read is spelt there, if the bytes are bytes

record Spelt (tenants : ℕ) (s : Standing) (bytes : List ℕ) (rs : List Record) : Type 0 where
  parts : bytes ≡ flat_map record_spelling rs ++ 0 ∷ []
  follow : Follow s rs
  fit : AllByRecursion (Fits tenants) rs

joined : (r : Record) (rs : List Record) (bytes rest : List ℕ) → bytes ≡ record_spelling r ++ rest → rest ≡ flat_map record_spelling rs ++ 0 ∷ [] → bytes ≡ flat_map record_spelling (r ∷ rs) ++ 0 ∷ []
joined r rs bytes rest first more =
    first ∙ ap (λ (text : List ℕ). record_spelling r ++ text) more ∙ sym (append_assoc (record_spelling r) (flat_map record_spelling rs) (0 ∷ []))
    ∙ ap (λ (text : List ℕ). text ++ 0 ∷ []) (sym (flat_map-cons record_spelling r rs))

abbrev SpeltBehind : (steps tenants : ℕ) → Type 0
SpeltBehind steps tenants = (s : Standing) (bytes : List ℕ) (rs : List Record) → AreBytes bytes → records_ahead steps tenants s bytes ≡ Ok rs → Spelt tenants s bytes rs

with_front : (tenants : ℕ) (s : Standing) (bytes : List ℕ) (rs : List Record) (read : Result (List Record) Refusal) → Next tenants s bytes → with_record (record_ahead bytes) read ≡ Ok rs
    → ((qs : List Record) → read ≡ Ok qs → Spelt tenants (behind s (record_ahead bytes)) (drop (size_ahead bytes) bytes) qs) → Spelt tenants s bytes rs
with_front tenants s bytes rs (Err why) first is more = cc
with_front tenants s bytes rs (Ok qs) first is more =
    let both : record_ahead bytes ∷ qs ≡ rs = cc in
    let rest = more qs refl in
    subst (λ (all : List Record). Spelt tenants s bytes all) both
    (record { parts = joined (record_ahead bytes) qs bytes _ first.parts rest.parts; follow = (first.may, rest.follow); fit = (first.fits, rest.fit) })

spelt_by_kind : (steps tenants : ℕ) (s : Standing) (bytes : List ℕ) (rs : List Record) → SpeltBehind steps tenants → AreBytes bytes → refusal_ahead tenants s bytes ≡ None → (kind : ℕ) → kind_ahead bytes ≡ kind
    → records_ahead (suc steps) tenants s bytes ≡ Ok rs → Spelt tenants s bytes rs
spelt_by_kind steps tenants s bytes rs more are none zero kind is =
    let ends : bytes ≡ 0 ∷ [] = end_stands tenants s bytes none kind in
    let nothing : records_ahead (suc steps) tenants s bytes ≡ Ok [] = ap (λ (text : List ℕ). records_ahead (suc steps) tenants s text) ends in
    let told : Ok rs ≡ Ok [] = sym is ∙ nothing in
    let empty : [] ≡ rs = cc in
    subst (λ (all : List Record). Spelt tenants s bytes all) empty (record { parts = ends; follow = tt; fit = tt })
spelt_by_kind steps tenants s bytes rs more are none (suc k) kind is =
    let some : kind_ahead bytes ≢ 0 = λ e. absurd (omega (arith, e, kind)) in
    let first = next tenants s bytes are none some in
    with_front tenants s bytes rs (records_ahead steps tenants (behind s (record_ahead bytes)) (drop (size_ahead bytes) bytes)) first
    (sym (reads_one steps tenants s bytes none some) ∙ is)
    (λ qs read. more (behind s (record_ahead bytes)) (drop (size_ahead bytes) bytes) qs (bytes_behind (size_ahead bytes) bytes are) read)

spelt_by_refusal : (steps tenants : ℕ) (s : Standing) (bytes : List ℕ) (rs : List Record) → SpeltBehind steps tenants → AreBytes bytes → (refusal : Option Refusal) → refusal_ahead tenants s bytes ≡ refusal
    → records_ahead (suc steps) tenants s bytes ≡ Ok rs → Spelt tenants s bytes rs
spelt_by_refusal steps tenants s bytes rs more are None none is = spelt_by_kind steps tenants s bytes rs more are none (kind_ahead bytes) refl is
spelt_by_refusal steps tenants s bytes rs more are (Some why) refused is =
    let stops : records_ahead (suc steps) tenants s bytes ≡ Err why =
    ap (λ (o : Option Refusal). unless_refused o (if kind_ahead bytes == 0 then Ok [] else read_on steps tenants s bytes)) refused in
    let bad : Ok rs ≡ Err why = sym is ∙ stops in
    absurd cc

spelt_behind : (steps tenants : ℕ) → SpeltBehind steps tenants
spelt_behind zero tenants s bytes rs are is = absurd cc
spelt_behind (suc steps) tenants s bytes rs are is = spelt_by_refusal steps tenants s bytes rs (spelt_behind steps tenants) are (refusal_ahead tenants s bytes) refl is

read_by_magic : (tenants : ℕ) (bytes : List ℕ) (records : List Record) → AreBytes bytes → length bytes ≤ most_bytes → (b : Bool) → bytes_eq (take 4 bytes) magic ≡ b → behind_magic tenants bytes b ≡ Ok records → Recorded tenants bytes records
read_by_magic tenants bytes records are small false other is = absurd cc
read_by_magic tenants bytes records are small true same is =
    let front : take 4 bytes ≡ magic = same_text (take 4 bytes) magic (sym same) in
    let whole : bytes ≡ magic ++ drop 4 bytes = sym (take-append-drop 4 bytes) ∙ ap (λ (text : List ℕ). text ++ drop 4 bytes) front in
    let spelt = spelt_behind (suc (length bytes)) tenants beginning (drop 4 bytes) records (bytes_behind 4 bytes are) is in
    record { small = small; spelt = whole ∙ ap (λ (text : List ℕ). magic ++ text) spelt.parts; legal = spelt.follow; fit = spelt.fit }

read_by_limit : (tenants : ℕ) (bytes : List ℕ) (records : List Record) → AreBytes bytes → (b : Bool) → nat_lt most_bytes (length bytes) ≡ b → within_limit tenants bytes b ≡ Ok records → Recorded tenants bytes records
read_by_limit tenants bytes records are true long is = absurd cc
read_by_limit tenants bytes records are false short is = read_by_magic tenants bytes records are (fits_limit most_bytes (length bytes) short) (bytes_eq (take 4 bytes) magic) refl is

pub read_is : (tenants : ℕ) (bytes : List ℕ) (records : List Record) → AreBytes bytes → recording_of tenants bytes ≡ Ok records → Recorded tenants bytes records
read_is tenants bytes records are is =
    read_by_limit tenants bytes records are (nat_lt most_bytes (length bytes)) refl (sym (limited_read tenants bytes (nat_lt most_bytes (length bytes)) refl) ∙ is)

fits_by_limit : (tenants : ℕ) (bytes : List ℕ) (records : List Record) → (b : Bool) → nat_lt most_bytes (length bytes) ≡ b → within_limit tenants bytes b ≡ Ok records → length bytes ≤ most_bytes
fits_by_limit tenants bytes records true long is = absurd cc
fits_by_limit tenants bytes records false short is = fits_limit most_bytes (length bytes) short

-- what is a recording is not too long
pub accepted_fits : (tenants : ℕ) (bytes : List ℕ) (records : List Record) → recording_of tenants bytes ≡ Ok records → length bytes ≤ most_bytes
accepted_fits tenants bytes records is =
    fits_by_limit tenants bytes records (nat_lt most_bytes (length bytes)) refl (sym (limited_read tenants bytes (nat_lt most_bytes (length bytes)) refl) ∙ is)
