-- Any bytes are a recording or are refused: one of the two, in one way.
use Rattle.std.proofs.Common.{◌≡◌, ◌≢◌, ◌⊎◌, ℕ, zero, suc, ◌^◌, ◌<◌, ◌≤◌, Bool, true, false, nat_eq, List, [], ◌∷◌, ◌++◌, length, take, drop, Option, Some, None, refl, sym, ap, subst, ◌∙◌, arith, append_assoc, inl, inr}
use Rattle.std.specs.List.{flat_map, AllByRecursion}
use Rattle.std.specs.Cmp.Lexicographic.{pointwise, same_text, other_text}
use Rattle.std.proofs.lemmas.Bool.{cases_lt}
use Rattle.std.proofs.lemmas.List.{length-drop, take-append-drop}
use Rattle.std.proofs.lemmas.List.Concat.{flat_map-cons}
use Rattle.recording_format.specs.declared.records.Record.{Record}
use Rattle.recording_format.specs.declared.refusals.Refusal.{Refusal}
use Rattle.recording_format.specs.declared.refusals.Refusal.TheVariants as refusals
use Rattle.recording_format.specs.Standing.{Standing, beginning, behind, behind_all, standing_behind}
use Rattle.recording_format.specs.Following.{MayFollow, Follow}
use Rattle.recording_format.specs.Spelling.{magic, record_spelling}
use Rattle.recording_format.specs.Looks.{kind_ahead, size_ahead, record_ahead, refusal_ahead}
use Rattle.recording_format.specs.Recorded.{AreBytes, Fits, most_bytes, Recorded, IsRefusedBehind, IsRefused}
use Rattle.recording_format.proofs.AheadLaws.{Next, next, end_stands, bytes_behind}
use Rattle.recording_format.proofs.SpeltLaws.{Again, again}

-- records stand before what is ahead, each where it may come
record Parted (tenants : ℕ) (s : Standing) (bytes : List ℕ) (rs : List Record) (ahead : List ℕ) : Type 0 where
  parts : bytes ≡ flat_map record_spelling rs ++ ahead
  follow : Follow s rs
  fit : AllByRecursion (Fits tenants) rs

-- what stands ahead is the end, or is refused
abbrev Stops : (tenants : ℕ) (s : Standing) (ahead : List ℕ) → Type 0
Stops tenants s ahead = (ahead ≡ 0 ∷ []) ⊎ ((why : Refusal) × (refusal_ahead tenants s ahead ≡ Some why))

-- ---- one of the two

record Walked (tenants : ℕ) (s : Standing) (bytes : List ℕ) : Type 0 where
  records : List Record
  ahead : List ℕ
  parted : Parted tenants s bytes records ahead
  stops : Stops tenants (behind_all s records) ahead

at_once : (tenants : ℕ) (s : Standing) (bytes : List ℕ) → Stops tenants s bytes → Walked tenants s bytes
at_once tenants s bytes stops = record { records = []; ahead = bytes; parted = record { parts = refl; follow = tt; fit = tt }; stops = stops }

joined : (r : Record) (rs : List Record) (bytes rest ahead : List ℕ) → bytes ≡ record_spelling r ++ rest → rest ≡ flat_map record_spelling rs ++ ahead → bytes ≡ flat_map record_spelling (r ∷ rs) ++ ahead
joined r rs bytes rest ahead first more =
    first ∙ ap (λ (text : List ℕ). record_spelling r ++ text) more ∙ sym (append_assoc (record_spelling r) (flat_map record_spelling rs) ahead)
    ∙ ap (λ (text : List ℕ). text ++ ahead) (sym (flat_map-cons record_spelling r rs))

onward : (tenants : ℕ) (s : Standing) (bytes : List ℕ) → Next tenants s bytes → Walked tenants (behind s (record_ahead bytes)) (drop (size_ahead bytes) bytes) → Walked tenants s bytes
onward tenants s bytes first more =
    record {
      records = record_ahead bytes ∷ more.records;
      ahead = more.ahead;
      parted = record { parts = joined (record_ahead bytes) more.records bytes _ more.ahead first.parts more.parted.parts; follow = (first.may, more.parted.follow); fit = (first.fits, more.parted.fit) };
      stops = more.stops;
    }

-- the walk from behind the next record
abbrev Further : (fuel tenants : ℕ) → Type 0
Further fuel tenants = (s : Standing) (bytes : List ℕ) → AreBytes bytes → length bytes ≤ fuel → Walked tenants s bytes

further : (fuel tenants : ℕ) (s : Standing) (bytes : List ℕ) → Further fuel tenants → AreBytes bytes → length bytes ≤ suc fuel → Next tenants s bytes → Walked tenants s bytes
further fuel tenants s bytes more are few first =
    onward tenants s bytes first
    (more (behind s (record_ahead bytes)) (drop (size_ahead bytes) bytes) (bytes_behind (size_ahead bytes) bytes are) (omega (arith, length-drop (size_ahead bytes) bytes, first.whole)))

by_kind : (fuel tenants : ℕ) (s : Standing) (bytes : List ℕ) → Further fuel tenants → AreBytes bytes → length bytes ≤ suc fuel → refusal_ahead tenants s bytes ≡ None → Walked tenants s bytes
by_kind fuel tenants s [] more are few none = absurd cc
by_kind fuel tenants s (zero ∷ rest) more are few none = at_once tenants s (zero ∷ rest) (inl (end_stands tenants s (zero ∷ rest) none refl))
by_kind fuel tenants s (suc k ∷ rest) more are few none =
    further fuel tenants s (suc k ∷ rest) more are few (next tenants s (suc k ∷ rest) are none (λ e. absurd (omega (arith, e))))

by_refusal : (fuel tenants : ℕ) (s : Standing) (bytes : List ℕ) (refusal : Option Refusal) → Further fuel tenants → AreBytes bytes → length bytes ≤ suc fuel → refusal_ahead tenants s bytes ≡ refusal → Walked tenants s bytes
by_refusal fuel tenants s bytes (Some why) more are few is = at_once tenants s bytes (inr (why, is))
by_refusal fuel tenants s bytes None more are few is = by_kind fuel tenants s bytes more are few is

walk : (fuel tenants : ℕ) → Further fuel tenants
walk zero tenants s [] are few = at_once tenants s [] (inr (refusals.CutShort, refl))
walk zero tenants s (b ∷ bytes) are few = absurd (omega (arith, few))
walk (suc fuel) tenants s bytes are few = by_refusal fuel tenants s bytes (refusal_ahead tenants s bytes) (walk fuel tenants) are few refl

-- the magic, or not
with_magic : (bytes : List ℕ) → (take 4 bytes ≡ magic) ⊎ (take 4 bytes ≢ magic)
with_magic bytes = by_test (pointwise nat_eq (take 4 bytes) magic) refl where
  by_test : (b : Bool) → b ≡ pointwise nat_eq (take 4 bytes) magic → (take 4 bytes ≡ magic) ⊎ (take 4 bytes ≢ magic)
  by_test true is = inl (same_text (take 4 bytes) magic is)
  by_test false is = inr (other_text (take 4 bytes) magic is)

abbrev OneOfTwo : (tenants : ℕ) (bytes : List ℕ) → Type 0
OneOfTwo tenants bytes = ((records : List Record) × Recorded tenants bytes records) ⊎ ((refusal : Refusal) × IsRefused tenants bytes refusal)

behind_magic : (bytes : List ℕ) → take 4 bytes ≡ magic → bytes ≡ magic ++ drop 4 bytes
behind_magic bytes is = sym (take-append-drop 4 bytes) ∙ ap (λ (front : List ℕ). front ++ drop 4 bytes) is

walked : (tenants : ℕ) (bytes : List ℕ) → length bytes ≤ most_bytes → bytes ≡ magic ++ drop 4 bytes → Walked tenants beginning (drop 4 bytes) → OneOfTwo tenants bytes
walked tenants bytes small is way = by_stop way.stops where
  by_stop : Stops tenants (standing_behind way.records) way.ahead → OneOfTwo tenants bytes
  by_stop (inl ends) =
      inl (
        way.records,
        record {
          small = small;
          spelt = is ∙ ap (λ (text : List ℕ). magic ++ text) (way.parted.parts ∙ ap (λ (text : List ℕ). flat_map record_spelling way.records ++ text) ends);
          legal = way.parted.follow;
          fit = way.parted.fit;
        },
      )
  by_stop (inr refused) =
      inr (
        refused.0,
        inr (inr (
          small,
          record {
            body = drop 4 bytes;
            begun = is;
            refused = record {
              records = way.records;
              ahead = way.ahead;
              before = record { spelt = way.parted.parts; legal = way.parted.follow; fit = way.parted.fit };
              refused = refused.1;
            };
          },
        )),
      )

pub one_of_two : (tenants : ℕ) (bytes : List ℕ) → AreBytes bytes → OneOfTwo tenants bytes
one_of_two tenants bytes are =
    elim (cases_lt most_bytes (length bytes)) [
      | inl large ↦ inr (refusals.TooLarge, inl (large, refl))
      | inr small ↦
          elim (with_magic bytes) [
            | inl is ↦ walked tenants bytes small (behind_magic bytes is) (walk (length (drop 4 bytes)) tenants beginning (drop 4 bytes) (bytes_behind 4 bytes are) (omega arith))
            | inr other ↦ inr (refusals.BadMagic, inr (inl (small, (other, refl))))
          ]
    ]

-- ---- in one way

-- no record stands ahead that may come next
abbrev NoRecord : (tenants : ℕ) (s : Standing) (ahead : List ℕ) → Type 0
NoRecord tenants s ahead = (r : Record) (rest : List ℕ) → ahead ≡ record_spelling r ++ rest → MayFollow s r → Fits tenants r → ⊥

-- what is read of a record that stands ahead
again_there : (tenants : ℕ) (s : Standing) (r : Record) (ahead rest : List ℕ) → tenants < 2 ^ 32 → ahead ≡ record_spelling r ++ rest → MayFollow s r → Fits tenants r → Again tenants s r ahead rest
again_there tenants s r ahead rest few is may fits = subst (λ (bytes : List ℕ). Again tenants s r bytes rest) (sym is) (again tenants s r rest few may fits)

no_record : (tenants : ℕ) (s : Standing) (ahead : List ℕ) → tenants < 2 ^ 32 → Stops tenants s ahead → NoRecord tenants s ahead
no_record tenants s ahead few (inl ends) r rest is may fits = (again_there tenants s r ahead rest few is may fits).some (ap kind_ahead ends)
no_record tenants s ahead few (inr refused) r rest is may fits =
    let none = (again_there tenants s r ahead rest few is may fits).none in
    let told = refused.1 in
    absurd cc

first_of_parted : (tenants : ℕ) (s : Standing) (r : Record) (rs : List Record) (bytes ahead : List ℕ) → Parted tenants s bytes (r ∷ rs) ahead → bytes ≡ record_spelling r ++ (flat_map record_spelling rs ++ ahead)
first_of_parted tenants s r rs bytes ahead p =
    p.parts ∙ ap (λ (text : List ℕ). text ++ ahead) (flat_map-cons record_spelling r rs) ∙ append_assoc (record_spelling r) (flat_map record_spelling rs) ahead

-- two ways to part bytes are one, where no record stands ahead in either
same_way : (tenants : ℕ) (s : Standing) (rs qs : List Record) (bytes a b : List ℕ) → tenants < 2 ^ 32 → Parted tenants s bytes rs a → Parted tenants s bytes qs b
    → NoRecord tenants (behind_all s rs) a → NoRecord tenants (behind_all s qs) b → (rs ≡ qs) × (a ≡ b)
same_way tenants s [] [] bytes a b few p q no_a no_b = (refl, sym p.parts ∙ q.parts)
same_way tenants s [] (r ∷ qs) bytes a b few p q no_a no_b =
    absurd (no_a r (flat_map record_spelling qs ++ b) (sym p.parts ∙ first_of_parted tenants s r qs bytes b q) q.follow.0 q.fit.0)
same_way tenants s (r ∷ rs) [] bytes a b few p q no_a no_b =
    absurd (no_b r (flat_map record_spelling rs ++ a) (sym q.parts ∙ first_of_parted tenants s r rs bytes a p) p.follow.0 p.fit.0)
same_way tenants s (r ∷ rs) (t ∷ qs) bytes a b few p q no_a no_b =
    let first = again_there tenants s r bytes (flat_map record_spelling rs ++ a) few (first_of_parted tenants s r rs bytes a p) p.follow.0 p.fit.0 in
    let other = again_there tenants s t bytes (flat_map record_spelling qs ++ b) few (first_of_parted tenants s t qs bytes b q) q.follow.0 q.fit.0 in
    let one : r ≡ t = sym first.same ∙ other.same in
    let rest = drop (size_ahead bytes) bytes in
    let p' : Parted tenants (behind s r) rest rs a = record { parts = first.left; follow = p.follow.1; fit = p.fit.1 } in
    let q' : Parted tenants (behind s t) rest qs b = record { parts = other.left; follow = q.follow.1; fit = q.fit.1 } in
    let moved : Parted tenants (behind s r) rest qs b = subst (λ (u : Record). Parted tenants (behind s u) rest qs b) (sym one) q' in
    let no_more : NoRecord tenants (behind_all (behind s r) qs) b = subst (λ (u : Record). NoRecord tenants (behind_all (behind s u) qs) b) (sym one) no_b in
    let more = same_way tenants (behind s r) rs qs rest a b few p' moved no_a no_more in
    (λ i. one i ∷ more.0 i, more.1)

-- the bytes behind the magic
behind_same : (bytes x y : List ℕ) → bytes ≡ magic ++ x → bytes ≡ magic ++ y → x ≡ y
behind_same bytes x y is other = ap (λ (text : List ℕ). drop 4 text) (sym is ∙ other)

parted_records : (tenants : ℕ) (bytes : List ℕ) (records : List Record) (body : List ℕ) → bytes ≡ magic ++ body → Recorded tenants bytes records → Parted tenants beginning body records (0 ∷ [])
parted_records tenants bytes records body is recorded =
    record { parts = behind_same bytes body (flat_map record_spelling records ++ 0 ∷ []) is recorded.spelt; follow = recorded.legal; fit = recorded.fit }

parted_refused : (tenants : ℕ) (bytes : List ℕ) (why : Refusal) (body : List ℕ) → bytes ≡ magic ++ body → (behind : IsRefusedBehind tenants bytes why)
    → Parted tenants beginning body behind.refused.records behind.refused.ahead
parted_refused tenants bytes why body is behind =
    let before = behind.refused.before in
    record { parts = behind_same bytes body behind.body is behind.begun ∙ before.spelt; follow = before.legal; fit = before.fit }

pub one_recording : (tenants : ℕ) (bytes : List ℕ) (records others : List Record) → tenants < 2 ^ 32 → Recorded tenants bytes records → Recorded tenants bytes others → records ≡ others
one_recording tenants bytes records others few one other =
    let body = flat_map record_spelling records ++ 0 ∷ [] in
    let p = parted_records tenants bytes records body one.spelt one in
    let q = parted_records tenants bytes others body one.spelt other in
    (same_way tenants beginning records others body (0 ∷ []) (0 ∷ []) few p q (no_record tenants _ _ few (inl refl)) (no_record tenants _ _ few (inl refl))).0

-- a refusal behind records, and a recording
refused_behind_or_recorded : (tenants : ℕ) (bytes : List ℕ) (records : List Record) (why : Refusal) → tenants < 2 ^ 32 → Recorded tenants bytes records → IsRefusedBehind tenants bytes why → ⊥
refused_behind_or_recorded tenants bytes records why few one behind =
    let body = flat_map record_spelling records ++ 0 ∷ [] in
    let refused = behind.refused in
    let p = parted_records tenants bytes records body one.spelt one in
    let q = parted_refused tenants bytes why body one.spelt behind in
    let same = same_way tenants beginning records refused.records body (0 ∷ []) refused.ahead few p q (no_record tenants _ _ few (inl refl)) (no_record tenants _ _ few (inr (why, refused.refused))) in
    let none : refusal_ahead tenants (standing_behind refused.records) (0 ∷ []) ≡ None = refl in
    let told = subst (λ (text : List ℕ). refusal_ahead tenants (standing_behind refused.records) text ≡ Some why) (sym same.1) refused.refused in
    absurd cc

pub refused_or_recorded : (tenants : ℕ) (bytes : List ℕ) (records : List Record) (why : Refusal) → tenants < 2 ^ 32 → Recorded tenants bytes records → IsRefused tenants bytes why → ⊥
refused_or_recorded tenants bytes records why few one (inl large) = absurd (omega (arith, one.small, large.0))
refused_or_recorded tenants bytes records why few one (inr (inl other)) = other.1.0 (ap (λ (text : List ℕ). take 4 text) one.spelt)
refused_or_recorded tenants bytes records why few one (inr (inr refused)) = refused_behind_or_recorded tenants bytes records why few one refused.1

abbrev told : Refusal → Option Refusal
told why = Some why

told_is : (x y : Refusal) → told x ≡ told y → x ≡ y
told_is x y e = cc

same_behind : (tenants : ℕ) (bytes : List ℕ) (why other : Refusal) → tenants < 2 ^ 32 → IsRefusedBehind tenants bytes why → IsRefusedBehind tenants bytes other → why ≡ other
same_behind tenants bytes why other few x y =
    let one = x.refused in
    let two = y.refused in
    let p = parted_refused tenants bytes why x.body x.begun x in
    let q = parted_refused tenants bytes other x.body x.begun y in
    let same = same_way tenants beginning one.records two.records x.body one.ahead two.ahead few p q (no_record tenants _ _ few (inr (why, one.refused))) (no_record tenants _ _ few (inr (other, two.refused))) in
    let after = subst (λ (rs : List Record). refusal_ahead tenants (standing_behind rs) two.ahead ≡ Some other) (sym same.0) two.refused in
    let second = subst (λ (text : List ℕ). refusal_ahead tenants (standing_behind one.records) text ≡ Some other) (sym same.1) after in
    told_is why other (sym one.refused ∙ second)

pub one_refusal : (tenants : ℕ) (bytes : List ℕ) (why other : Refusal) → tenants < 2 ^ 32 → IsRefused tenants bytes why → IsRefused tenants bytes other → why ≡ other
one_refusal tenants bytes why other few (inl a) (inl b) = a.1 ∙ sym b.1
one_refusal tenants bytes why other few (inl a) (inr (inl b)) = absurd (omega (arith, a.0, b.0))
one_refusal tenants bytes why other few (inl a) (inr (inr b)) = absurd (omega (arith, a.0, b.0))
one_refusal tenants bytes why other few (inr (inl a)) (inl b) = absurd (omega (arith, a.0, b.0))
one_refusal tenants bytes why other few (inr (inl a)) (inr (inl b)) = a.1.1 ∙ sym b.1.1
one_refusal tenants bytes why other few (inr (inl a)) (inr (inr b)) = absurd (a.1.0 (ap (λ (text : List ℕ). take 4 text) b.1.begun))
one_refusal tenants bytes why other few (inr (inr a)) (inl b) = absurd (omega (arith, a.0, b.0))
one_refusal tenants bytes why other few (inr (inr a)) (inr (inl b)) = absurd (b.1.0 (ap (λ (text : List ℕ). take 4 text) a.1.begun))
one_refusal tenants bytes why other few (inr (inr a)) (inr (inr b)) = same_behind tenants bytes why other few a.1 b.1
