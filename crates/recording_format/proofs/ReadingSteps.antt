-- What the loop over records does: one record more.
use Rattle.std.proofs.Common.{◌≡◌, ℕ, List, [], ◌∷◌, ◌++◌, drop, None, false, ◌==◌, suc, sym, ap, subst, ◌∙◌, append_assoc, eq-eqb}
use Rattle.std.specs.List.{flat_map, AllByRecursion}
use Rattle.std.proofs.lemmas.List.{flat_map_more}
use Rattle.recording_format.specs.declared.records.Record.{Record}
use Rattle.recording_format.specs.Standing.{beginning, standing_behind}
use Rattle.recording_format.specs.Spelling.{record_spelling}
use Rattle.recording_format.specs.Looks.{kind_ahead, size_ahead, record_ahead, refusal_ahead}
use Rattle.recording_format.specs.Recorded.{AreBytes, Fits, AreRecords}
use Rattle.recording_format.proofs.StandingLaws.{Follow-append}
use Rattle.recording_format.proofs.AheadLaws.{Next, next}

all_more : (tenants : ℕ) (rs : List Record) (r : Record) → AllByRecursion (Fits tenants) rs → Fits tenants r → AllByRecursion (Fits tenants) (rs ++ r ∷ [])
all_more tenants [] r all fits = (fits, tt)
all_more tenants (q ∷ rs) r all fits = (all.0, all_more tenants rs r all.1 fits)

spelt_more : (rs : List Record) (r : Record) (bytes ahead rest : List ℕ) → bytes ≡ flat_map record_spelling rs ++ ahead → ahead ≡ record_spelling r ++ rest → bytes ≡ flat_map record_spelling (rs ++ r ∷ []) ++ rest
spelt_more rs r bytes ahead rest before next =
    before ∙ ap (λ (text : List ℕ). flat_map record_spelling rs ++ text) next ∙ sym (append_assoc (flat_map record_spelling rs) (record_spelling r) rest)
    ∙ ap (λ (text : List ℕ). text ++ rest) (flat_map_more record_spelling [] rs r)

-- the record ahead is one more of those before what is ahead then
pub one_more : (tenants : ℕ) (bytes : List ℕ) (rs : List Record) (ahead : List ℕ) → AreRecords tenants bytes rs ahead → Next tenants (standing_behind rs) ahead
    → AreRecords tenants bytes (rs ++ record_ahead ahead ∷ []) (drop (size_ahead ahead) ahead)
one_more tenants bytes rs ahead before next =
    record {
      spelt = spelt_more rs (record_ahead ahead) bytes ahead (drop (size_ahead ahead) ahead) before.spelt next.parts;
      legal = Follow-append beginning rs (record_ahead ahead) before.legal next.may;
      fit = all_more tenants rs (record_ahead ahead) before.fit next.fits;
    }

rest_bytes : (front ahead : List ℕ) → AreBytes (front ++ ahead) → AreBytes ahead
rest_bytes [] ahead are = are
rest_bytes (b ∷ front) ahead are = rest_bytes front ahead (λ i. are (suc i))

-- a record stands ahead, where nothing there is refused and it is not the end
pub stands_next : (tenants : ℕ) (bytes : List ℕ) (rs : List Record) (ahead : List ℕ) → AreBytes bytes → AreRecords tenants bytes rs ahead
    → refusal_ahead tenants (standing_behind rs) ahead ≡ None → (kind_ahead ahead == 0) ≡ false → Next tenants (standing_behind rs) ahead
stands_next tenants bytes rs ahead are before none kind =
    let more = rest_bytes (flat_map record_spelling rs) ahead (subst AreBytes before.spelt are) in
    next tenants (standing_behind rs) ahead more none (λ e. let ended = eq-eqb _ _ e in absurd cc)
