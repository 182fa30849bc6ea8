-- The recording of one tenant alone is that of a file, where the whole is.
use Rattle.std.proofs.Common.{◌≡◌, ℕ, suc, ◌+◌, ◌≤◌, Bool, true, false, ◌==◌, List, [], ◌∷◌, ◌++◌, length, get_or, refl, sym, ap, subst, arith, length-append}
use Rattle.std.specs.List.{flat_map, AllByRecursion}
use Rattle.recording_format.specs.Recorded.{Fits, Recorded}
use Rattle.recording_format.specs.Spelling.{record_spelling, spelling}
use Rattle.recording_format.specs.declared.records.Record.{Record}
use Rattle.recording_format.specs.Connections.{tenants_of}
use Rattle.recorded_runner.specs.Alone.{alone, is_of, kept_of, renumbered}
use Rattle.recorded_runner.proofs.AloneLegal.{legal_alone}
use Rattle.recorded_runner.proofs.KeptLaws.{kept_here, kept_other}

-- ---- its bytes are no more

one_spelling : (owners : List ℕ) (tenant : ℕ) (r : Record) → length (record_spelling (renumbered owners tenant r)) ≡ length (record_spelling r)
one_spelling owners tenant r = refl

spelt_few : (owners : List ℕ) (tenant : ℕ) (rs : List Record) → length (flat_map record_spelling (kept_of owners tenant rs)) ≤ length (flat_map record_spelling rs)
spelt_few owners tenant [] = omega arith
spelt_few owners tenant (r ∷ rs) = by (get_or owners r.link 0 == tenant) refl (spelt_few owners tenant rs)
  where
    by : (b : Bool) → (get_or owners r.link 0 == tenant) ≡ b → length (flat_map record_spelling (kept_of owners tenant rs)) ≤ length (flat_map record_spelling rs)
        → length (flat_map record_spelling (kept_of owners tenant (r ∷ rs))) ≤ length (flat_map record_spelling (r ∷ rs))
    by true e few =
        omega (
          arith,
          few,
          ap (λ (qs : List Record). length (flat_map record_spelling qs)) (kept_here (λ q. is_of owners tenant q.link) (renumbered owners tenant) r rs e),
          length-append (record_spelling (renumbered owners tenant r)) (flat_map record_spelling (kept_of owners tenant rs)),
          length-append (record_spelling r) (flat_map record_spelling rs),
          one_spelling owners tenant r,
        )
    by false e few =
        omega (
          arith,
          few,
          ap (λ (qs : List Record). length (flat_map record_spelling qs)) (kept_other (λ q. is_of owners tenant q.link) (renumbered owners tenant) r rs e),
          length-append (record_spelling r) (flat_map record_spelling rs),
        )

-- ---- what its records tell stands in 32 bits

fit_kept : (tenants : ℕ) (owners : List ℕ) (tenant : ℕ) (rs : List Record) → AllByRecursion (Fits tenants) rs → AllByRecursion (Fits tenants) (kept_of owners tenant rs)
fit_kept tenants owners tenant [] all = tt
fit_kept tenants owners tenant (r ∷ rs) all = by (get_or owners r.link 0 == tenant) refl (fit_kept tenants owners tenant rs all.1)
  where
    by : (b : Bool) → (get_or owners r.link 0 == tenant) ≡ b → AllByRecursion (Fits tenants) (kept_of owners tenant rs) → AllByRecursion (Fits tenants) (kept_of owners tenant (r ∷ rs))
    by true e more =
        subst (λ (qs : List Record). AllByRecursion (Fits tenants) qs) (sym (kept_here (λ q. is_of owners tenant q.link) (renumbered owners tenant) r rs e))
        (record { moment = all.0.moment; event = all.0.event }, more)
    by false e more =
        subst (λ (qs : List Record). AllByRecursion (Fits tenants) qs) (sym (kept_other (λ q. is_of owners tenant q.link) (renumbered owners tenant) r rs e)) more

-- ---- the file

spelling_long : (rs : List Record) → length (spelling rs) ≡ 5 + length (flat_map record_spelling rs)
spelling_long rs =
    let behind = length-append (flat_map record_spelling rs) (0 ∷ []) in
    let counted : suc (suc (suc (suc (length (flat_map record_spelling rs ++ 0 ∷ []))))) ≡ 5 + length (flat_map record_spelling rs) = omega (arith, behind) in
    counted

pub recorded_alone : (tenants tenant : ℕ) (bytes : List ℕ) (records : List Record) → Recorded tenants bytes records → Recorded tenants (spelling (alone tenant records)) (alone tenant records)
unfolding alone
recorded_alone tenants tenant bytes records r = record {
  small =
      omega (
        arith,
        r.small,
        ap (λ (these : List ℕ). length these) r.spelt,
        spelling_long records,
        spelling_long (kept_of (tenants_of records) tenant records),
        spelt_few (tenants_of records) tenant records,
      );
  spelt = refl;
  legal = legal_alone tenant records r.legal;
  fit = fit_kept tenants (tenants_of records) tenant records r.fit;
}
