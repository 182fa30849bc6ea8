-- What a legal history lets in is what its questions let in.
use Rattle.std.proofs.Common.{◌≡◌, ℕ, ◌+◌, ◌-◌, ◌*◌, ◌≤◌, List, [], ◌∷◌, map, refl, sym, ap, ◌∙◌, subst, arith}
use Rattle.admission.specs.Bucket.{Bucket}
use Rattle.admission.specs.Metering.{behind, behind_all, laid, let_in, Question}
use Rattle.admission.specs.declared.meters.Admission.{Admission}
use Rattle.tenant_meters.specs.Histories.{question_of, empty_bucket, behind_calls, IsLegal, entered}
use Rattle.tenant_meters.specs.declared.callers.Call.{Call}
use Rattle.tenant_meters.specs.declared.callers.Terms.{Terms}

entered_is : (bucket : Bucket) (calls : List Call) → IsLegal bucket calls → entered calls ≡ let_in bucket (map question_of calls)
entered_is bucket [] legal = refl
entered_is bucket (c ∷ calls) legal =
    let rest = entered_is (behind bucket c.moment c.estimate) calls legal.1 in
    ap (λ (a : Admission). laid a c.estimate + entered calls) (sym legal.0) ∙ ap (λ (n : ℕ). laid (Rattle.admission.specs.Metering.ask bucket c.moment c.estimate).0 c.estimate + n) rest

no_less : (last : ℕ) → last - 0 ≡ last
no_less last = omega arith

pub limited : ((bucket : Bucket) (questions : List Question) → bucket.level ≤ bucket.capacity → let_in bucket questions ≤ bucket.capacity + bucket.rate * ((behind_all bucket questions).last - bucket.last))
    → (given : Terms) (calls : List Call) → IsLegal (empty_bucket given) calls → entered calls ≤ given.capacity + given.rate * (behind_calls (empty_bucket given) calls).last
limited law given calls legal =
    let bucket = empty_bucket given in
    let most = law bucket (map question_of calls) (omega arith) in
    let from_zero = subst (λ (n : ℕ). let_in bucket (map question_of calls) ≤ given.capacity + given.rate * n) (no_less (behind_calls bucket calls).last) most in
    subst (λ (n : ℕ). n ≤ given.capacity + given.rate * (behind_calls bucket calls).last) (sym (entered_is bucket calls legal)) from_zero
