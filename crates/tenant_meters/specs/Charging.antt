-- What a meter's cell holds, as words, as a bucket and as terms.
use Rattle.std.specs.Prelude.{ℕ, List, [], ◌∷◌}
use Rattle.admission.specs.Bucket.{Bucket}
use Rattle.tenant_meters.specs.declared.callers.Terms.{Terms}
use Rattle.tenant_meters.specs.declared.charges.Charge.{Charge}

abbrev pub words_of : Charge → List ℕ
words_of x = x.capacity ∷ x.rate ∷ x.level ∷ x.last ∷ x.calls ∷ x.moment ∷ x.estimate ∷ []

abbrev pub bucket_in : Charge → Bucket
bucket_in x = record { capacity = x.capacity; rate = x.rate; level = x.level; last = x.last }

abbrev pub terms_in : Charge → Terms
terms_in x = record { capacity = x.capacity; rate = x.rate }
