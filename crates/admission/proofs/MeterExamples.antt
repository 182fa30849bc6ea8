-- Questions one after another, each a moment and an estimate, with the answer and the level behind it. The numbers were worked out by hand.
use Rattle.std.proofs.Common.{◌≡◌, ℕ, List, [], ◌∷◌, refl}
use Rattle.admission.specs.declared.meters.Admission.{Admission}
use Rattle.admission.specs.declared.meters.Admission.TheVariants.{Entered, Spent}
use Rattle.admission.specs.Bucket.{Bucket}
use Rattle.admission.specs.Metering.{ask, behind}

abbrev bucket_of : (capacity rate level last : ℕ) → Bucket
bucket_of capacity rate level last = record { capacity = capacity; rate = rate; level = level; last = last }

abbrev asked : Bucket → List (ℕ × ℕ) → List (Admission × ℕ)
asked bucket [] = []
asked bucket (q ∷ questions) = ((ask bucket q.0 q.1).0, (behind bucket q.0 q.1).level) ∷ asked (behind bucket q.0 q.1) questions

fills_and_leaks
    : asked (bucket_of 100 1 0 0) ((0, 60) ∷ (0, 60) ∷ (19, 60) ∷ (20, 60) ∷ (20, 0) ∷ (20, 1) ∷ (1000, 101) ∷ (1000, 100) ∷ [])
    ≡ (Entered, 60) ∷ (Spent 60 60 100, 60) ∷ (Spent 41 60 100, 41) ∷ (Entered, 100) ∷ (Entered, 100) ∷ (Spent 100 1 100, 100) ∷ (Spent 0 101 100, 0)
    ∷ (Entered, 100) ∷ []
fills_and_leaks = refl

-- a moment before the last one counts as the last one
moments_that_fall
    : asked (bucket_of 100 2 90 50) ((40, 11) ∷ (0, 10) ∷ (55, 11) ∷ (50, 10) ∷ (56, 2) ∷ [])
    ≡ (Spent 90 11 100, 90) ∷ (Entered, 100) ∷ (Spent 90 11 100, 90) ∷ (Entered, 100) ∷ (Entered, 100) ∷ []
moments_that_fall = refl

last_moment_is_kept : behind (behind (bucket_of 100 2 90 50) 40 0) 60 0 ≡ bucket_of 100 2 70 60
last_moment_is_kept = refl

-- up to the last moment of 64 bits

no_rate
    : asked (bucket_of 100 0 0 0) ((0, 60) ∷ (18446744073709551615, 60) ∷ (18446744073709551615, 40) ∷ [])
    ≡ (Entered, 60) ∷ (Spent 60 60 100, 60) ∷ (Entered, 100) ∷ []
no_rate = refl

no_capacity : asked (bucket_of 0 1 0 0) ((0, 0) ∷ (9, 1) ∷ (9, 0) ∷ []) ≡ (Entered, 0) ∷ (Spent 0 1 0, 0) ∷ (Entered, 0) ∷ []
no_capacity = refl

most_of_both
    : asked (bucket_of 1099511627776 4294967295 0 0)
    ((0, 1099511627776) ∷ (256, 1099511627776) ∷ (257, 1099511627776) ∷ (18446744073709551615, 1099511627776) ∷ (18446744073709551615, 1) ∷ [])
    ≡ (Entered, 1099511627776) ∷ (Spent 256 1099511627776 1099511627776, 256) ∷ (Entered, 1099511627776) ∷ (Entered, 1099511627776)
    ∷ (Spent 1099511627776 1 1099511627776, 1099511627776) ∷ []
most_of_both = refl

greatest_rate
    : asked (bucket_of 1099511627776 18446744073709551615 1099511627776 1) ((1, 1) ∷ (18446744073709551615, 1099511627776) ∷ [])
    ≡ (Spent 1099511627776 1 1099511627776, 1099511627776) ∷ (Entered, 1099511627776) ∷ []
greatest_rate = refl
