-- What a question makes of a leaky bucket, by whole numbers.
use Rattle.std.specs.Prelude.{ℕ, ◌+◌, ◌-◌, ◌*◌, max, nat_le, if◌then◌else◌, List, [], ◌∷◌}
use Rattle.admission.specs.Bucket.{Bucket}
use Rattle.admission.specs.declared.meters.Admission.{Admission}
use Rattle.admission.specs.declared.meters.Admission.TheVariants.{Entered, Spent}

-- the moment that a question counts for: never before the last one
abbrev pub moment_kept : Bucket → (moment : ℕ) → ℕ
moment_kept bucket moment = max bucket.last moment

-- the level at a moment: it has fallen by the rate for each millisecond since the last one, and not below 0
abbrev pub level_at : Bucket → (moment : ℕ) → ℕ
level_at bucket moment = bucket.level - bucket.rate * (moment_kept bucket moment - bucket.last)

-- the bucket with another level, as a question at this moment leaves it
abbrev pub filled_to : Bucket → (moment level : ℕ) → Bucket
filled_to bucket moment level =
    record { capacity = bucket.capacity; rate = bucket.rate; level = level; last = moment_kept bucket moment }

abbrev pub enter : Bucket → (moment estimate : ℕ) → Admission × Bucket
enter bucket moment estimate = (Entered, filled_to bucket moment (level_at bucket moment + estimate))

abbrev pub refuse : Bucket → (moment estimate : ℕ) → Admission × Bucket
refuse bucket moment estimate =
    (Spent (level_at bucket moment) estimate bucket.capacity, filled_to bucket moment (level_at bucket moment))

-- what is answered to a question at a moment, and the bucket behind it: a request enters exactly where its estimate fits on top of the level
abbrev pub ask : Bucket → (moment estimate : ℕ) → Admission × Bucket
ask bucket moment estimate =
    if nat_le (level_at bucket moment + estimate) bucket.capacity
    then enter bucket moment estimate
    else refuse bucket moment estimate

-- the bucket behind a question
abbrev pub behind : Bucket → (moment estimate : ℕ) → Bucket
behind bucket moment estimate = (ask bucket moment estimate).1

-- a request at a moment, of an estimate
pub record Question : Type 0 where
  pub moment : ℕ
  pub estimate : ℕ

-- what an answer lays on the level
abbrev pub laid : Admission → (estimate : ℕ) → ℕ
laid Entered estimate = estimate
laid (Spent _ _ _) estimate = 0

-- the bucket behind questions, asked one after another
abbrev pub behind_all : Bucket → List Question → Bucket
behind_all bucket [] = bucket
behind_all bucket (q ∷ questions) = behind_all (behind bucket q.moment q.estimate) questions

-- the estimates of the requests that enter, together
abbrev pub let_in : Bucket → List Question → ℕ
let_in bucket [] = 0
let_in bucket (q ∷ questions) =
    laid (ask bucket q.moment q.estimate).0 q.estimate + let_in (behind bucket q.moment q.estimate) questions
