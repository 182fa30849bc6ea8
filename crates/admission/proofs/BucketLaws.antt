-- What questions do to a bucket, one after another: what one does, and an induction.
use Rattle.std.proofs.Common.{◌≡◌, ℕ, ◌+◌, ◌-◌, ◌*◌, ◌≤◌, List, [], ◌∷◌, refl, ◌∙◌, arith, mul-add}
use Rattle.std.proofs.lemmas.Grind.{common_steps}
use Rattle.admission.specs.Bucket.{Bucket}
use Rattle.admission.specs.Metering.{ask, behind, laid, Question, behind_all, let_in}

-- what a question keeps of a bucket, and how far its level and its last moment go
record Turned (bucket after : Bucket) (estimate entered : ℕ) : Type 0 where
  capacity : after.capacity ≡ bucket.capacity
  rate : after.rate ≡ bucket.rate
  onward : bucket.last ≤ after.last
  kept : bucket.level ≤ bucket.capacity → after.level ≤ bucket.capacity
  balance : bucket.level + entered ≤ after.level + bucket.rate * (after.last - bucket.last)

turned : (bucket : Bucket) (moment estimate : ℕ) → Turned bucket (behind bucket moment estimate) estimate (laid (ask bucket moment estimate).0 estimate)
turned bucket moment estimate =
    record {
      capacity = grind (arith, common_steps);
      rate = grind (arith, common_steps);
      onward = grind (arith, common_steps);
      kept = grind (arith, common_steps);
      balance = grind (arith, common_steps);
    }

-- the level stays within the capacity
pub kept : (bucket : Bucket) (questions : List Question) → bucket.level ≤ bucket.capacity → (behind_all bucket questions).level ≤ bucket.capacity
kept bucket [] within = within
kept bucket (q ∷ questions) within =
    let one = turned bucket q.moment q.estimate in
    let next = kept (behind bucket q.moment q.estimate) questions in
    grind (arith, one.capacity, one.kept within, next)

-- a product over a stretch of time is that of its two parts
stretched : (rate first middle last : ℕ) → first ≤ middle → middle ≤ last → rate * (last - first) ≡ rate * (middle - first) + rate * (last - middle)
stretched rate first middle last a b =
    let parts : last - first ≡ (middle - first) + (last - middle) = omega arith in
    rw parts (mul-add rate (middle - first) (last - middle))

-- a level, with all that enters, is the level behind it with what leaks at most
record Balanced (bucket after : Bucket) (entered : ℕ) : Type 0 where
  capacity : after.capacity ≡ bucket.capacity
  onward : bucket.last ≤ after.last
  balance : bucket.level + entered ≤ after.level + bucket.rate * (after.last - bucket.last)

balanced : (bucket : Bucket) (questions : List Question) → Balanced bucket (behind_all bucket questions) (let_in bucket questions)
balanced bucket [] = record { capacity = refl; onward = omega arith; balance = grind (arith, common_steps) }
balanced bucket (q ∷ questions) =
    let middle = behind bucket q.moment q.estimate in
    let last = behind_all middle questions in
    let one = turned bucket q.moment q.estimate in
    let next = balanced middle questions in
    let parts = stretched bucket.rate bucket.last middle.last last.last one.onward next.onward in
    let slow : middle.level + let_in middle questions ≤ last.level + bucket.rate * (last.last - middle.last) = rw one.rate at next.balance in
    record {
      capacity = next.capacity ∙ one.capacity;
      onward = omega (arith, one.onward, next.onward);
      balance = omega (arith, one.balance, slow, parts);
    }

-- what enters in a stretch of time is at most the capacity and what leaks in it
pub limited : (bucket : Bucket) (questions : List Question) → bucket.level ≤ bucket.capacity
    → let_in bucket questions ≤ bucket.capacity + bucket.rate * ((behind_all bucket questions).last - bucket.last)
limited bucket questions within =
    let all = balanced bucket questions in
    let still = kept bucket questions within in
    omega (arith, all.balance, still)
