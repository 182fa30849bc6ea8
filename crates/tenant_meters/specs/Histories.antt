-- Histories of a meter: all its calls, whoever made them, in one order.
use Rattle.std.specs.Prelude.{◌≡◌, ℕ, ◌+◌, ◌==◌, List, [], ◌∷◌, ◌++◌, map, if◌then◌else◌}
use Rattle.admission.specs.Bucket.{Bucket}
use Rattle.admission.specs.Metering.{ask, behind, behind_all, laid, Question}
use Rattle.admission.specs.declared.meters.Admission.{Admission}
use Rattle.tenant_meters.specs.declared.callers.Call.{Call}
use Rattle.tenant_meters.specs.declared.callers.Terms.{Terms}

abbrev pub call : (by moment estimate : ℕ) → Admission → Call
call by moment estimate answer = record { by = by; moment = moment; estimate = estimate; answer = answer }

-- what a call asks
abbrev pub question_of : Call → Question
question_of c = record { moment = c.moment; estimate = c.estimate }

-- the bucket of these terms before the first call
abbrev pub empty_bucket : Terms → Bucket
empty_bucket given = record { capacity = given.capacity; rate = given.rate; level = 0; last = 0 }

-- the bucket behind all calls
abbrev pub behind_calls : Bucket → List Call → Bucket
behind_calls bucket calls = behind_all bucket (map question_of calls)

-- each answer is that of the leaky bucket behind the calls before
abbrev pub IsLegal : Bucket → List Call → Type 0
IsLegal bucket [] = Unit {0}
IsLegal bucket (c ∷ calls) = ((ask bucket c.moment c.estimate).0 ≡ c.answer) × IsLegal (behind bucket c.moment c.estimate) calls

-- the calls of the pass of this number, in order
abbrev pub calls_by : (by : ℕ) → List Call → List Call
calls_by by [] = []
calls_by by (c ∷ calls) = if c.by == by then c ∷ calls_by by calls else calls_by by calls

-- the longer history begins with the shorter one
abbrev pub GoesOn : (before after : List Call) → Type 0
GoesOn before after = (more : List Call) × (after ≡ before ++ more)

-- the estimates of the calls that were let in, together
abbrev pub entered : List Call → ℕ
entered [] = 0
entered (c ∷ calls) = laid c.answer c.estimate + entered calls
