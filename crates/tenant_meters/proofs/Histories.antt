-- A history that one call ends: it stays legal, and is one call more of its pass alone.
use Rattle.std.proofs.Common.{◌≡◌, ℕ, ◌==◌, eq-eqb, ne_eqb, ◌≢◌, Bool, true, false, List, [], ◌∷◌, ◌++◌, if◌then◌else◌, refl, sym, ap, ◌∙◌, append_assoc}
use Rattle.std.proofs.lemmas.List.{append-nil}
use Rattle.admission.specs.Bucket.{Bucket}
use Rattle.admission.specs.Metering.{ask, behind}
use Rattle.admission.specs.declared.meters.Admission.{Admission}
use Rattle.tenant_meters.specs.Histories.{call, behind_calls, IsLegal, calls_by, GoesOn}
use Rattle.tenant_meters.specs.declared.callers.Call.{Call}

pub behind_push : (bucket : Bucket) (log : List Call) (e : Call) → behind_calls bucket (log ++ e ∷ []) ≡ behind (behind_calls bucket log) e.moment e.estimate
behind_push bucket [] e = refl
behind_push bucket (x ∷ xs) e = behind_push (behind bucket x.moment x.estimate) xs e

pub legal_push : (bucket : Bucket) (log : List Call) (e : Call) → IsLegal bucket log → (ask (behind_calls bucket log) e.moment e.estimate).0 ≡ e.answer → IsLegal bucket (log ++ e ∷ [])
legal_push bucket [] e legal same = (same, tt)
legal_push bucket (x ∷ xs) e legal same = (legal.0, legal_push (behind bucket x.moment x.estimate) xs e legal.1 same)

one_more : (b : Bool) (x : Call) (mine more both : List Call) → both ≡ mine ++ more → (if b then x ∷ both else both) ≡ (if b then x ∷ mine else mine) ++ more
one_more true x mine more both e = ap (λ (l : List Call). x ∷ l) e
one_more false x mine more both e = e

calls_append : (by : ℕ) (xs ys : List Call) → calls_by by (xs ++ ys) ≡ calls_by by xs ++ calls_by by ys
calls_append by [] ys = refl
calls_append by (x ∷ xs) ys = one_more (x.by == by) x (calls_by by xs) (calls_by by ys) (calls_by by (xs ++ ys)) (calls_append by xs ys)

pub own_push : (log : List Call) (by moment estimate : ℕ) (answer : Admission) → calls_by by (log ++ call by moment estimate answer ∷ []) ≡ calls_by by log ++ call by moment estimate answer ∷ []
own_push log by moment estimate answer =
    let e = call by moment estimate answer in
    calls_append by log (e ∷ []) ∙ ap (λ (b : Bool). calls_by by log ++ (if b then e ∷ [] else [])) (eq-eqb by by refl)

pub other_push : (log : List Call) (by other moment estimate : ℕ) (answer : Admission) → other ≢ by → calls_by other (log ++ call by moment estimate answer ∷ []) ≡ calls_by other log
other_push log by other moment estimate answer apart =
    let e = call by moment estimate answer in
    calls_append other log (e ∷ [])
    ∙ (ap (λ (b : Bool). calls_by other log ++ (if b then e ∷ [] else [])) (ne_eqb by other (λ same. apart (sym same)))
    ∙ append-nil (calls_by other log))

-- a history that goes on goes on by one call more too
pub goes_push : (before log : List Call) (e : Call) → GoesOn before log → GoesOn before (log ++ e ∷ [])
goes_push before log e more = (more.0 ++ e ∷ [], ap (λ (l : List Call). l ++ e ∷ []) more.1 ∙ append_assoc before more.0 (e ∷ []))

pub goes_twice : (a b c : List Call) → GoesOn a b → GoesOn b c → GoesOn a c
goes_twice a b c first next = (first.0 ++ next.0, next.1 ∙ (ap (λ (l : List Call). l ++ next.0) first.1 ∙ append_assoc a first.0 next.0))
