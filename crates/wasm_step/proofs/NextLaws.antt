-- Which answer comes, from what the parts of a step say.
use Rattle.std.proofs.Common.{◌≡◌, ℕ, zero, suc, ◌<◌, ◌≤◌, Bool, true, false, cond, List, [], ◌∷◌, length, Option, Some, None, slice_get, sym, ap, subst, ◌∙◌, arith}
use Rattle.wasm_ops.specs.declared.host_calls.HostName.{HostName}
use Rattle.wasm_ops.specs.declared.operators.Op.{Op}
use Rattle.wasm_ops.specs.declared.operators.Op.TheVariants as op
use Rattle.wasm_meaning.specs.Programs.{Program}
use Rattle.wasm_store.specs.View.{View}
use Rattle.wasm_store.specs.declared.calls.Frame.{Frame}
use Rattle.wasm_instance.specs.declared.callees.Callee.{Callee as Kept}
use Rattle.wasm_instance.specs.declared.callees.Callee.TheVariants as kept
use Rattle.wasm_instance.specs.declared.callees.Shape.{Shape}
use Rattle.wasm_states.specs.Codes.{op_at}
use Rattle.wasm_step.specs.Arguments.{Asks, Enters}
use Rattle.wasm_step.specs.Asking.{asked_by, host_of}
use Rattle.wasm_step.specs.Does.{IsPriced}
use Rattle.wasm_step.specs.Means.{IsEnded}
use Rattle.wasm_step.specs.Next.{GoesFree, EntersFree, CostsOne, IsShort, Names, AtRest, AtEnd, ForOne, ForPrice, AnswersTo, AnswersNext}
use Rattle.wasm_step.specs.declared.answers.Step.{Step}
use Rattle.wasm_step.specs.declared.answers.Step.TheVariants as step

-- The end.

pub rests_over : (entries : List ℕ) (answer : Step) → slice_get entries 0 ≡ None → IsEnded answer → AtRest entries answer
rests_over [] answer none ended = ended
rests_over (body ∷ others) answer none ended = let bad : ⊥ = cc in absurd bad

pub rests_before : (entries : List ℕ) (body : ℕ) (answer : Step) → slice_get entries 0 ≡ Some body → EntersFree answer → AtRest entries answer
rests_before [] body answer some enters = let bad : ⊥ = cc in absurd bad
rests_before (first ∷ others) body answer some enters = enters

pub at_rest : (frames : List Frame) (entries : List ℕ) (answer : Step) → length frames ≡ 0 → AtRest entries answer → AtEnd frames entries answer
at_rest [] entries answer none rests = rests
at_rest (frame ∷ frames) entries answer none rests = let bad : ⊥ = omega (arith, none) in absurd bad

pub at_live : (frames : List Frame) (entries : List ℕ) (answer : Step) → 0 < length frames → GoesFree answer → AtEnd frames entries answer
at_live [] entries answer some goes = let bad : ⊥ = omega (arith, some) in absurd bad
at_live (frame ∷ frames) entries answer some goes = goes

-- Calls.

pub entered_next : (v v' : View) (body : ℕ) (shape : Shape) (answer : Step) → Enters v body shape v' answer → CostsOne answer
entered_next v v' body shape (step.Went price) enters = enters.0
entered_next v v' body shape (step.Trapped trap price) enters = enters.0
entered_next v v' body shape step.Free enters = enters
entered_next v v' body shape (step.Host call) enters = enters
entered_next v v' body shape step.Ended enters = enters
entered_next v v' body shape step.Short enters = enters

pub asked_next : (v v' : View) (name : HostName) (indirect : Bool) (answer : Step) → Asks v name indirect v' answer → Names name answer
asked_next v v' name indirect (step.Host call) asks = asks.1
asked_next v v' name indirect (step.Went price) asks = asks
asked_next v v' name indirect (step.Trapped trap price) asks = asks
asked_next v v' name indirect step.Free asks = asks
asked_next v v' name indirect step.Ended asks = asks
asked_next v v' name indirect step.Short asks = asks

-- no function of the host is called
pub no_host : (asked : Option HostName) (left : ℕ) (answer : Step) → asked ≡ None → ForOne left answer → ForPrice asked left answer
no_host asked left answer none goes = subst (λ (o : Option HostName). ForPrice o left answer) (sym none) goes

pub a_host : (asked : Option HostName) (name : HostName) (left : ℕ) (answer : Step) → asked ≡ Some name → Names name answer → ForPrice asked left answer
a_host asked name left answer some names = subst (λ (o : Option HostName). ForPrice o left answer) (sym some) names

-- what is short
pub short_next : (p : Program) (v : View) (o : Op) → IsPriced o → asked_by p v (Some o) ≡ None → AnswersTo p v 0 (Some o) step.Short
short_next p v op.End priced quiet = absurd priced
short_next p v (op.Else end) priced quiet = absurd priced
short_next p v o priced quiet = no_host (asked_by p v (Some o)) 0 step.Short quiet tt

-- Whole steps.

price_more : (asked : Option HostName) (more : ℕ) (answer : Step) → ForPrice asked 1 answer → ForPrice asked (suc more) answer
price_more None more answer goes = goes
price_more (Some name) more answer goes = goes

answers_more : (p : Program) (v : View) (more : ℕ) (o : Op) (answer : Step) → AnswersTo p v 1 (Some o) answer → AnswersTo p v (suc more) (Some o) answer
answers_more p v more op.End answer goes = goes
answers_more p v more (op.Else end) answer goes = goes
answers_more p v more o answer goes = price_more (asked_by p v (Some o)) more answer goes

pub next_of : (p : Program) (u v : View) (left : ℕ) (o : Op) (answer : Step) → u ≡ v → op_at p v ≡ Some o → AnswersTo p u left (Some o) answer → AnswersNext p v left answer
next_of p u v left o answer e at goes =
    subst (λ (x : Option Op). AnswersTo p v left x answer) (sym at) (subst (λ (x : View). AnswersTo p x left (Some o) answer) e goes)

pub next_left : (p : Program) (u v : View) (left : ℕ) (o : Op) (answer : Step) → u ≡ v → op_at p v ≡ Some o → 1 ≤ left → AnswersTo p u 1 (Some o) answer → AnswersNext p v left answer
next_left p u v zero o answer e at some goes = let bad : ⊥ = omega (arith, some) in absurd bad
next_left p u v (suc more) o answer e at some goes = next_of p u v (suc more) o answer e at (answers_more p u more o answer goes)
