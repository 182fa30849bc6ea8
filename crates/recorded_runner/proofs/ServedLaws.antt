-- Requests that are served: the job that each is, and what its answer makes of its item.
use Rattle.std.proofs.Common.{◌≡◌, ℕ, zero, suc, ◌≤◌, List, [], ◌∷◌, Option, Some, None, slice_get, option_map, option_and_then, refl, sym, ap, ◌∙◌, arith}
use Rattle.std.specs.List.{AllByRecursion}
use Rattle.http_front.specs.Reply.{reply_of}
use Rattle.http_front.specs.Reported.{Reported, RefusedAs}
use Rattle.http_items.specs.declared.refusals.Refusal.{Refusal}
use Rattle.sandbox_states.specs.Views.{AdmittedView, AnswerView}
use Rattle.serve_config.specs.Configuration.{Configuration}
use Rattle.serve_config.specs.Ranges.{IsRouteInRange, IsTenantInRange}
use Rattle.serve_config.specs.declared.tenants.Route.{Route}
use Rattle.serve_config.specs.declared.tenants.Tenant.{Tenant}
use Rattle.serve_config.specs.Routing.{all_routes}
use Rattle.wasm_meaning.specs.Programs.{Program}
use Rattle.wasm_meaning.specs.Requests.{Request, Verdict, units}
use Rattle.wasm_meaning.specs.Requests as requests
use Rattle.workers.specs.Batches.{IsAnswerTo}
use Rattle.workers.specs.Outcomes.{reported_verdict, reported_of}
use Rattle.recorded_runner.specs.Batch.{IsAnswerFor, IsJobOf, IsWithinBudgets}
use Rattle.recorded_runner.specs.Fates.{Entry, Fate, Refuses, Admits, Decided}
use Rattle.recorded_runner.specs.Lookups.{of_member}
use Rattle.recorded_runner.specs.Replies.{request_to, request_at, verdict_at, reported_fate, content_type_at, reply_to}
use Rattle.recorded_runner.specs.Serving.{AreProgramsOf, AreRoomy, IsReplyTo}
use Rattle.recorded_runner.specs.Summaries.{admitted_in, cost_of, cost_in, turns_in}
use Rattle.recorded_runner.proofs.RouteLaws.{program_fits, routes_in_range}

-- ---- the request

record IsFound (tenants : List Tenant) (programs : List Program) (route : ℕ) (body : List ℕ) (request : Request) : Type 0 where
  program : Program
  has : slice_get programs route ≡ Some program
  is : request_to tenants route body program ≡ request

found : (tenants : List Tenant) (programs : List Program) (route : ℕ) (body : List ℕ) (request : Request) → request_at tenants programs route body ≡ Some request → IsFound tenants programs route body request
found tenants programs route body request made = by (slice_get programs route) refl made
  where
    by : (o : Option Program) → slice_get programs route ≡ o → option_map (request_to tenants route body) o ≡ Some request → IsFound tenants programs route body request
    by None has is = absurd cc
    by (Some program) has is = record { program = program; has = has; is = cc }

pub request_fits : (pages : ℕ) (tenants : List Tenant) (programs : List Program) (route : ℕ) (body : List ℕ) (request : Request) → AreProgramsOf (all_routes tenants) programs → AreRoomy pages (all_routes tenants)
    → request_at tenants programs route body ≡ Some request → request.program.pages ≤ pages
request_fits pages tenants programs route body request are roomy made =
    let f = found tenants programs route body request made in
    omega (arith, program_fits pages (all_routes tenants) programs route f.program are roomy f.has, ap (λ (q : Request). q.program.pages) f.is)

-- a budget is that of a route, or nothing
budget_fits : (routes : List Route) (route : ℕ) → AllByRecursion IsRouteInRange routes → of_member (λ (r : Route). r.budget) 0 routes route ≤ 1099511627776
budget_fits [] route all = omega arith
budget_fits (r ∷ routes) zero all = all.0.budget
budget_fits (r ∷ routes) (suc route) all = budget_fits routes route all.1

pub within_budgets : (tenants : List Tenant) (programs : List Program) (quantum : ℕ) → AllByRecursion IsTenantInRange tenants → ((request : Request) → units request ≤ request.budget)
    → (entry : Entry) (answer : AnswerView) → IsAnswerFor tenants programs quantum entry answer → IsWithinBudgets entry answer
within_budgets tenants programs quantum all within entry answer a =
    let f = found tenants programs entry.route entry.body a.request a.made in
    omega (arith, within a.request, a.answers.answers.units_are, ap (λ (q : Request). q.budget) f.is, budget_fits (all_routes tenants) entry.route (routes_in_range tenants all))

-- the answer to an item's job is the item's
pub answers_for : (tenants : List Tenant) (programs : List Program) (quantum : ℕ) (entry : Entry) (job : AdmittedView) (answer : AnswerView)
    → IsJobOf tenants programs entry job → IsAnswerTo quantum job answer → IsAnswerFor tenants programs quantum entry answer
answers_for tenants programs quantum entry job answer j a = record { request = job.request; made = j.made; answers = a.answers }

-- ---- the item

refused_reply : (tenants : List Tenant) (programs : List Program) (d : Decided) (refusal : Refusal) → d.fate ≡ Refuses refusal → reply_of (RefusedAs refusal) [] d.head d.keep ≡ reply_to tenants programs d
unfolding reply_to
refused_reply tenants programs d refusal is = ap (λ (f : Fate). reply_of (reported_fate tenants programs f) (content_type_at tenants f) d.head d.keep) (sym is)

verdict_made : (tenants : List Tenant) (programs : List Program) (route : ℕ) (body : List ℕ) (request : Request) (given : Verdict) → request_at tenants programs route body ≡ Some request → requests.verdict request ≡ Some given
    → verdict_at tenants programs route body ≡ Some given
verdict_made tenants programs route body request given made is = ap (λ o. option_and_then requests.verdict o) made ∙ is

served_reply : (tenants : List Tenant) (programs : List Program) (quantum : ℕ) (entry : Entry) (d : Decided) (reply : List ℕ) (answer : AnswerView) → d.fate ≡ Admits entry
    → IsAnswerFor tenants programs quantum entry answer
    → reply ≡ reply_of (reported_verdict answer.verdict) (of_member (λ r. r.content_type) [] (all_routes tenants) entry.route) d.head d.keep → reply ≡ reply_to tenants programs d
unfolding reply_to
served_reply tenants programs quantum entry d reply answer is a reply_is =
    let told : reported_of (verdict_at tenants programs entry.route entry.body) ≡ reported_verdict answer.verdict = ap (λ o. reported_of o) (verdict_made tenants programs entry.route entry.body a.request answer.verdict a.made a.answers.answers.verdict_is) in
    reply_is
    ∙ ap (λ (r : Reported). reply_of r (of_member (λ r. r.content_type) [] (all_routes tenants) entry.route) d.head d.keep) (sym told)
    ∙ ap (λ (f : Fate). reply_of (reported_fate tenants programs f) (content_type_at tenants f) d.head d.keep) (sym is)

served_cost : (cost : Request → ℕ) (tenants : List Tenant) (programs : List Program) (entry : Entry) (fate : Fate) (request : Request) (spent : ℕ) → fate ≡ Admits entry
    → request_at tenants programs entry.route entry.body ≡ Some request → spent ≡ cost request → spent ≡ cost_in cost tenants programs fate
served_cost cost tenants programs entry fate request spent is made due =
    due ∙ ap (λ o. cost_of cost o) (sym made) ∙ ap (λ (f : Fate). cost_in cost tenants programs f) (sym is)

pub refused_is : (c : Configuration) (programs : List Program) (d : Decided) (refusal : Refusal) (reply : List ℕ) (admitted turns cost : ℕ) → d.fate ≡ Refuses refusal
    → reply ≡ reply_of (RefusedAs refusal) [] d.head d.keep → admitted ≡ 0 → turns ≡ 0 → cost ≡ 0 → IsReplyTo c programs d reply admitted turns cost
refused_is c programs d refusal reply admitted turns cost is due none unspent free = record {
  reply_is = due ∙ refused_reply c.tenants programs d refusal is;
  admitted_is = none ∙ ap (λ (f : Fate). admitted_in f) (sym is);
  turns_are = unspent ∙ ap (λ (f : Fate). cost_in (turns_in c.quantum) c.tenants programs f) (sym is);
  units_are = free ∙ ap (λ (f : Fate). cost_in units c.tenants programs f) (sym is);
}

pub answered_is : (c : Configuration) (programs : List Program) (d : Decided) (entry : Entry) (answer : AnswerView) (reply : List ℕ) (admitted turns cost : ℕ) → d.fate ≡ Admits entry
    → IsAnswerFor c.tenants programs c.quantum entry answer
    → reply ≡ reply_of (reported_verdict answer.verdict) (of_member (λ r. r.content_type) [] (all_routes c.tenants) entry.route) d.head d.keep → admitted ≡ 1 → turns ≡ answer.turns → cost ≡ answer.units
    → IsReplyTo c programs d reply admitted turns cost
answered_is c programs d entry answer reply admitted turns cost is a due one spent paid = record {
  reply_is = served_reply c.tenants programs c.quantum entry d reply answer is a due;
  admitted_is = one ∙ ap (λ (f : Fate). admitted_in f) (sym is);
  turns_are = served_cost (turns_in c.quantum) c.tenants programs entry d.fate a.request turns is a.made (spent ∙ a.answers.turns_are);
  units_are = served_cost units c.tenants programs entry d.fate a.request cost is a.made (paid ∙ a.answers.answers.units_are);
}
