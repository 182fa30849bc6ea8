use Rattle.std.proofs.Common.{◌≡◌, ℕ, List, [], ◌∷◌, refl, sym, ap, ◌∙◌, subst, rules}
use Rattle.admission.specs.declared.meters.Admission.TheVariants.{Entered, Spent}
use Rattle.http_front.specs.Reply.{reply_of}
use Rattle.http_front.specs.Reported.{RefusedAs, reported}
use Rattle.http_items.specs.Headings.{is_head}
use Rattle.http_items.specs.Items.{Asked}
use Rattle.http_items.specs.declared.refusals.Refusal.TheVariants.{AdmissionSpent}
use Rattle.sandbox_states.specs.Views.{told}
use Rattle.serve_config.specs.Routing.{all_routes}
use Rattle.tenant_meters.specs.Metered.{PassView}
use Rattle.workers.specs.Outcomes.{reported_of, reported_verdict}
use Rattle.recorded_runner.proofs.RouteLaws.{member_is}
use Rattle.link_sessions.specs.Calling.{AsksMeter}
use Rattle.link_sessions.specs.Going.{Asks}
use Rattle.link_sessions.specs.Servers.{service_of, terms_at}
use Rattle.link_sessions.specs.Serving.{Begins, Replies}
use Rattle.link_sessions.proofs.AskingLaws.{IfOk-then, asks_all, asks_begun, reply_same}
use Rattle.link_sessions.proofs.DoingLaws.{OnErr-anyhow}
use Rattle.link_sessions.proofs.answering.serve_routed.Goals as goal

pub returns-in-Spent-clause-ok : goal.returns-in-Spent-clause-ok
returns-in-Spent-clause-ok g c =
    let s = service_of c.args.server.now c.args.tenant (g.C.Clock.gave c.args.clock.now) in
    let given = terms_at c.args.server.now.config.tenants c.args.tenant in
    let ask = c.args.ask in
    let item = Asked ask.method ask.path ask.keep ask.body.items in
    let routes = all_routes c.args.server.now.config.tenants in
    let head : c.eq-head.result ≡ is_head ask.method = search rules in
    IfOk-then (λ text. text.items ≡ reply_of (RefusedAs AdmissionSpent) [] c.eq-head.result ask.keep)
    (λ text. Asks given c.args.tenant (Replies s (item ∷ [])) text.items c.args.visit.now.meter_visit c.ask.new.visit.meter_visit) c.refusal_text.result
    (λ text is.
    asks_all given c.args.tenant s item c.args.number c.args.visit.now.meter_visit c.ask.new.visit.meter_visit c.now-moment.result c.route-route.result.now.estimate (Spent c.in-Spent.level c.in-Spent.estimate c.in-Spent.capacity) text.items
    c.requires.route (sym (member_is (λ r. r.estimate) 0 routes c.args.number c.route-route.result.now c.route-route.ensures.is)) c.now-moment.ensures.given c.in-Spent.ensures.asked
    (is ∙ reply_same (RefusedAs AdmissionSpent) (RefusedAs AdmissionSpent) [] [] c.eq-head.result (is_head ask.method) ask.keep refl refl head))
    c.refusal_text.ensures

pub returns-in-Spent-clause-err : goal.returns-in-Spent-clause-err
returns-in-Spent-clause-err g c =
    let s = service_of c.args.server.now c.args.tenant (g.C.Clock.gave c.args.clock.now) in
    let ask = c.args.ask in
    OnErr-anyhow c.refusal_text.result
    (asks_begun (terms_at c.args.server.now.config.tenants c.args.tenant) c.args.tenant s (Asked ask.method ask.path ask.keep ask.body.items) c.args.number c.args.visit.now.meter_visit c.ask.new.visit.meter_visit c.now-moment.result c.route-route.result.now.estimate (Spent c.in-Spent.level c.in-Spent.estimate c.in-Spent.capacity)
    c.requires.route (sym (member_is (λ r. r.estimate) 0 (all_routes c.args.server.now.config.tenants) c.args.number c.route-route.result.now c.route-route.ensures.is)) c.now-moment.ensures.given c.in-Spent.ensures.asked)

pub returns-in_err-verdict-in-Entered-clause-err : goal.returns-in_err-verdict-in-Entered-clause-err
returns-in_err-verdict-in-Entered-clause-err g c =
    let s = service_of c.args.server.now c.args.tenant (g.C.Clock.gave c.args.clock.now) in
    let given = terms_at c.args.server.now.config.tenants c.args.tenant in
    let ask = c.args.ask in
    let estimate = c.route-route.result.now.estimate in
    let asked : AsksMeter given c.args.tenant c.args.visit.now.meter_visit c.run.new.visit.meter_visit c.now-moment.result estimate Entered =
    subst (λ (p : List PassView). AsksMeter given c.args.tenant c.args.visit.now.meter_visit p c.now-moment.result estimate Entered) (sym c.run.ensures.meters) c.in-Entered.ensures.asked in
    OnErr-anyhow c.from_residual.result
    (asks_begun given c.args.tenant s (Asked ask.method ask.path ask.keep ask.body.items) c.args.number c.args.visit.now.meter_visit c.run.new.visit.meter_visit c.now-moment.result estimate Entered
    c.requires.route (sym (member_is (λ r. r.estimate) 0 (all_routes c.args.server.now.config.tenants) c.args.number c.route-route.result.now c.route-route.ensures.is)) c.now-moment.ensures.given asked)

pub returns-in_ok-verdict-in-Entered-clause-ok : goal.returns-in_ok-verdict-in-Entered-clause-ok
returns-in_ok-verdict-in-Entered-clause-ok g c =
    let s = service_of c.args.server.now c.args.tenant (g.C.Clock.gave c.args.clock.now) in
    let given = terms_at c.args.server.now.config.tenants c.args.tenant in
    let ask = c.args.ask in
    let item = Asked ask.method ask.path ask.keep ask.body.items in
    let routes = all_routes c.args.server.now.config.tenants in
    let route = c.route-route.result.now in
    let head : c.eq-head.result ≡ is_head ask.method = search rules in
    let asked : AsksMeter given c.args.tenant c.args.visit.now.meter_visit c.run.new.visit.meter_visit c.now-moment.result route.estimate Entered =
    subst (λ (p : List PassView). AsksMeter given c.args.tenant c.args.visit.now.meter_visit p c.now-moment.result route.estimate Entered) (sym c.run.ensures.meters) c.in-Entered.ensures.asked in
    let reports : reported c.outcome_of.result ≡ s.reported c.args.number ask.body.items =
    c.outcome_of.ensures.reports ∙ sym (ap reported_of c.in_ok-verdict-in-Entered.ensures.verdict) in
    let type : c.as_str-content_type.result.now ≡ s.content_type c.args.number =
    c.as_str-content_type.ensures ∙ sym (member_is (λ r. r.content_type) [] routes c.args.number route c.route-route.ensures.is) in
    IfOk-then (λ text. text.items ≡ reply_of (reported c.outcome_of.result) c.as_str-content_type.result.now c.eq-head.result ask.keep)
    (λ text. Asks given c.args.tenant (Replies s (item ∷ [])) text.items c.args.visit.now.meter_visit c.run.new.visit.meter_visit) c.reply_text.result
    (λ text is.
    asks_all given c.args.tenant s item c.args.number c.args.visit.now.meter_visit c.run.new.visit.meter_visit c.now-moment.result route.estimate Entered text.items
    c.requires.route (sym (member_is (λ r. r.estimate) 0 routes c.args.number route c.route-route.ensures.is)) c.now-moment.ensures.given asked
    (is ∙ reply_same (reported c.outcome_of.result) (s.reported c.args.number ask.body.items) c.as_str-content_type.result.now (s.content_type c.args.number) c.eq-head.result (is_head ask.method) ask.keep reports type head))
    c.reply_text.ensures

pub returns-in_ok-verdict-in-Entered-clause-err : goal.returns-in_ok-verdict-in-Entered-clause-err
returns-in_ok-verdict-in-Entered-clause-err g c =
    let s = service_of c.args.server.now c.args.tenant (g.C.Clock.gave c.args.clock.now) in
    let given = terms_at c.args.server.now.config.tenants c.args.tenant in
    let ask = c.args.ask in
    let estimate = c.route-route.result.now.estimate in
    let asked : AsksMeter given c.args.tenant c.args.visit.now.meter_visit c.run.new.visit.meter_visit c.now-moment.result estimate Entered =
    subst (λ (p : List PassView). AsksMeter given c.args.tenant c.args.visit.now.meter_visit p c.now-moment.result estimate Entered) (sym c.run.ensures.meters) c.in-Entered.ensures.asked in
    OnErr-anyhow c.reply_text.result
    (asks_begun given c.args.tenant s (Asked ask.method ask.path ask.keep ask.body.items) c.args.number c.args.visit.now.meter_visit c.run.new.visit.meter_visit c.now-moment.result estimate Entered
    c.requires.route (sym (member_is (λ r. r.estimate) 0 (all_routes c.args.server.now.config.tenants) c.args.number c.route-route.result.now c.route-route.ensures.is)) c.now-moment.ensures.given asked)
