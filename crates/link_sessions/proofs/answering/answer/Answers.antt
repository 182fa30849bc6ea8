use Rattle.std.proofs.Common.{[], ◌∷◌}
use Rattle.http_front.specs.Views.{heard_of}
use Rattle.link_sessions.specs.Servers.{service_of, terms_at}
use Rattle.link_sessions.proofs.DoingLaws.{OnErr-anyhow, asks_nothing}
use Rattle.link_sessions.proofs.answering.answer.Goals as goal

-- a refusal that finds no memory asked nothing

pub returns-in-Fault-clause-err : goal.returns-in-Fault-clause-err
returns-in-Fault-clause-err g c =
    OnErr-anyhow c.refusal_text.result
    (asks_nothing (terms_at c.args.server.now.config.tenants c.args.tenant) c.args.tenant (service_of c.args.server.now c.args.tenant (g.C.Clock.gave c.args.clock.now)) (heard_of c.args.item ∷ []) c.args.visit.now.meter_visit)

pub returns-in-None-clause-err : goal.returns-in-None-clause-err
returns-in-None-clause-err g c =
    OnErr-anyhow c.refusal_text-in-None.result
    (asks_nothing (terms_at c.args.server.now.config.tenants c.args.tenant) c.args.tenant (service_of c.args.server.now c.args.tenant (g.C.Clock.gave c.args.clock.now)) (heard_of c.args.item ∷ []) c.args.visit.now.meter_visit)
