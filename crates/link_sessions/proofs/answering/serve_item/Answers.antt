use Rattle.http_front.specs.Views.{heard_of}
use Rattle.link_sessions.specs.Servers.{service_of, terms_at}
use Rattle.link_sessions.proofs.DoingLaws.{sent_all, sent_none, sent_part}
use Rattle.link_sessions.proofs.answering.serve_item.Goals as goal

pub returns-in_default-clause-err : goal.returns-in_default-clause-err
returns-in_default-clause-err g c = sent_none g.K.Link.state g.K.Link.exchanged _ _ g.met.K.Link.nothing _ _ _ _ c.in_default.ensures.err

pub returns-in-Ok-write-clause-ok : goal.returns-in-Ok-write-clause-ok
returns-in-Ok-write-clause-ok g c = sent_all g.K.Link.state g.K.Link.exchanged _ _ _ _ _ _ _ _ _ c.as_slice.ensures.value c.in-Ok.ensures.ok c.in-Ok-write.ensures.sent c.in-Ok-write.ensures.ok

pub returns-clause-err : goal.returns-clause-err
returns-clause-err g c =
    sent_part g.K.Link.state g.K.Link.exchanged (terms_at c.args.server.now.config.tenants c.args.tenant) c.args.tenant (service_of c.args.server.now c.args.tenant (g.C.Clock.gave c.args.clock.now)) (heard_of c.args.item) _ _ _ _ _ _ c.as_slice.ensures.value c.in-Ok.ensures.ok c.in-Err.ensures.part c.in-Err.ensures.err
