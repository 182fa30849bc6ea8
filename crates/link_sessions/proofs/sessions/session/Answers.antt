use Rattle.link_sessions.specs.Servers.{service_of, terms_at}
use Rattle.link_sessions.proofs.CallingLaws.{one_history, others_stay}
use Rattle.link_sessions.proofs.GoingLaws.{served_all_of, served_of}
use Rattle.link_sessions.proofs.sessions.session.Goals as goal

pub returns-clause-served : goal.returns-clause-served
returns-clause-served g c =
    served_of g.K.Link.state g.K.Link.exchanged (terms_at c.args.server.now.config.tenants c.args.tenant) c.args.tenant (service_of c.args.server.now c.args.tenant (g.C.Clock.gave c.args.clock.now)) _ _ _ _ _ c.serve_link.ensures.serves

pub returns-clause-done : goal.returns-clause-done
returns-clause-done g c = λ is.
    served_all_of g.K.Link.state g.K.Link.exchanged (terms_at c.args.server.now.config.tenants c.args.tenant) c.args.tenant (service_of c.args.server.now c.args.tenant (g.C.Clock.gave c.args.clock.now)) _ _ _ _ _ c.serve_link.ensures.serves is

pub returns-clause-history : goal.returns-clause-history
returns-clause-history g c = one_history _ _ _ _ _ c.serve_link.ensures.serves.called

pub returns-clause-others : goal.returns-clause-others
returns-clause-others g c = others_stay _ _ _ _ _ c.serve_link.ensures.serves.called
