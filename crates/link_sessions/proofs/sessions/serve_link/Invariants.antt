use Rattle.std.proofs.Common.{◌≡◌, length}
use Rattle.shop_desks.specs.Shops.{IsVisitOf}
use Rattle.link_sessions.specs.Going.{Going}
use Rattle.link_sessions.specs.Servers.{KeepsParts, service_of, terms_at}
use Rattle.link_sessions.proofs.sessions.serve_link.Given as goal

abbrev pub invariant-loop : goal.invariant-loop
invariant-loop g l = record {
  own : IsVisitOf l.server.shop l.visit;
  going : Going g.K.Link.state g.K.Link.exchanged (terms_at l.server.config.tenants l.tenant) l.tenant (service_of l.server l.tenant (g.C.Clock.gave l.clock))
      l.fn.link l.link l.fn.visit.meter_visit l.visit.meter_visit l.front;
  parts : KeepsParts l.fn.visit l.visit;
}
