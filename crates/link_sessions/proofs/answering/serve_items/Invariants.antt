use Rattle.std.proofs.Common.{◌≡◌, ◌≤◌, List, ◌++◌, length, map}
use Rattle.std.specs.List.{AllByRecursion}
use Rattle.http_front.specs.Views.{heard_of}
use Rattle.http_items.specs.Items.{Heard, IsWithin}
use Rattle.shop_desks.specs.Shops.{IsVisitOf}
use Rattle.link_sessions.specs.Going.{Does, IsKept}
use Rattle.link_sessions.specs.Servers.{KeepsParts, service_of, terms_at}
use Rattle.link_sessions.specs.Serving.{Replies}
use Rattle.link_sessions.proofs.answering.serve_items.Given as goal

abbrev pub invariant-loop-item : goal.invariant-loop-item
invariant-loop-item g l = record {
  own : IsVisitOf l.server.shop l.visit;
  served : List Heard;
  split : served ++ map heard_of l.rest.items ≡ map heard_of l.fn.items.items;
  within : AllByRecursion IsWithin (map heard_of l.rest.items);
  does : Does g.K.Link.state g.K.Link.exchanged (terms_at l.server.config.tenants l.tenant) l.tenant (Replies (service_of l.server l.tenant (g.C.Clock.gave l.clock)) served)
      l.fn.link l.link l.fn.visit.meter_visit l.visit.meter_visit;
  kept : IsKept l.keep served;
  parts : KeepsParts l.fn.visit l.visit;
  later : (g.K.Link.state l.fn.link).faults ≤ (g.K.Link.state l.link).faults;
}

abbrev pub decreases-loop-item : goal.decreases-loop-item
decreases-loop-item g l = length l.rest.items
