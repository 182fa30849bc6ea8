-- No route so far has the path.
use Rattle.std.proofs.Common.{◌≡◌, ◌+◌, drop}
use Rattle.std.specs.Str.{bytes_eq}
use Rattle.std.specs.List.{position_from}
use Rattle.link_sessions.proofs.routing.number_from.Given as goal

abbrev pub invariant-loop-route : goal.invariant-loop-route
invariant-loop-route l = record {
  place : l.number ≡ l.first + l.route-index;
  same : position_from (λ route. bytes_eq route.path l.path) l.number (drop l.route-index l.routes) ≡ position_from (λ route. bytes_eq route.path l.path) l.first l.routes;
}
