-- The routes before this one are in the router, each with its number.
use Rattle.std.proofs.Common.{◌≡◌, ◌+◌, take}
use Rattle.serve_config.specs.Tables.{IsTable}
use Rattle.serve_config.proofs.routers.router_of.Given as goal

abbrev pub invariant-loop-route : goal.invariant-loop-route
invariant-loop-route l = record {
  place : l.number ≡ l.first + l.route-index;
  table : IsTable l.first (take l.route-index l.routes) l.router;
}
