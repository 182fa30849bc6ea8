-- The routes of the tenants before this one are counted.
use Rattle.std.proofs.Common.{◌≡◌}
use Rattle.serve_config.specs.Routing.{routes_before}
use Rattle.link_sessions.proofs.routing.count_routes.Given as goal

abbrev pub invariant-loop-tenant : goal.invariant-loop-tenant
invariant-loop-tenant l = l.count ≡ routes_before l.tenants l.tenant-index
