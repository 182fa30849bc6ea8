-- The tenants that are left have too many routes for what is left exactly where all have.
use Rattle.std.proofs.Common.{◌≡◌, drop}
use Rattle.std.specs.Prelude.{nat_lt}
use Rattle.serve_config.specs.Overview.{route_count}
use Rattle.serve_config.proofs.overview.has_many_routes.Given as goal

abbrev pub invariant-loop-tenant : goal.invariant-loop-tenant
invariant-loop-tenant l = nat_lt l.left (route_count (drop l.tenant-index l.tenants)) ≡ nat_lt 64 (route_count l.tenants)
