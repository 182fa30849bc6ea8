-- The place that is left is that of the route among those of the tenants that are left.
use Rattle.std.proofs.Common.{◌≡◌, ◌<◌, length, drop}
use Rattle.std.specs.Prelude.{slice_get}
use Rattle.serve_config.specs.Routing.{all_routes}
use Rattle.serve_config.proofs.configs.route_at.Given as goal

abbrev pub invariant-loop-tenant : goal.invariant-loop-tenant
invariant-loop-tenant l = record {
  within : l.left < length (all_routes (drop l.tenant-index l.tenants));
  same : slice_get (all_routes (drop l.tenant-index l.tenants)) l.left ≡ slice_get (all_routes l.tenants) l.place;
}
