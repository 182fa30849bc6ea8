-- The routers of the tenants before this one are made, and the next route has this number.
use Rattle.std.proofs.Common.{◌≡◌, take}
use Rattle.serve_config.specs.Routing.{routes_before}
use Rattle.serve_config.specs.Tables.{AreMade}
use Rattle.serve_config.proofs.routers.routers_of.Given as goal

abbrev pub invariant-loop-tenant : goal.invariant-loop-tenant
invariant-loop-tenant l = record {
  place : l.first ≡ routes_before l.tenants l.tenant-index;
  made : AreMade 0 (take l.tenant-index l.tenants) l.routers.items;
}
