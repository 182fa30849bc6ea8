-- A configuration has at most 64 routes.
use Rattle.std.proofs.Common.{ap, ◌∙◌, List}
use Rattle.serve_config.specs.declared.tenants.Tenant.{Tenant}
use Rattle.serve_config.specs.Overview.{route_count}
use Rattle.serve_config.proofs.Making.{nothing_wrong}
use Rattle.serve_config.proofs.Places.{count_is}
use Rattle.serve_config.proofs.configs.Config.route_count.Goals as goal

pub count_routes-requires : goal.count_routes-requires
count_routes-requires c = rw c.tenants.ensures.same (nothing_wrong c.args.self.now.berths c.args.self.now.tenants c.tenants.ensures.fits).0

pub returns-clause-counted : goal.returns-clause-counted
returns-clause-counted c = c.count_routes.ensures ∙ (ap (λ (ts : List Tenant). route_count ts) c.tenants.ensures.same ∙ count_is c.args.self.now.tenants)

pub returns-clause-few : goal.returns-clause-few
returns-clause-few c = rw (c.count_routes.ensures, c.tenants.ensures.same) (nothing_wrong c.args.self.now.berths c.args.self.now.tenants c.tenants.ensures.fits).0
