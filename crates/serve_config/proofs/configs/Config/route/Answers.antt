-- Each route is that of a tenant, and these are in their ranges.
use Rattle.std.proofs.Common.{rules}
use Rattle.serve_config.proofs.Places.{route_in_range}
use Rattle.serve_config.proofs.configs.Config.route.Goals as goal

pub returns-clause-in_range : goal.returns-clause-in_range
returns-clause-in_range c = route_in_range c.args.self.now.tenants c.args.number c.route_at.result.now c.tenants.ensures.in_range.tenants (search rules)
