-- What a configuration keeps is what its routers need.
use Rattle.serve_config.proofs.Making.{nothing_wrong, made_texts, tables_made}
use Rattle.serve_config.proofs.routers.Routes.new.Goals as goal

pub routers_of-requires-clause-few : goal.routers_of-requires-clause-few
routers_of-requires-clause-few c = rw c.tenants.ensures.same (nothing_wrong c.args.config.now.berths c.args.config.now.tenants c.tenants.ensures.fits).0

pub routers_of-requires-clause-paths : goal.routers_of-requires-clause-paths
routers_of-requires-clause-paths c = rw c.tenants.ensures.same (nothing_wrong c.args.config.now.berths c.args.config.now.tenants c.tenants.ensures.fits).1

pub routers_of-requires-clause-once : goal.routers_of-requires-clause-once
routers_of-requires-clause-once c = rw c.tenants.ensures.same (nothing_wrong c.args.config.now.berths c.args.config.now.tenants c.tenants.ensures.fits).2

pub invariant_of-result : goal.invariant_of-result
invariant_of-result c = made_texts 0 c.tenants.result.now c.in_ok-routers.routers.items c.in_ok-routers.ensures

pub returns : goal.returns
returns c = tables_made c.args.config.now c.in_ok-routers.routers.items (rw c.tenants.ensures.same at c.in_ok-routers.ensures)
