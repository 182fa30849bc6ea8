-- The route is one of the tenant's own, or stands behind them.
use Rattle.serve_config.proofs.Places.{place_here, place_behind}
use Rattle.std.proofs.Common.{sym, ◌∙◌, arith}
use Rattle.serve_config.proofs.configs.route_at.Goals as goal

pub returns-then-left-routes : goal.returns-then-left-routes
returns-then-left-routes c =
    sym c.loop-tenant.invariant.same
    ∙ place_here c.args.tenants.now c.loop-tenant.tenant-index c.loop-tenant.left c.tenant-item.result c.as_slice-routes.result.now c.index-routes-left.result c.loop-tenant-test.true c.tenant-item.is c.as_slice-routes.ensures c.if-left-routes.true c.index-routes-left.is

pub loop-tenant-preserved : goal.loop-tenant-preserved
loop-tenant-preserved c =
    let next = place_behind c.args.tenants.now c.loop-tenant.tenant-index c.loop-tenant.left c.tenant-item.result c.as_slice-routes.result.now c.loop-tenant-test.true c.tenant-item.is c.as_slice-routes.ensures (omega (arith, c.if-left-routes.false)) c.loop-tenant.invariant.within in
    record { within = next.0; same = next.1 ∙ c.loop-tenant.invariant.same }
