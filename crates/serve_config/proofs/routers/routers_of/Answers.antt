-- One router more, for the next tenant.
use Rattle.serve_config.proofs.Making.{made_next}
use Rattle.serve_config.proofs.routers.routers_of.Goals as goal

pub loop-tenant-preserved : goal.loop-tenant-preserved
loop-tenant-preserved c =
    let next = made_next c.args.tenants.now c.loop-tenant.tenant-index c.tenant-item.result c.loop-tenant.routers.items c.in_ok-router_of.field-0 c.loop-tenant.first c.as_slice-routes.result.now c.loop-tenant-test.true c.tenant-item.is c.as_slice-routes.ensures c.loop-tenant.invariant.place c.loop-tenant.invariant.made c.in_ok-router_of.ensures in
    record { place = next.0; made = rw c.in_ok-push.ensures.items next.1 }
