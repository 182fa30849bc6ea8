-- What the tenant's router finds is what its table has.
use Rattle.serve_config.proofs.Making.{found_at}
use Rattle.serve_config.proofs.routers.Routes.find.Goals as goal

pub returns-in-Ok : goal.returns-in-Ok
returns-in-Ok c =
    let f = found_at c.self.inside.routers.items c.args.tenant c.index-router.result.now c.args.path.now (rw (← c.self.view_is) at c.requires) c.index-router.ensures c.self.invariant in
    rw (← c.self.view_is) (rw c.in-Ok.ensures.found at f)

pub returns-in-Err : goal.returns-in-Err
returns-in-Err c =
    let f = found_at c.self.inside.routers.items c.args.tenant c.index-router.result.now c.args.path.now (rw (← c.self.view_is) at c.requires) c.index-router.ensures c.self.invariant in
    rw (← c.self.view_is) (rw c.in-Err.ensures.missing at f)
