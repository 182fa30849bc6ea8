-- The next path is not there yet, and then it is.
use Rattle.std.proofs.Common.{arith}
use Rattle.serve_config.proofs.Tabling.{fresh, table_more, good_path}
use Rattle.serve_config.proofs.routers.router_of.Goals as goal

pub add-requires-clause-another : goal.add-requires-clause-another
add-requires-clause-another c =
    rw c.as_str.ensures
    (fresh c.args.first c.args.routes.now c.loop-route.route-index c.route-item.result c.loop-route.router c.loop-route-test.true c.route-item.is c.requires.once c.loop-route.invariant.table)

pub loop-route-preserved : goal.loop-route-preserved
loop-route-preserved c =
    let good = good_path c.args.routes.now c.loop-route.route-index c.route-item.result c.loop-route-test.true c.route-item.is c.requires.paths in
    record {
      place = omega (arith, c.loop-route.invariant.place);
      table = rw (c.in_ok-add.ensures, c.as_str.ensures)
          (table_more c.args.first c.loop-route.number c.args.routes.now c.loop-route.route-index c.route-item.result c.loop-route.router c.loop-route-test.true c.route-item.is c.requires.once good c.loop-route.invariant.place c.loop-route.invariant.table);
    }
