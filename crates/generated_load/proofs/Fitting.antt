-- The configuration of the load is one: its values are in their ranges, and nothing is wrong with it as a whole.
use Rattle.std.proofs.Common.{◌≡◌, ℕ, ◌≤◌, List, length, codes, None, refl, arith}
use Rattle.serve_config.specs.Overview.{first_fault}
use Rattle.serve_config.specs.Ranges.{IsBetween, IsInRange, IsRouteInRange, IsTenantInRange}
use Rattle.generated_load.specs.Configuration.{soak_route, soak_tenant, soak_configuration}

pub nothing_wrong : first_fault soak_configuration.berths soak_configuration.tenants ≡ None
unfolding first_fault
nothing_wrong = refl

-- a route of such a path, file, pages, estimate and deadline
route_in_range : (path file : List ℕ) (pages estimate deadline : ℕ)
    → IsBetween 1 256 (length path) → IsBetween 1 256 (length file) → IsBetween 1 1024 pages → estimate ≤ 1000 → deadline ≤ 1000
    → IsRouteInRange (soak_route path file pages estimate deadline)
route_in_range path file pages estimate deadline p f g e d = record {
  path = p;
  file = f;
  budget = omega arith;
  pages = g;
  estimate = omega arith;
  deadline = omega arith;
  content_type = record { above = omega arith; below = omega arith };
}

nil_in_range : IsRouteInRange (soak_route (codes "/nil") (codes "m0") 1 10 10)
nil_in_range = route_in_range (codes "/nil") (codes "m0") 1 10 10 (record { above = omega arith; below = omega arith }) (record { above = omega arith; below = omega arith }) (record { above = omega arith; below = omega arith }) (omega arith) (omega arith)

trap_in_range : IsRouteInRange (soak_route (codes "/trap") (codes "m1") 1 10 10)
trap_in_range = route_in_range (codes "/trap") (codes "m1") 1 10 10 (record { above = omega arith; below = omega arith }) (record { above = omega arith; below = omega arith }) (record { above = omega arith; below = omega arith }) (omega arith) (omega arith)

loop_in_range : IsRouteInRange (soak_route (codes "/loop") (codes "m2") 1 1000 20)
loop_in_range = route_in_range (codes "/loop") (codes "m2") 1 1000 20 (record { above = omega arith; below = omega arith }) (record { above = omega arith; below = omega arith }) (record { above = omega arith; below = omega arith }) (omega arith) (omega arith)

echo_in_range : IsRouteInRange (soak_route (codes "/echo") (codes "e") 2 200 20)
echo_in_range = route_in_range (codes "/echo") (codes "e") 2 200 20 (record { above = omega arith; below = omega arith }) (record { above = omega arith; below = omega arith }) (record { above = omega arith; below = omega arith }) (omega arith) (omega arith)

tenant_in_range : IsTenantInRange soak_tenant
tenant_in_range = record {
  name = record { above = omega arith; below = omega arith };
  letters = refl;
  port = record { above = omega arith; below = omega arith };
  capacity = omega arith;
  rate = omega arith;
  few = record { above = omega arith; below = omega arith };
  routes = (nil_in_range, (trap_in_range, (loop_in_range, (echo_in_range, tt))));
}

pub in_range : IsInRange soak_configuration
in_range = record {
  workers = record { above = omega arith; below = omega arith };
  quantum = record { above = omega arith; below = omega arith };
  berths = record { above = omega arith; below = omega arith };
  clerks = record { above = omega arith; below = omega arith };
  few = record { above = omega arith; below = omega arith };
  tenants = (tenant_in_range, tt);
}
