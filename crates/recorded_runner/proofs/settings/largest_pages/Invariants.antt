use Rattle.std.proofs.Common.{◌≡◌, ℕ, ◌+◌, ◌*◌, ◌<◌, ◌≤◌, Some, slice_get}
use Rattle.serve_config.specs.declared.tenants.Route.{Route}
use Rattle.serve_config.specs.Routing.{all_routes}
use Rattle.recorded_runner.proofs.settings.largest_pages.Given as goal

abbrev pub invariant-loop-number : goal.invariant-loop-number
invariant-loop-number l = record {
  some : 1 ≤ l.most;
  room : (l.config.berths + 1) * l.most ≤ 16384;
  below : (k : ℕ) (r : Route) → k < l.number → slice_get (all_routes l.config.tenants) k ≡ Some r → r.pages ≤ l.most;
}
