-- The programs of the routes before this one are loaded.
use Rattle.std.proofs.Common.{◌≡◌, ◌≤◌}
use Rattle.serve_config.specs.Routing.{all_routes}
use Rattle.serve_config.specs.Loaded.{programs_in}
use Rattle.serve_config.proofs.Loadings.{Onward}
use Rattle.serve_config.proofs.loading.load_programs.Given as goal

abbrev pub invariant-loop-number : goal.invariant-loop-number
invariant-loop-number g l = record {
  onward : Onward g.L.Library.gave (all_routes l.config.tenants) l.fn.lib l.number l.lib (programs_in l.programs.items);
  same : (g.L.Library.state l.lib).held ≡ (g.L.Library.state l.fn.lib).held;
  later : (g.L.Library.state l.fn.lib).faults ≤ (g.L.Library.state l.lib).faults;
}
