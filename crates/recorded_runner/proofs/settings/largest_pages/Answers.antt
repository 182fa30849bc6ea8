use Rattle.std.proofs.Common.{◌≡◌, ℕ, ◌≤◌, max, Some, slice_get, sym, ◌∙◌, arith, below_more}
use Rattle.std.proofs.lemmas.Grind.{common_steps}
use Rattle.serve_config.specs.declared.tenants.Route.{Route}
use Rattle.serve_config.specs.Routing.{all_routes}
use Rattle.recorded_runner.proofs.RouteLaws.{has_room, larger_has_room, roomy_all, below_some}
use Rattle.recorded_runner.proofs.settings.largest_pages.Goals as goal

some_same : (r s : Route) → Some r ≡ Some s → r.pages ≡ s.pages
some_same r s is = cc

pub loop-number-init : goal.loop-number-init
loop-number-init c = record {
  some = omega arith;
  room = omega (arith, c.tenants-tenants.ensures.in_range.berths.below);
  below = λ k r lt is. absurd (omega (arith, lt));
}

pub loop-number-preserved : goal.loop-number-preserved
loop-number-preserved c =
    let config = c.args.config.now in
    let pages = c.max-most.result in
    let larger : pages ≡ max c.loop-number.most c.route.result.now.pages = grind (arith, common_steps, c.max-most.ensures) in
    let own : c.route.result.now.pages ≤ pages = omega (arith, larger) in
    record {
      some = omega (arith, larger, c.loop-number.invariant.some);
      room = larger_has_room config.berths c.loop-number.most c.route.result.now.pages pages larger c.loop-number.invariant.room (has_room config.berths config.tenants c.loop-number.number c.route.result.now c.tenants-tenants.ensures.fits c.route.ensures.is);
      below = λ k r lt is. below_more (λ (n : ℕ). (q : Route) → slice_get (all_routes config.tenants) n ≡ Some q → q.pages ≤ pages) c.loop-number.number
          (λ n less q has. omega (arith, c.loop-number.invariant.below n q less has, larger))
          (λ q has. omega (arith, own, some_same q c.route.result.now (sym has ∙ c.route.ensures.is))) k lt r is;
    }

pub returns-clause-roomy : goal.returns-clause-roomy
returns-clause-roomy c =
    roomy_all c.loop-number.most (all_routes c.args.config.now.tenants) (λ k r is. c.loop-number.invariant.below k r (omega (arith, below_some (all_routes c.args.config.now.tenants) k r is, c.loop-number-test.false, c.route_count-number-end.ensures.counted)) is)
