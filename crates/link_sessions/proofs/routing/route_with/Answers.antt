-- The routes of the tenants before are counted, and the tenant's own are numbered from there on.
use Rattle.std.proofs.Common.{◌≡◌, ◌<◌, ◌+◌, ◌≤◌, ℕ, List, length, sym, ap, ◌∙◌, arith}
use Rattle.std.specs.Str.{bytes_eq}
use Rattle.std.specs.List.{position_from}
use Rattle.serve_config.specs.Overview.{route_count}
use Rattle.serve_config.specs.Routing.{routes_before, route_number}
use Rattle.serve_config.specs.declared.tenants.Route.{Route}
use Rattle.serve_config.specs.declared.tenants.Tenant.{Tenant}
use Rattle.link_sessions.proofs.RouteLaws.{few_routes, numbered_from, routes_before_all, routes_within}
use Rattle.link_sessions.proofs.routing.route_with.Goals as goal

pub count_routes-requires : goal.count_routes-requires
count_routes-requires c =
    let same = ap (λ (ts : List Tenant). route_count ts) c.tenants-tenants.ensures.same in
    let few = few_routes c.args.config.now.berths c.args.config.now.tenants c.tenants-tenants.ensures.fits in
    let front = ap (λ (ts : List Tenant). route_count ts) c.split_at.ensures.front in
    omega (arith, same, few, front, routes_before_all c.tenants-tenants.result.now c.args.tenant)

pub number_from-requires : goal.number_from-requires
number_from-requires c =
    let same = ap (λ (ts : List Tenant). route_count ts) c.tenants-tenants.ensures.same in
    let few = few_routes c.args.config.now.berths c.args.config.now.tenants c.tenants-tenants.ensures.fits in
    let front = ap (λ (ts : List Tenant). route_count ts) c.split_at.ensures.front in
    let lt : c.args.tenant < length c.tenants-tenants.result.now = rw c.tenants-tenants.ensures.same c.requires in
    let own = ap (λ (rs : List Route). length rs) (c.as_slice.ensures ∙ ap (λ (t : Tenant). t.routes) (sym c.index-tenants-place.is)) in
    omega (arith, same, few, front, own, c.count_routes.ensures, routes_within c.tenants-tenants.result.now c.args.tenant c.index-tenants-place.result lt c.index-tenants-place.is)

pub returns : goal.returns
returns c =
    let lt : c.args.tenant < length c.tenants-tenants.result.now = rw c.tenants-tenants.ensures.same c.requires in
    let own = c.as_slice.ensures ∙ ap (λ (t : Tenant). t.routes) (sym c.index-tenants-place.is) in
    let counted = c.count_routes.ensures ∙ ap (λ (ts : List Tenant). route_count ts) c.split_at.ensures.front in
    c.number_from.ensures
    ∙ (ap (λ (n : ℕ). position_from (λ r. bytes_eq r.path c.args.path.now) n c.as_slice.result.now) counted
    ∙ (ap (λ (rs : List Route). position_from (λ r. bytes_eq r.path c.args.path.now) (routes_before c.tenants-tenants.result.now c.args.tenant) rs) own
    ∙ (numbered_from c.tenants-tenants.result.now c.args.tenant c.index-tenants-place.result c.args.path.now lt c.index-tenants-place.is
    ∙ ap (λ (ts : List Tenant). route_number ts c.args.tenant c.args.path.now) c.tenants-tenants.ensures.same)))
