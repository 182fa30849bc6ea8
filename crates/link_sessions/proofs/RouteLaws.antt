-- How many routes stand before a tenant's own.
use Rattle.std.proofs.Common.{◌≡◌, ℕ, zero, suc, ◌+◌, ◌<◌, ◌≤◌, List, [], ◌∷◌, length, take, get_or, Option, Some, None, sym, ap, ◌∙◌, arith}
use Rattle.std.specs.Prelude.{slice_get, option_and_then}
use Rattle.std.specs.Str.{bytes_eq}
use Rattle.std.specs.List.{position_from}
use Rattle.std.proofs.lemmas.Bool.Decides.{nat_tests}
use Rattle.std.proofs.lemmas.List.Sums.{sum_by-cons}
use Rattle.serve_config.specs.Overview.{first_fault, route_count}
use Rattle.serve_config.specs.Routing.{routes_before, route_number}
use Rattle.serve_config.specs.declared.tenants.Route.{Route}
use Rattle.serve_config.specs.declared.tenants.Tenant.{Tenant}

-- a configuration has at most 64 routes
pub few_routes : (berths : ℕ) (ts : List Tenant) → first_fault berths ts ≡ None → route_count ts ≤ 64
unfolding first_fault
few_routes berths ts none = grind (arith, nat_tests)

-- those before a tenant's own are of all
pub routes_before_all : (ts : List Tenant) (i : ℕ) → routes_before ts i ≤ route_count ts
routes_before_all [] zero = omega arith
routes_before_all [] (suc i) = omega arith
routes_before_all (u ∷ us) zero = omega arith
routes_before_all (u ∷ us) (suc i) =
    let sum = sum_by-cons (λ (v : Tenant). length v.routes) u us in
    let front = sum_by-cons (λ (v : Tenant). length v.routes) u (take i us) in
    omega (arith, sum, front, routes_before_all us i)

-- and so are these with its own
pub routes_within : (ts : List Tenant) (i : ℕ) (t : Tenant) → i < length ts → t ≡ get_or ts i t → routes_before ts i + length t.routes ≤ route_count ts
routes_within [] i t lt at = absurd (omega (arith, lt))
routes_within (u ∷ us) zero t lt at =
    let same : length t.routes ≡ length u.routes = ap (λ (v : Tenant). length v.routes) at in
    let sum = sum_by-cons (λ (v : Tenant). length v.routes) u us in
    omega (arith, same, sum)
routes_within (u ∷ us) (suc i) t lt at =
    let within : i < length us = omega (arith, lt) in
    let sum = sum_by-cons (λ (v : Tenant). length v.routes) u us in
    let front = sum_by-cons (λ (v : Tenant). length v.routes) u (take i us) in
    omega (arith, sum, front, routes_within us i t within at)

-- the tenant stands there
pub tenant_there : (ts : List Tenant) (i : ℕ) (t : Tenant) → i < length ts → t ≡ get_or ts i t → slice_get ts i ≡ Some t
tenant_there [] i t lt at = absurd (omega (arith, lt))
tenant_there (u ∷ us) zero t lt at = ap Some (sym at)
tenant_there (u ∷ us) (suc i) t lt at =
    let within : i < length us = omega (arith, lt) in
    tenant_there us i t within at

-- its routes are numbered from those before on
pub numbered_from : (ts : List Tenant) (i : ℕ) (t : Tenant) (path : List ℕ) → i < length ts → t ≡ get_or ts i t
    → position_from (λ r. bytes_eq r.path path) (routes_before ts i) t.routes ≡ route_number ts i path
numbered_from ts i t path lt at =
    sym (ap (λ (found : Option Tenant). option_and_then (λ u. position_from (λ r. bytes_eq r.path path) (routes_before ts i) u.routes) found) (tenant_there ts i t lt at))
