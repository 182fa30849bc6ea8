-- Which route a path has.
use Rattle.std.specs.Prelude.{◌≡◌, ℕ, List, length, take, Option, Some, option_and_then, slice_get, sum_by}
use Rattle.std.specs.Str.{bytes_eq}
use Rattle.std.specs.List.{flat_map, position_from}
use Rattle.serve_config.specs.declared.tenants.Route.{Route}
use Rattle.serve_config.specs.declared.tenants.Tenant.{Tenant}

-- the routes of the tenants before this one: the number of its first route
abbrev pub routes_before : List Tenant → (tenant : ℕ) → ℕ
routes_before tenants tenant = sum_by (λ t. length t.routes) (take tenant tenants)

-- the routes of all tenants, in the order of their numbers
abbrev pub all_routes : List Tenant → List Route
all_routes tenants = flat_map (λ t. t.routes) tenants

-- The number of the tenant's route whose text is the path, if there is one. Routes are numbered through all tenants.
abbrev pub route_number : List Tenant → (tenant : ℕ) → (path : List ℕ) → Option ℕ
route_number tenants tenant path =
    option_and_then (λ t. position_from (λ r. bytes_eq r.path path) (routes_before tenants tenant) t.routes) (slice_get tenants tenant)

-- the number is that of a route with this path, among the routes of all tenants
abbrev pub HasNumber : List Tenant → (path : List ℕ) → (number : ℕ) → Type 0
HasNumber tenants path number = (r : Route) × (slice_get (all_routes tenants) number ≡ Some r) × (r.path ≡ path)
