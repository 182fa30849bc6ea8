-- What is looked at over a whole configuration, behind the walk through its keys.
use Rattle.std.specs.Prelude.{ℕ, ◌+◌, ◌*◌, List, [], ◌∷◌, length, Bool, false, ◌||◌, ◌==◌, not, nat_lt, Option, sum_by}
use Rattle.std.specs.Str.{bytes_eq}
use Rattle.std.specs.List.{list_any, list_all}
use Rattle.serve_config.specs.declared.refusals.Refusal.{Refusal}
use Rattle.serve_config.specs.declared.refusals.Refusal.TheVariants.{OutOfRange, DoubleName, DoubleRoute, BadRoute, RegionTooLarge, BadContentType}
use Rattle.serve_config.specs.declared.tenants.Route.{Route}
use Rattle.serve_config.specs.declared.tenants.Tenant.{Tenant}
use Rattle.serve_config.specs.Letters.{is_path, is_content_type_byte}
use Rattle.serve_config.specs.Steps.{first_refusal}

-- the routes of all tenants
abbrev pub route_count : List Tenant → ℕ
route_count tenants = sum_by (λ t. length t.routes) tenants

-- two of them are alike
abbrev pub has_double : {A : Type 0} → (A → A → Bool) → List A → Bool
has_double alike [] = false
has_double alike (x ∷ xs) = list_any (λ y. alike x y) xs || has_double alike xs

-- one name or one port
abbrev pub are_rivals : Tenant → Tenant → Bool
are_rivals t u = bytes_eq t.name u.name || t.port == u.port

abbrev pub has_one_path : Route → Route → Bool
has_one_path r s = bytes_eq r.path s.path

-- some route of some tenant is so
abbrev pub some_route : (Route → Bool) → List Tenant → Bool
some_route test tenants = list_any (λ t. list_any test t.routes) tenants

abbrev pub has_bad_path : Route → Bool
has_bad_path r = not (is_path r.path)

abbrev pub has_bad_content_type : Route → Bool
has_bad_content_type r = not (list_all is_content_type_byte r.content_type)

-- the memories of the berths and one more, with the route's pages each, are above 1 GiB together
abbrev pub is_too_large : (berths : ℕ) → Route → Bool
is_too_large berths r = nat_lt 16384 ((berths + 1) * r.pages)

unfoldable pub first_fault : (berths : ℕ) → List Tenant → Option Refusal
first_fault berths tenants =
    first_refusal ((nat_lt 64 (route_count tenants), OutOfRange)
    ∷ (has_double are_rivals tenants, DoubleName)
    ∷ (some_route has_bad_path tenants, BadRoute)
    ∷ (list_any (λ t. has_double has_one_path t.routes) tenants, DoubleRoute)
    ∷ (some_route has_bad_content_type tenants, BadContentType)
    ∷ (some_route (is_too_large berths) tenants, RegionTooLarge)
    ∷ [])
