-- The tables in which routes are found: for each tenant its paths, each with the number of its route.
use Rattle.std.specs.Prelude.{◌≡◌, ℕ, ◌+◌, List, [], ◌∷◌, length, map, Bool, true, false, cond, Option, Some, None, get_or}
use Rattle.std.specs.Str.{bytes_eq}
use Rattle.std.specs.List.{position_from}
use Rattle.matchit.specs.Rows.{RowsOf}
use Rattle.matchit.specs.Level.{IsText}
use Rattle.matchit.specs.Router.{RouteOf}
use Rattle.serve_config.specs.declared.tenants.Route.{Route}
use Rattle.serve_config.specs.declared.tenants.Tenant.{Tenant}
use Rattle.serve_config.specs.Configuration.{Configuration}
use Rattle.serve_config.specs.Routing.{route_number}

abbrev pub Table : Type 0
Table = List (List ℕ × ℕ)

-- the number beside the path
abbrev pub number_at : Table → (path : List ℕ) → Option ℕ
number_at [] path = None
number_at (entry ∷ table) path = cond (bytes_eq entry.0 path) (Some entry.1) (number_at table path)

abbrev pub found_in : List Table → (tenant : ℕ) → (path : List ℕ) → Option ℕ
found_in tables tenant path = number_at (get_or tables tenant []) path

-- no row's pattern has a parameter: each token is a byte
abbrev pub AreTexts : {K : Type 0} → RowsOf K → Type 0
AreTexts [] = Unit {0}
AreTexts (row ∷ rows) = IsText row.0 × AreTexts rows

-- each router's rows are so
abbrev pub AllTexts : List (RowsOf (RouteOf ℕ)) → Type 0
AllTexts [] = Unit {0}
AllTexts (rows ∷ rest) = AreTexts rows × AllTexts rest

-- what a router of routes without parameters holds
abbrev pub table_of : RowsOf (RouteOf ℕ) → Table
table_of rows = map (λ row. (row.0, row.1.value)) rows

-- what a router says of such a route
abbrev pub row_of : (path : List ℕ) → (number : ℕ) → RouteOf ℕ
row_of path number = record { pattern = path; text = path; names = []; value = number }

abbrev pub tables_of : List (RowsOf (RouteOf ℕ)) → List Table
tables_of routers = map table_of routers

-- the rows have the numbers of these routes, of which the first has this one, and no other
pub record IsTable (first : ℕ) (routes : List Route) (rows : RowsOf (RouteOf ℕ)) : Type 0 where
  pub texts : AreTexts rows
  pub finds : (path : List ℕ) → number_at (table_of rows) path ≡ position_from (λ r. bytes_eq r.path path) first routes

-- the routers of these tenants, of whose routes the first has this number
abbrev pub AreMade : (first : ℕ) → List Tenant → List (RowsOf (RouteOf ℕ)) → Type 0
AreMade first [] [] = Unit {0}
AreMade first [] (rows ∷ rest) = ⊥
AreMade first (t ∷ ts) [] = ⊥
AreMade first (t ∷ ts) (rows ∷ rest) = IsTable first t.routes rows × AreMade (first + length t.routes) ts rest

-- each tenant's table has the numbers of its routes, and no other
pub record AreTablesOf (c : Configuration) (tables : List Table) : Type 0 where
  pub one_each : length tables ≡ length c.tenants
  pub finds : (tenant : ℕ) → (path : List ℕ) → found_in tables tenant path ≡ route_number c.tenants tenant path
