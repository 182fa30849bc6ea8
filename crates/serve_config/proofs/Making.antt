-- From the routers of the tenants to the routes of the whole.
use Rattle.std.proofs.Common.{◌≡◌, ℕ, zero, suc, ◌+◌, ◌<◌, ◌≤◌, List, [], ◌∷◌, ◌++◌, length, take, get_or, Option, None, false, refl, ap, sym, ◌∙◌, arith}
use Rattle.std.specs.Prelude.{option_map, option_and_then, slice_get}
use Rattle.std.specs.Str.{bytes_eq}
use Rattle.std.specs.List.{list_any, position_from}
use Rattle.std.proofs.lemmas.Bool.Decides.{nat_tests}
use Rattle.std.proofs.lemmas.List.{take_more}
use Rattle.std.proofs.lemmas.List.Sums.{sum_by-cons, sum_by-append}
use Rattle.matchit.specs.Rows.{RowsOf}
use Rattle.matchit.specs.Seek.{first}
use Rattle.matchit.specs.Router.{RouteOf}
use Rattle.serve_config.specs.declared.tenants.Route.{Route}
use Rattle.serve_config.specs.declared.tenants.Tenant.{Tenant}
use Rattle.serve_config.specs.Configuration.{Configuration}
use Rattle.serve_config.specs.Overview.{route_count, some_route, has_bad_path, has_double, has_one_path, first_fault}
use Rattle.serve_config.specs.Routing.{routes_before, route_number}
use Rattle.serve_config.specs.Tables.{AllTexts, tables_of, found_in, IsTable, AreMade, AreTablesOf}
use Rattle.serve_config.proofs.Tabling.{value_of, found_is}

abbrev pub numbers_from : (first : ℕ) → List Tenant → (tenant : ℕ) → (path : List ℕ) → Option ℕ
numbers_from first ts tenant path =
    option_and_then (λ t. position_from (λ r. bytes_eq r.path path) (first + routes_before ts tenant) t.routes) (slice_get ts tenant)

pub made_texts : (first : ℕ) (ts : List Tenant) (rs : List (RowsOf (RouteOf ℕ))) → AreMade first ts rs → AllTexts rs
made_texts first [] [] made = tt
made_texts first [] (rows ∷ rest) made = absurd made
made_texts first (t ∷ ts) [] made = absurd made
made_texts first (t ∷ ts) (rows ∷ rest) made = (made.0.texts, made_texts (first + length t.routes) ts rest made.1)

pub made_length : (first : ℕ) (ts : List Tenant) (rs : List (RowsOf (RouteOf ℕ))) → AreMade first ts rs → length (tables_of rs) ≡ length ts
made_length first [] [] made = refl
made_length first [] (rows ∷ rest) made = absurd made
made_length first (t ∷ ts) [] made = absurd made
made_length first (t ∷ ts) (rows ∷ rest) made = ap (λ (n : ℕ). suc n) (made_length (first + length t.routes) ts rest made.1)

pub made_finds : (first : ℕ) (ts : List Tenant) (rs : List (RowsOf (RouteOf ℕ))) (tenant : ℕ) (path : List ℕ) → AreMade first ts rs
    → found_in (tables_of rs) tenant path ≡ numbers_from first ts tenant path
made_finds first [] [] tenant path made = refl
made_finds first [] (rows ∷ rest) tenant path made = absurd made
made_finds first (t ∷ ts) [] tenant path made = absurd made
made_finds first (t ∷ ts) (rows ∷ rest) zero path made =
    let same : first ≡ first + 0 = omega arith in
    made.0.finds path ∙ ap (λ (n : ℕ). position_from (λ r. bytes_eq r.path path) n t.routes) same
made_finds first (t ∷ ts) (rows ∷ rest) (suc tenant) path made =
    let sum = sum_by-cons (λ (u : Tenant). length u.routes) t (take tenant ts) in
    let same : first + length t.routes + routes_before ts tenant ≡ first + routes_before (t ∷ ts) (suc tenant) = omega (arith, sum) in
    made_finds (first + length t.routes) ts rest tenant path made.1
    ∙ ap (λ (n : ℕ). option_and_then (λ (u : Tenant). position_from (λ r. bytes_eq r.path path) n u.routes) (slice_get ts tenant)) same

-- one tenant more
pub made_more : (first : ℕ) (ts : List Tenant) (rs : List (RowsOf (RouteOf ℕ))) (t : Tenant) (rows : RowsOf (RouteOf ℕ)) → AreMade first ts rs
    → IsTable (first + route_count ts) t.routes rows → AreMade first (ts ++ t ∷ []) (rs ++ rows ∷ [])
made_more first [] [] t rows made table =
    let same : first + 0 ≡ first = omega arith in
    (rw same at table, tt)
made_more first [] (other ∷ rest) t rows made table = absurd made
made_more first (u ∷ ts) [] t rows made table = absurd made
made_more first (u ∷ ts) (other ∷ rest) t rows made table =
    let sum = sum_by-cons (λ (v : Tenant). length v.routes) u ts in
    let same : first + route_count (u ∷ ts) ≡ first + length u.routes + route_count ts = omega (arith, sum) in
    (made.0, made_more (first + length u.routes) ts rest t rows made.1 (rw same at table))

pub from_none : (ts : List Tenant) (tenant : ℕ) (path : List ℕ) → numbers_from 0 ts tenant path ≡ route_number ts tenant path
from_none ts tenant path =
    let same : 0 + routes_before ts tenant ≡ routes_before ts tenant = omega arith in
    ap (λ (n : ℕ). option_and_then (λ (u : Tenant). position_from (λ r. bytes_eq r.path path) n u.routes) (slice_get ts tenant)) same

pub tables_made : (c : Configuration) (rs : List (RowsOf (RouteOf ℕ))) → AreMade 0 c.tenants rs → AreTablesOf c (tables_of rs)
tables_made c rs made = record {
  one_each = made_length 0 c.tenants rs made;
  finds = λ tenant path. made_finds 0 c.tenants rs tenant path made ∙ from_none c.tenants tenant path;
}

-- what a tenant's router finds is what its table has
pub found_at : (rs : List (RowsOf (RouteOf ℕ))) (tenant : ℕ) (rows : RowsOf (RouteOf ℕ)) (path : List ℕ) → tenant < length (tables_of rs) → rows ≡ get_or rs tenant rows → AllTexts rs
    → option_map value_of (first rows path) ≡ found_in (tables_of rs) tenant path
found_at [] tenant rows path lt at texts = absurd (omega arith)
found_at (r ∷ rs) zero rows path lt at texts = rw at (found_is path r texts.0)
found_at (r ∷ rs) (suc tenant) rows path lt at texts = found_at rs tenant rows path (omega (arith, lt)) at texts.1

-- nothing is wrong, so none of these is
pub nothing_wrong : (berths : ℕ) (ts : List Tenant) → first_fault berths ts ≡ None
    → (route_count ts ≤ 64) × (some_route has_bad_path ts ≡ false) × (list_any (λ t. has_double has_one_path t.routes) ts ≡ false)
unfolding first_fault
nothing_wrong berths ts none = (grind (arith, nat_tests), grind (arith, nat_tests), grind (arith, nat_tests))

-- the next tenant's routes
pub made_next : (ts : List Tenant) (i : ℕ) (t : Tenant) (rs : List (RowsOf (RouteOf ℕ))) (rows : RowsOf (RouteOf ℕ)) (before : ℕ) (routes : List Route)
    → i < length ts → t ≡ get_or ts i t → routes ≡ t.routes → before ≡ routes_before ts i → AreMade 0 (take i ts) rs → IsTable before routes rows
    → (before + length routes ≡ routes_before ts (i + 1)) × AreMade 0 (take (i + 1) ts) (rs ++ rows ∷ [])
made_next ts i t rs rows before routes lt at same counted made table =
    let more : take (i + 1) ts ≡ take i ts ++ t ∷ [] = take_more ts i t lt ∙ ap (λ (u : Tenant). take i ts ++ u ∷ []) (sym at) in
    let sum = sum_by-append (λ (u : Tenant). length u.routes) (take i ts) (t ∷ []) in
    let one = sum_by-cons (λ (u : Tenant). length u.routes) t [] in
    let zeros : 0 + route_count (take i ts) ≡ before = omega (arith, counted) in
    let its : IsTable (0 + route_count (take i ts)) t.routes rows = rw (zeros, ← same) table in
    (rw (more, same, counted) (omega (arith, sum, one)), rw more (made_more 0 (take i ts) rs t rows made its))
