-- The number of a route is its place among all.
use Rattle.std.proofs.Common.{◌≡◌, ℕ, zero, suc, ◌+◌, List, [], ◌∷◌, ◌++◌, length, take, Some, Bool, true, false, cond, refl, ap, sym, ◌∙◌, arith}
use Rattle.std.specs.Prelude.{option_and_then, slice_get}
use Rattle.std.specs.Str.{bytes_eq}
use Rattle.std.specs.List.{position_from}
use Rattle.std.specs.Cmp.Lexicographic.{bytes_decides}
use Rattle.std.proofs.lemmas.List.Sums.{sum_by-cons}
use Rattle.serve_config.specs.declared.tenants.Route.{Route}
use Rattle.serve_config.specs.declared.tenants.Tenant.{Tenant}
use Rattle.serve_config.specs.Routing.{routes_before, route_number, all_routes, HasNumber}
use Rattle.serve_config.proofs.Making.{numbers_from, from_none}

-- an item that passes a test stands there
pub record StandsAt {A : Type 0} (test : A → Bool) (first : ℕ) (xs : List A) (number : ℕ) : Type 0 where
  pub place : ℕ
  pub item : A
  pub numbered : number ≡ first + place
  pub there : slice_get xs place ≡ Some item
  pub passes : test item ≡ true

pub position_is : {A : Type 0} (test : A → Bool) (first : ℕ) (xs : List A) (number : ℕ) → position_from test first xs ≡ Some number → StandsAt test first xs number
position_is test first [] number found = cc
position_is {A} test first (x ∷ xs) number found = by (test x) refl found (position_is test (first + 1) xs number)
  where
    by : (v : Bool) → test x ≡ v → cond v (Some first) (position_from test (first + 1) xs) ≡ Some number
        → (position_from test (first + 1) xs ≡ Some number → StandsAt test (first + 1) xs number) → StandsAt test first (x ∷ xs) number
    by true e is ih =
        let same : first ≡ number = cc in
        record { place = 0; item = x; numbered = omega (arith, same); there = refl; passes = e }
    by false e is ih =
        let rest = ih is in
        record { place = suc rest.place; item = rest.item; numbered = omega (arith, rest.numbered); there = rest.there; passes = rest.passes }

pub get_front : {A : Type 0} (xs ys : List A) (i : ℕ) (x : A) → slice_get xs i ≡ Some x → slice_get (xs ++ ys) i ≡ Some x
get_front [] ys i x is = cc
get_front (y ∷ xs) ys zero x is = is
get_front (y ∷ xs) ys (suc i) x is = get_front xs ys i x is

pub get_behind : {A : Type 0} (xs ys : List A) (i : ℕ) → slice_get (xs ++ ys) (length xs + i) ≡ slice_get ys i
get_behind [] ys i = let same : 0 + i ≡ i = omega arith in ap (λ (n : ℕ). slice_get ys n) same
get_behind (x ∷ xs) ys i =
    let same : length (x ∷ xs) + i ≡ suc (length xs + i) = omega arith in
    ap (λ (n : ℕ). slice_get (x ∷ (xs ++ ys)) n) same ∙ get_behind xs ys i

-- a route with the path stands there
pub record RouteAt (first : ℕ) (ts : List Tenant) (path : List ℕ) (number : ℕ) : Type 0 where
  pub place : ℕ
  pub route : Route
  pub numbered : number ≡ first + place
  pub there : slice_get (all_routes ts) place ≡ Some route
  pub asked : route.path ≡ path

pub route_at : (first : ℕ) (ts : List Tenant) (tenant : ℕ) (path : List ℕ) (number : ℕ) → numbers_from first ts tenant path ≡ Some number → RouteAt first ts path number
route_at first [] tenant path number found = cc
route_at first (t ∷ ts) zero path number found =
    let stands = position_is (λ (r : Route). bytes_eq r.path path) (first + 0) t.routes number found in
    record {
      place = stands.place;
      route = stands.item;
      numbered = omega (arith, stands.numbered);
      there = get_front t.routes (all_routes ts) stands.place stands.item stands.there;
      asked = (bytes_decides stands.item.path path).0 stands.passes;
    }
route_at first (t ∷ ts) (suc tenant) path number found =
    let sum = sum_by-cons (λ (u : Tenant). length u.routes) t (take tenant ts) in
    let same : first + routes_before (t ∷ ts) (suc tenant) ≡ first + length t.routes + routes_before ts tenant = omega (arith, sum) in
    let back : numbers_from (first + length t.routes) ts tenant path ≡ Some number =
    ap (λ (n : ℕ). option_and_then (λ (u : Tenant). position_from (λ r. bytes_eq r.path path) n u.routes) (slice_get ts tenant)) (sym same) ∙ found in
    let rest = route_at (first + length t.routes) ts tenant path number back in
    record {
      place = length t.routes + rest.place;
      route = rest.route;
      numbered = omega (arith, rest.numbered);
      there = get_behind t.routes (all_routes ts) rest.place ∙ rest.there;
      asked = rest.asked;
    }

pub has_number : (ts : List Tenant) (tenant : ℕ) (path : List ℕ) (number : ℕ) → route_number ts tenant path ≡ Some number → HasNumber ts path number
has_number ts tenant path number found =
    let at = route_at 0 ts tenant path number (from_none ts tenant path ∙ found) in
    let same : number ≡ at.place = omega (arith, at.numbered) in
    (at.route, ap (λ (n : ℕ). slice_get (all_routes ts) n) same ∙ at.there, at.asked)
