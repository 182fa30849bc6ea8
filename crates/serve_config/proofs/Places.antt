-- Places among the routes of all tenants, tenant by tenant.
use Rattle.std.proofs.Common.{◌≡◌, ℕ, zero, suc, ◌+◌, ◌-◌, ◌<◌, ◌≤◌, List, [], ◌∷◌, ◌++◌, length, get_or, take, drop, Some, refl, ap, sym, subst, ◌∙◌, arith, add-one, length-append}
use Rattle.std.specs.Prelude.{slice_get}
use Rattle.std.specs.List.{AllByRecursion}
use Rattle.std.proofs.Math.Seq.{drop-cons}
use Rattle.std.proofs.lemmas.List.{take_more, take-append-drop}
use Rattle.std.proofs.lemmas.List.Sums.{sum_by-cons, sum_by-append}
use Rattle.std.proofs.lemmas.Option.{slice_get-get_or}
use Rattle.serve_config.specs.declared.tenants.Route.{Route}
use Rattle.serve_config.specs.declared.tenants.Tenant.{Tenant}
use Rattle.serve_config.specs.Overview.{route_count}
use Rattle.serve_config.specs.Ranges.{IsRouteInRange, IsTenantInRange}
use Rattle.serve_config.specs.Routing.{all_routes, routes_before}
use Rattle.serve_config.proofs.Numbering.{get_front, get_behind}

-- the routes from a tenant on are its own, and those behind
pub next_tenant : (ts : List Tenant) (i : ℕ) (t : Tenant) (routes : List Route) → i < length ts → t ≡ get_or ts i t → routes ≡ t.routes
    → all_routes (drop i ts) ≡ routes ++ all_routes (drop (i + 1) ts)
next_tenant ts i t routes lt at same =
    let cut : drop i ts ≡ t ∷ drop (i + 1) ts = rw (add-one, drop-cons ts i t lt) (ap (λ (u : Tenant). u ∷ drop (suc i) ts) (sym at)) in
    ap (λ (us : List Tenant). all_routes us) cut ∙ ap (λ (rs : List Route). rs ++ all_routes (drop (i + 1) ts)) (sym same)

-- the place is that of one of its own
pub place_here : (ts : List Tenant) (i left : ℕ) (t : Tenant) (routes : List Route) (r : Route) → i < length ts → t ≡ get_or ts i t → routes ≡ t.routes
    → left < length routes → r ≡ get_or routes left r → slice_get (all_routes (drop i ts)) left ≡ Some r
place_here ts i left t routes r lt at same here is =
    ap (λ (rs : List Route). slice_get rs left) (next_tenant ts i t routes lt at same)
    ∙ get_front routes (all_routes (drop (i + 1) ts)) left r (slice_get-get_or routes left r here ∙ ap (λ (s : Route). Some s) (sym is))

-- or it is behind them
pub place_behind : (ts : List Tenant) (i left : ℕ) (t : Tenant) (routes : List Route) → i < length ts → t ≡ get_or ts i t → routes ≡ t.routes
    → length routes ≤ left → left < length (all_routes (drop i ts))
    → (left - length routes < length (all_routes (drop (i + 1) ts))) × (slice_get (all_routes (drop (i + 1) ts)) (left - length routes) ≡ slice_get (all_routes (drop i ts)) left)
place_behind ts i left t routes lt at same past within =
    let next = next_tenant ts i t routes lt at same in
    let lengths : length (all_routes (drop i ts)) ≡ length routes + length (all_routes (drop (i + 1) ts)) =
    ap (λ (rs : List Route). length rs) next ∙ length-append routes (all_routes (drop (i + 1) ts)) in
    let back : length routes + (left - length routes) ≡ left = omega (arith, past) in (
      omega (arith, lengths, within, past),
      sym (get_behind routes (all_routes (drop (i + 1) ts)) (left - length routes))
          ∙ (ap (λ (n : ℕ). slice_get (routes ++ all_routes (drop (i + 1) ts)) n) back ∙ ap (λ (rs : List Route). slice_get rs left) (sym next)),
    )

-- ---- how many there are

pub count_is : (ts : List Tenant) → route_count ts ≡ length (all_routes ts)
count_is [] = refl
count_is (t ∷ ts) = sum_by-cons (λ (u : Tenant). length u.routes) t ts ∙ (ap (λ (n : ℕ). length t.routes + n) (count_is ts) ∙ sym (length-append t.routes (all_routes ts)))

pub before_next : (ts : List Tenant) (i : ℕ) (t : Tenant) → i < length ts → t ≡ get_or ts i t → routes_before ts (i + 1) ≡ routes_before ts i + length t.routes
before_next ts i t lt at =
    let more : take (i + 1) ts ≡ take i ts ++ t ∷ [] = take_more ts i t lt ∙ ap (λ (u : Tenant). take i ts ++ u ∷ []) (sym at) in
    let sum = sum_by-append (λ (u : Tenant). length u.routes) (take i ts) (t ∷ []) in
    let one = sum_by-cons (λ (u : Tenant). length u.routes) t [] in
    ap (λ (us : List Tenant). route_count us) more ∙ omega (arith, sum, one)

pub before_all : (ts : List Tenant) (i : ℕ) → routes_before ts i ≤ route_count ts
before_all ts i =
    let sum = sum_by-append (λ (u : Tenant). length u.routes) (take i ts) (drop i ts) in
    let whole : route_count (take i ts ++ drop i ts) ≡ route_count ts = ap (λ (us : List Tenant). route_count us) (take-append-drop i ts) in
    omega (arith, sum, whole)

pub counts_on : (ts : List Tenant) (i count : ℕ) (t : Tenant) (routes : List Route) → i < length ts → t ≡ get_or ts i t → routes ≡ t.routes → count ≡ routes_before ts i
    → count + length routes ≡ routes_before ts (i + 1)
counts_on ts i count t routes lt at same counted =
    let next = before_next ts i t lt at in
    rw (counted, same) (sym next)

pub counts_within : (ts : List Tenant) (i count : ℕ) (t : Tenant) (routes : List Route) → i < length ts → t ≡ get_or ts i t → routes ≡ t.routes → count ≡ routes_before ts i
    → count + length routes ≤ route_count ts
counts_within ts i count t routes lt at same counted =
    let on = counts_on ts i count t routes lt at same counted in
    let all = before_all ts (i + 1) in
    omega (arith, on, all)

-- ---- each is in its range

all_of_both : (P : Route → Type 0) (xs ys : List Route) → AllByRecursion P xs → AllByRecursion P ys → AllByRecursion P (xs ++ ys)
all_of_both P [] ys all others = others
all_of_both P (x ∷ xs) ys all others = (all.0, all_of_both P xs ys all.1 others)

routes_in_range : (ts : List Tenant) → AllByRecursion IsTenantInRange ts → AllByRecursion IsRouteInRange (all_routes ts)
routes_in_range [] all = tt
routes_in_range (t ∷ ts) all = all_of_both IsRouteInRange t.routes (all_routes ts) all.0.routes (routes_in_range ts all.1)

all_at : (P : Route → Type 0) (rs : List Route) (place : ℕ) (r : Route) → AllByRecursion P rs → slice_get rs place ≡ Some r → P r
all_at P [] place r all is = absurd cc
all_at P (s ∷ rs) zero r all is =
    let same : s ≡ r = cc in
    subst P same all.0
all_at P (s ∷ rs) (suc place) r all is = all_at P rs place r all.1 is

pub route_in_range : (ts : List Tenant) (place : ℕ) (r : Route) → AllByRecursion IsTenantInRange ts → slice_get (all_routes ts) place ≡ Some r → IsRouteInRange r
route_in_range ts place r all is = all_at IsRouteInRange (all_routes ts) place r (routes_in_range ts all) is
