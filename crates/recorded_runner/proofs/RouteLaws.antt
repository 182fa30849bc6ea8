-- Routes, their programs, and what is known of each of many.
use Rattle.std.proofs.Common.{◌≡◌, ℕ, zero, suc, ◌+◌, ◌*◌, ◌<◌, ◌≤◌, max, leb, Bool, true, false, ◌||◌, List, [], ◌∷◌, ◌++◌, length, map, get_or, Some, None, slice_get, option_map, unwrap_or, refl, sym, ap, subst, ◌∙◌, arith}
use Rattle.std.proofs.lemmas.Bool.{leb-true, leb-false, ltb-false}
use Rattle.std.proofs.lemmas.Bool.Decides.{nat_tests}
use Rattle.std.specs.List.{AllByRecursion, list_any}
use Rattle.serve_config.specs.declared.tenants.Route.{Route}
use Rattle.serve_config.specs.declared.tenants.Tenant.{Tenant}
use Rattle.serve_config.specs.Overview.{some_route, is_too_large, first_fault}
use Rattle.serve_config.specs.Ranges.{IsRouteInRange, IsTenantInRange}
use Rattle.serve_config.specs.Routing.{all_routes}
use Rattle.wasm_meaning.specs.Programs.{Program}
use Rattle.wasm_meaning.specs.Requests.{Request}
use Rattle.recorded_runner.specs.Lookups.{of_member}
use Rattle.recorded_runner.specs.Replies.{request_to, request_at}
use Rattle.recorded_runner.specs.Serving.{AreProgramsOf, AreRoomy}

-- ---- one of many

pub below_some : {A : Type 0} (xs : List A) (k : ℕ) (x : A) → slice_get xs k ≡ Some x → k < length xs
below_some [] k x is = absurd cc
below_some (y ∷ xs) zero x is = omega arith
below_some (y ∷ xs) (suc k) x is = omega (arith, below_some xs k x is)

pub all_read : {A : Type 0} (P : A → Type 0) (xs : List A) (k : ℕ) (d : A) → AllByRecursion P xs → k < length xs → P (get_or xs k d)
all_read P [] k d all below = absurd (omega (arith, below))
all_read P (y ∷ xs) zero d all below = all.0
all_read P (y ∷ xs) (suc k) d all below = all_read P xs k d all.1 (omega (arith, below))

pub member_is : {A B : Type 0} (tell : A → B) (otherwise : B) (xs : List A) (k : ℕ) (x : A) → slice_get xs k ≡ Some x → of_member tell otherwise xs k ≡ tell x
member_is tell otherwise xs k x is = ap (λ o. unwrap_or (option_map tell o) otherwise) is

pub mapped_at : {A B : Type 0} (f : A → B) (xs : List A) (k : ℕ) (x : A) → slice_get xs k ≡ Some x → slice_get (map f xs) k ≡ Some (f x)
mapped_at f [] k x is = absurd cc
mapped_at f (y ∷ xs) zero x is =
    let same : y ≡ x = cc in
    ap (λ z. Some (f z)) same
mapped_at f (y ∷ xs) (suc k) x is = mapped_at f xs k x is

pub read_some : {A : Type 0} (xs : List A) (k : ℕ) (x : A) → k < length xs → x ≡ get_or xs k x → slice_get xs k ≡ Some x
read_some [] k x below is = absurd (omega (arith, below))
read_some (y ∷ xs) zero x below is = ap Some (sym is)
read_some (y ∷ xs) (suc k) x below is = read_some xs k x (omega (arith, below)) is

pub mapped_read : {A B : Type 0} (f : A → B) (P : B → Type 0) (xs : List A) (k : ℕ) (x : A) → AllByRecursion P (map f xs) → k < length xs → x ≡ get_or xs k x → P (f x)
mapped_read f P [] k x all below is = absurd (omega (arith, below))
mapped_read f P (y ∷ xs) zero x all below is = subst (λ z. P (f z)) (sym is) all.0
mapped_read f P (y ∷ xs) (suc k) x all below is = mapped_read f P xs k x all.1 (omega (arith, below)) is

pub all_of_both : {A : Type 0} (P : A → Type 0) (xs ys : List A) → AllByRecursion P xs → AllByRecursion P ys → AllByRecursion P (xs ++ ys)
all_of_both P [] ys all others = others
all_of_both P (x ∷ xs) ys all others = (all.0, all_of_both P xs ys all.1 others)

-- ---- the routes

pub routes_in_range : (tenants : List Tenant) → AllByRecursion IsTenantInRange tenants → AllByRecursion IsRouteInRange (all_routes tenants)
routes_in_range [] all = tt
routes_in_range (t ∷ tenants) all = all_of_both IsRouteInRange t.routes (all_routes tenants) all.0.routes (routes_in_range tenants all.1)

-- ---- the memories of all berths and one more

neither : (b c : Bool) → (b || c) ≡ false → (b ≡ false) × (c ≡ false)
neither true c none = absurd cc
neither false c none = (refl, none)

none_is : {A : Type 0} (test : A → Bool) (xs : List A) → list_any test xs ≡ false → AllByRecursion (λ (x : A). test x ≡ false) xs
none_is test [] none = tt
none_is test (x ∷ xs) none =
    let both = neither (test x) (list_any test xs) none in
    (both.0, none_is test xs both.1)

no_route_is : (test : Route → Bool) (tenants : List Tenant) → some_route test tenants ≡ false → AllByRecursion (λ (r : Route). test r ≡ false) (all_routes tenants)
no_route_is test [] none = tt
no_route_is test (t ∷ tenants) none =
    let both = neither (list_any test t.routes) (some_route test tenants) none in
    all_of_both (λ (r : Route). test r ≡ false) t.routes (all_routes tenants) (none_is test t.routes both.0) (no_route_is test tenants both.1)

none_too_large : (berths : ℕ) (tenants : List Tenant) → first_fault berths tenants ≡ None → some_route (is_too_large berths) tenants ≡ false
unfolding first_fault
none_too_large berths tenants none = grind (arith, nat_tests)

-- these memories of a route's pages each are not too large
pub has_room : (berths : ℕ) (tenants : List Tenant) (number : ℕ) (r : Route) → first_fault berths tenants ≡ None → slice_get (all_routes tenants) number ≡ Some r → (berths + 1) * r.pages ≤ 16384
has_room berths tenants number r none is = small (at (all_routes tenants) number is (no_route_is (is_too_large berths) tenants (none_too_large berths tenants none)))
  where
    at : (routes : List Route) (k : ℕ) → slice_get routes k ≡ Some r → AllByRecursion (λ (q : Route). is_too_large berths q ≡ false) routes → is_too_large berths r ≡ false
    at [] k here all = absurd cc
    at (q ∷ routes) zero here all =
        let same : q ≡ r = cc in
        subst (λ (p : Route). is_too_large berths p ≡ false) same all.0
    at (q ∷ routes) (suc k) here all = at routes k here all.1

    small : is_too_large berths r ≡ false → (berths + 1) * r.pages ≤ 16384
    small fits = ltb-false 16384 ((berths + 1) * r.pages) fits

pub as_many : (routes : List Route) (programs : List Program) → AreProgramsOf routes programs → length programs ≡ length routes
as_many [] [] are = refl
as_many [] (p ∷ ps) are = absurd are
as_many (r ∷ rs) [] are = absurd are
as_many (r ∷ rs) (p ∷ ps) are = ap suc (as_many rs ps are.1)

-- a program of a route fits where each route fits
pub program_fits : (pages : ℕ) (routes : List Route) (programs : List Program) (k : ℕ) (p : Program) → AreProgramsOf routes programs → AreRoomy pages routes → slice_get programs k ≡ Some p → p.pages ≤ pages
program_fits pages [] [] k p are roomy is = absurd cc
program_fits pages [] (q ∷ ps) k p are roomy is = absurd are
program_fits pages (r ∷ rs) [] k p are roomy is = absurd are
program_fits pages (r ∷ rs) (q ∷ ps) zero p are roomy is =
    let same : q ≡ p = cc in
    omega (arith, roomy.0, are.0, ap (λ (x : Program). x.pages) same)
program_fits pages (r ∷ rs) (q ∷ ps) (suc k) p are roomy is = program_fits pages rs ps k p are.1 roomy.1 is

-- so many pages are enough for the first routes
pub roomy_all : (pages : ℕ) (routes : List Route) → ((k : ℕ) (r : Route) → slice_get routes k ≡ Some r → r.pages ≤ pages) → AreRoomy pages routes
roomy_all pages [] each = tt
roomy_all pages (r ∷ rs) each = (each 0 r refl, roomy_all pages rs (λ k q is. each (suc k) q is))

-- the request of a job
abbrev pub request_made : Program → (body : List ℕ) → (budget : ℕ) → Request
request_made program body budget = record { program = program; body = body; budget = budget }

pub job_made : (tenants : List Tenant) (programs : List Program) (route : ℕ) (body : List ℕ) (p : Program) (r : Route) → slice_get programs route ≡ Some p → slice_get (all_routes tenants) route ≡ Some r
    → request_at tenants programs route body ≡ Some (request_made p body r.budget)
job_made tenants programs route body p r is has =
    ap (λ o. option_map (request_to tenants route body) o) is
    ∙ ap (λ (budget : ℕ). Some (request_made p body budget)) (member_is (λ (q : Route). q.budget) 0 (all_routes tenants) route r has)

-- the larger of two counts of pages has room where both have
pub larger_has_room : (berths a b c : ℕ) → c ≡ max a b → (berths + 1) * a ≤ 16384 → (berths + 1) * b ≤ 16384 → (berths + 1) * c ≤ 16384
larger_has_room berths a b c is one other = by (leb a b) refl
  where
    by : (t : Bool) → leb a b ≡ t → (berths + 1) * c ≤ 16384
    by true e =
        let same : b ≡ c = omega (arith, is, leb-true a b e) in
        subst (λ (n : ℕ). (berths + 1) * n ≤ 16384) same other
    by false e =
        let same : a ≡ c = omega (arith, is, leb-false a b e) in
        subst (λ (n : ℕ). (berths + 1) * n ≤ 16384) same one
