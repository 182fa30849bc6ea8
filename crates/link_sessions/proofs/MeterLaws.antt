-- One call of the tenant's meter, as the shop tells it, among all passes of a visit.
use Rattle.std.proofs.Common.{◌≡◌, ◌≢◌, ℕ, zero, suc, ◌<◌, ◌≤◌, ◌^◌, All, List, [], ◌∷◌, ◌++◌, length, map, Option, None, Some, slice_get, slice_set, option_map, unwrap_or, refl, sym, ap, ◌∙◌, subst, arith}
use Rattle.std.specs.List.{AllByRecursion}
use Rattle.std.proofs.lemmas.List.{length-map}
use Rattle.std.proofs.lemmas.Option.{slice_get-map}
use Rattle.admission.specs.declared.meters.Admission.{Admission}
use Rattle.serve_config.specs.Ranges.{IsTenantInRange}
use Rattle.serve_config.specs.declared.tenants.Tenant.{Tenant}
use Rattle.shop_desks.specs.Asking.{AsksOnce}
use Rattle.tenant_meters.specs.Histories.{call, empty_bucket, IsLegal, calls_by}
use Rattle.tenant_meters.specs.Metered.{MeterView, PassView}
use Rattle.tenant_meters.specs.Visiting.{IsVisitOf, terms_of}
use Rattle.tenant_meters.specs.declared.callers.Call.{Call}
use Rattle.tenant_meters.specs.declared.callers.Terms.{Terms}
use Rattle.recorded_runner.proofs.RouteLaws.{mapped_at, member_is}
use Rattle.link_sessions.specs.Calling.{AsksMeter, mine_in, seen_in}
use Rattle.link_sessions.specs.Servers.{terms, terms_at, terms_in}

some_at : {A : Type 0} (xs : List A) (k : ℕ) → k < length xs → (x : A) × (slice_get xs k ≡ Some x)
some_at [] k inside = absurd (omega (arith, inside))
some_at (y ∷ ys) zero inside = (y, refl)
some_at (y ∷ ys) (suc k) inside = some_at ys k (omega (arith, inside))

set_there : {A : Type 0} (xs : List A) (k : ℕ) (x : A) → k < length xs → slice_get (slice_set xs k x) k ≡ Some x
set_there [] k x inside = absurd (omega (arith, inside))
set_there (y ∷ ys) zero x inside = refl
set_there (y ∷ ys) (suc k) x inside = set_there ys k x (omega (arith, inside))

set_elsewhere : {A : Type 0} (xs : List A) (k j : ℕ) (x : A) → j ≢ k → slice_get (slice_set xs k x) j ≡ slice_get xs j
set_elsewhere [] k j x apart = refl
set_elsewhere (y ∷ ys) zero zero x apart = absurd (apart refl)
set_elsewhere (y ∷ ys) zero (suc j) x apart = refl
set_elsewhere (y ∷ ys) (suc k) zero x apart = refl
set_elsewhere (y ∷ ys) (suc k) (suc j) x apart = set_elsewhere ys k j x (λ e. apart (ap suc e))

-- the tenant's meter is made for what the configuration has for the tenant
terms_are : (meters : List MeterView) (tenants : List Tenant) (tenant : ℕ) (meter : MeterView) → map terms_of meters ≡ map terms_in tenants → slice_get meters tenant ≡ Some meter → meter.terms ≡ terms_at tenants tenant
terms_are meters tenants tenant meter same is =
    sym (ap (λ o. unwrap_or o (terms 0 0)) (sym (slice_get-map terms_in tenants tenant) ∙ ap (λ ts. slice_get ts tenant) (sym same) ∙ mapped_at terms_of meters tenant meter is))

-- what meters are made for is within their limit
pub terms_few : (tenants : List Tenant) → AllByRecursion IsTenantInRange tenants → All (λ (t : Terms). t.capacity ≤ 2 ^ 40) (map terms_in tenants)
terms_few [] in_range k d inside = absurd (omega (arith, inside))
terms_few (t ∷ tenants) in_range zero d inside = in_range.0.capacity
terms_few (t ∷ tenants) in_range (suc k) d inside = terms_few tenants in_range.1 k d (omega (arith, inside))

-- there is a meter for each tenant
meters_are : (meters : List MeterView) (tenants : List Tenant) → map terms_of meters ≡ map terms_in tenants → length meters ≡ length tenants
meters_are meters tenants same = sym (length-map meters terms_of) ∙ ap length same ∙ length-map tenants terms_in

pub asks_meter : (meters : List MeterView) (tenants : List Tenant) (tenant : ℕ) (old new : List PassView) (moment estimate : ℕ) (answer : Admission) →
    map terms_of meters ≡ map terms_in tenants → tenant < length tenants → IsVisitOf meters old → AsksOnce meters old new tenant moment estimate answer →
    AsksMeter (terms_at tenants tenant) tenant old new moment estimate answer
asks_meter meters tenants tenant old new moment estimate answer same inside visit asks =
    let many = meters_are meters tenants same in
    let long = visit.long in
    let meter = some_at meters tenant (omega (arith, many, inside)) in
    let before = some_at old tenant (omega (arith, many, long, inside)) in
    let asked = asks meter.0 before.0 meter.1 before.1 in
    let given = terms_are meters tenants tenant meter.0 same meter.1 in
    let after : slice_get new tenant ≡ Some asked.0 = ap (λ ps. slice_get ps tenant) asked.1 ∙ set_there old tenant asked.0 (omega (arith, many, long, inside)) in
    let seen = member_is (λ (p : PassView). p.seen) [] new tenant asked.0 after in
    let mine = member_is (λ (p : PassView). p.mine) [] new tenant asked.0 after in
    let seen_before = member_is (λ (p : PassView). p.seen) [] old tenant before.0 before.1 in
    let mine_before = member_is (λ (p : PassView). p.mine) [] old tenant before.0 before.1 in (
      asked.2.by,
      record {
        between = asked.2.between;
        seen = seen ∙ asked.2.seen_is ∙ ap (λ (l : List Call). (l ++ asked.2.between) ++ call asked.2.by moment estimate answer ∷ []) (sym seen_before);
        mine = mine ∙ asked.2.mine_is ∙ ap (λ (l : List Call). l ++ call asked.2.by moment estimate answer ∷ []) (sym mine_before);
        legal = subst (λ (t : Terms). IsLegal (empty_bucket t) (seen_in new tenant)) given (subst (λ (l : List Call). IsLegal (empty_bucket meter.0.terms) l) (sym seen) asked.2.legal);
        own = ap (λ (l : List Call). calls_by asked.2.by l) seen ∙ asked.2.own ∙ sym mine;
        others = λ other apart. ap (λ ps. slice_get ps other) asked.1 ∙ set_elsewhere old tenant other asked.0 apart;
      },
    )
