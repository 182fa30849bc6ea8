-- The fates of items: one item more, and what is known of each.
use Rattle.std.proofs.Common.{◌≡◌, ◌≢◌, ℕ, zero, suc, ◌<◌, ◌≤◌, Bool, true, false, ◌==◌, if◌then◌else◌, List, [], ◌∷◌, ◌++◌, length, map, get_or, set, Option, Some, None, refl, sym, ap, ap₂, ◌∙◌, arith, append-nil, append_assoc, eq-eqb, eqb-true, get_or-set_same, get_or-set_other, length-set, true≢false}
use Rattle.std.proofs.lemmas.List.{length-map}
use Rattle.std.specs.List.{AllByRecursion}
use Rattle.std.proofs.lemmas.Grind.{flat_map-append}
use Rattle.admission.specs.Bucket.{Bucket}
use Rattle.admission.specs.Metering.{Question, behind, behind_all}
use Rattle.admission.specs.declared.meters.Admission.{Admission}
use Rattle.admission.specs.declared.meters.Admission.TheVariants.{Entered, Spent}
use Rattle.http_items.specs.Items.{Heard, Asked, Faulty, IsWithin}
use Rattle.recorded_arrivals.specs.Arrivals.{Arrived}
use Rattle.serve_config.specs.declared.tenants.Tenant.{Tenant}
use Rattle.serve_config.specs.Routing.{HasNumber, all_routes, route_number}
use Rattle.recorded_runner.specs.Fates.{Decided, Entry, entry_of, meter_of, no_meter, meter_at_first, asked_of, asked_in, meter_behind, fate_by_answer, fate_by_route, fate_of_heard, fate_of, decided_item, decided_behind}
use Rattle.recorded_runner.specs.Serving.{IsServable}
use Rattle.recorded_runner.proofs.RouteLaws.{below_some}

-- ---- one item more

pub decided_more : (tenants : List Tenant) (owners : List ℕ) (before arrived : List Arrived) (a : Arrived)
    → decided_behind tenants owners before (arrived ++ a ∷ []) ≡ decided_behind tenants owners before arrived ++ decided_item a (fate_of tenants owners (before ++ arrived) a) ∷ []
decided_more tenants owners before [] a = ap (λ (items : List Arrived). decided_item a (fate_of tenants owners items a) ∷ []) (sym (append-nil before))
decided_more tenants owners before (b ∷ arrived) a =
    ap (λ (more : List Decided). decided_item b (fate_of tenants owners before b) ∷ more)
    (decided_more tenants owners (before ++ b ∷ []) arrived a
    ∙ ap (λ (items : List Arrived). decided_behind tenants owners (before ++ b ∷ []) arrived ++ decided_item a (fate_of tenants owners items a) ∷ []) (append_assoc before (b ∷ []) arrived))

behind_both : (bucket : Bucket) (first others : List Question) → behind_all bucket (first ++ others) ≡ behind_all (behind_all bucket first) others
behind_both bucket [] others = refl
behind_both bucket (q ∷ first) others = behind_both (behind bucket q.moment q.estimate) first others

asked_more : (tenants : List Tenant) (owners : List ℕ) (tenant : ℕ) (arrived : List Arrived) (a : Arrived)
    → asked_in tenants owners tenant (arrived ++ a ∷ []) ≡ asked_in tenants owners tenant arrived ++ (if get_or owners a.link 0 == tenant then asked_of tenants tenant a.moment a.heard else [])
asked_more tenants owners tenant arrived a =
    flat_map-append (λ (b : Arrived). if get_or owners b.link 0 == tenant then asked_of tenants tenant b.moment b.heard else []) arrived (a ∷ [])
    ∙ ap (λ (more : List Question). asked_in tenants owners tenant arrived ++ more) (append-nil (if get_or owners a.link 0 == tenant then asked_of tenants tenant a.moment a.heard else []))

meter_by : (tenants : List Tenant) (owners : List ℕ) (tenant owner : ℕ) (arrived : List Arrived) (a : Arrived) → get_or owners a.link 0 ≡ owner → (is_here : Bool) → (owner == tenant) ≡ is_here
    → meter_behind tenants owners tenant (arrived ++ a ∷ []) ≡ behind_all (meter_behind tenants owners tenant arrived) (if is_here then asked_of tenants tenant a.moment a.heard else [])
meter_by tenants owners tenant owner arrived a is is_here e =
    ap (λ (qs : List Question). behind_all (meter_at_first tenants tenant) qs) (asked_more tenants owners tenant arrived a)
    ∙ behind_both (meter_at_first tenants tenant) (asked_in tenants owners tenant arrived) (if get_or owners a.link 0 == tenant then asked_of tenants tenant a.moment a.heard else [])
    ∙ ap (λ (b : Bool). behind_all (meter_behind tenants owners tenant arrived) (if b then asked_of tenants tenant a.moment a.heard else [])) (ap (λ (o : ℕ). o == tenant) is ∙ e)

-- each tenant's meter stands where its items have brought it
pub record AreMetered (tenants : List Tenant) (owners : List ℕ) (arrived : List Arrived) (meters : List Bucket) : Type 0 where
  pub one_each : length meters ≡ length tenants
  pub stand : (tenant : ℕ) → tenant < length tenants → get_or meters tenant no_meter ≡ meter_behind tenants owners tenant arrived

pub metered_more : (tenants : List Tenant) (owners : List ℕ) (owner : ℕ) (arrived : List Arrived) (a : Arrived) (old : List Bucket) (new : Bucket)
    → AreMetered tenants owners arrived old → get_or owners a.link 0 ≡ owner → owner < length tenants
    → new ≡ behind_all (get_or old owner no_meter) (asked_of tenants owner a.moment a.heard)
    → AreMetered tenants owners (arrived ++ a ∷ []) (set old owner new)
metered_more tenants owners owner arrived a old new m is below due = record {
  one_each = length-set old owner new ∙ m.one_each;
  stand = λ tenant known. by tenant known (owner == tenant) refl;
}
  where
    by : (tenant : ℕ) → tenant < length tenants → (is_here : Bool) → (owner == tenant) ≡ is_here → get_or (set old owner new) tenant no_meter ≡ meter_behind tenants owners tenant (arrived ++ a ∷ [])
    by tenant known true e =
        let here : owner ≡ tenant = eqb-true owner tenant e in
        let within : owner < length old = omega (arith, below, m.one_each) in
        ap (λ (t : ℕ). get_or (set old owner new) t no_meter) (sym here)
        ∙ get_or-set_same old owner new no_meter within
        ∙ due
        ∙ ap (λ (t : ℕ). behind_all (get_or old t no_meter) (asked_of tenants t a.moment a.heard)) here
        ∙ ap (λ (b : Bucket). behind_all b (asked_of tenants tenant a.moment a.heard)) (m.stand tenant known)
        ∙ sym (meter_by tenants owners tenant owner arrived a is true e)
    by tenant known false e =
        let other : tenant ≢ owner = λ (same : tenant ≡ owner). true≢false (sym (eq-eqb owner tenant (sym same)) ∙ e) in
        get_or-set_other old owner tenant new no_meter other
        ∙ m.stand tenant known
        ∙ sym (meter_by tenants owners tenant owner arrived a is false e)

member_meter : (tenants : List Tenant) (tenant : ℕ) → get_or (map meter_of tenants) tenant no_meter ≡ meter_at_first tenants tenant
member_meter [] tenant = refl
member_meter (t ∷ ts) zero = refl
member_meter (t ∷ ts) (suc tenant) = member_meter ts tenant

pub metered_first : (tenants : List Tenant) (owners : List ℕ) (meters : List Bucket) → meters ≡ map meter_of tenants → AreMetered tenants owners [] meters
metered_first tenants owners meters are = record {
  one_each = ap (λ (ms : List Bucket). length ms) are ∙ length-map tenants meter_of;
  stand = λ tenant known. ap (λ (ms : List Bucket). get_or ms tenant no_meter) are ∙ member_meter tenants tenant;
}

pub decided_next : (tenants : List Tenant) (owners : List ℕ) (arrived : List Arrived) (a : Arrived) (meters : List Bucket) (meter : Bucket) (old new : List Decided) (d : Decided)
    → AreMetered tenants owners arrived meters → get_or owners a.link 0 < length tenants → meter ≡ get_or meters (get_or owners a.link 0) no_meter
    → old ≡ decided_behind tenants owners [] arrived
    → d ≡ decided_item a (fate_of_heard tenants (get_or owners a.link 0) meter a.moment a.heard)
    → new ≡ old ++ d ∷ []
    → new ≡ decided_behind tenants owners [] (arrived ++ a ∷ [])
decided_next tenants owners arrived a meters meter old new d m known stands so_far due gained =
    let owner = get_or owners a.link 0 in
    let fate : d ≡ decided_item a (fate_of tenants owners arrived a) =
    due ∙ ap (λ (b : Bucket). decided_item a (fate_of_heard tenants owner b a.moment a.heard)) (stands ∙ m.stand owner known) in
    gained ∙ ap₂ (λ (items : List Decided) (e : Decided). items ++ e ∷ []) so_far fate ∙ sym (decided_more tenants owners [] arrived a)

-- ---- each can be served

-- a path's number is that of a route
abbrev pub AreNumbered : Type 0
AreNumbered = (tenants : List Tenant) (tenant : ℕ) (path : List ℕ) (number : ℕ) → route_number tenants tenant path ≡ Some number → HasNumber tenants path number

pub route_below : AreNumbered → (tenants : List Tenant) (tenant : ℕ) (path : List ℕ) (number : ℕ) → route_number tenants tenant path ≡ Some number → number < length (all_routes tenants)
route_below numbered tenants tenant path number is =
    let has = numbered tenants tenant path number is in
    below_some (all_routes tenants) number has.0 has.1

answered : (tenants : List Tenant) (answer : Admission) (entry : Entry) → entry.route < length (all_routes tenants) → length entry.body ≤ 1048576 → IsServable tenants (fate_by_answer answer entry)
answered tenants Entered entry known fits = (known, fits)
answered tenants (Spent level estimate capacity) entry known fits = tt

routed : (tenants : List Tenant) (meter : Bucket) (moment : ℕ) (route : Option ℕ) (body : List ℕ) → ((number : ℕ) → route ≡ Some number → number < length (all_routes tenants)) → length body ≤ 1048576
    → IsServable tenants (fate_by_route tenants meter moment route body)
routed tenants meter moment None body known fits = tt
routed tenants meter moment (Some number) body known fits = answered tenants _ (entry_of tenants moment number body) (known number refl) fits

heard_servable : AreNumbered → (tenants : List Tenant) (tenant : ℕ) (meter : Bucket) (moment : ℕ) (heard : Heard) → IsWithin heard → IsServable tenants (fate_of_heard tenants tenant meter moment heard)
heard_servable numbered tenants tenant meter moment (Asked method path keep body) within =
    routed tenants meter moment (route_number tenants tenant path) body (λ number is. route_below numbered tenants tenant path number is) within
heard_servable numbered tenants tenant meter moment (Faulty number head keep) within = tt

pub all_servable : AreNumbered → (tenants : List Tenant) (owners : List ℕ) (before arrived : List Arrived) → AllByRecursion (λ (a : Arrived). IsWithin a.heard) arrived
    → AllByRecursion (λ (d : Decided). IsServable tenants d.fate) (decided_behind tenants owners before arrived)
all_servable numbered tenants owners before [] all = tt
all_servable numbered tenants owners before (a ∷ arrived) all = (
  heard_servable numbered tenants (get_or owners a.link 0) (meter_behind tenants owners (get_or owners a.link 0) before) a.moment a.heard all.0,
  all_servable numbered tenants owners (before ++ a ∷ []) arrived all.1,
)

pub all_begun : (tenants : List Tenant) (owners : List ℕ) (count : ℕ) (before arrived : List Arrived) → AllByRecursion (λ (a : Arrived). a.link < count) arrived
    → AllByRecursion (λ (d : Decided). d.link < count) (decided_behind tenants owners before arrived)
all_begun tenants owners count before [] all = tt
all_begun tenants owners count before (a ∷ arrived) all = (all.0, all_begun tenants owners count (before ++ a ∷ []) arrived all.1)

pub as_many : (tenants : List Tenant) (owners : List ℕ) (before arrived : List Arrived) → length (decided_behind tenants owners before arrived) ≡ length arrived
as_many tenants owners before [] = refl
as_many tenants owners before (a ∷ arrived) = ap suc (as_many tenants owners (before ++ a ∷ []) arrived)
