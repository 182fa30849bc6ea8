-- What becomes of each item. The first refusal of an item counts, in this order: one that its bytes have; that its path has no route; that its tenant's meter is spent.
use Rattle.std.specs.Prelude.{ℕ, ◌+◌, ◌-◌, ◌^◌, min, Bool, List, [], ◌∷◌, ◌++◌, Option, None, Some, slice_index, if◌then◌else◌, ◌==◌}
use Rattle.std.specs.List.{flat_map}
use Rattle.admission.specs.Bucket.{Bucket}
use Rattle.admission.specs.Metering.{Question, ask, behind_all}
use Rattle.admission.specs.declared.meters.Admission.{Admission}
use Rattle.admission.specs.declared.meters.Admission.TheVariants.{Entered, Spent}
use Rattle.http_items.specs.Headings.{is_head}
use Rattle.http_items.specs.Items.{Heard, Asked, Faulty, keeps}
use Rattle.http_items.specs.Refusals.{refusal_numbered}
use Rattle.http_items.specs.declared.refusals.Refusal.{Refusal}
use Rattle.http_items.specs.declared.refusals.Refusal.TheVariants.{NoRoute, AdmissionSpent}
use Rattle.recording_format.specs.declared.records.Record.{Record}
use Rattle.recording_format.specs.Connections.{tenants_of}
use Rattle.serve_config.specs.declared.tenants.Tenant.{Tenant}
use Rattle.serve_config.specs.Routing.{all_routes, route_number}
use Rattle.recorded_runner.specs.Lookups.{of_member}
use Rattle.recorded_arrivals.specs.Arrivals.{Arrived, arrivals}

-- a request that is admitted: the number of its route, the moment by which its answer is due, in milliseconds, and its body
pub record Entry : Type 0 where
  pub route : ℕ
  pub deadline : ℕ
  pub body : List ℕ

-- an item is refused, or it is a request that is admitted
pub data Fate : Type 0 where
  Refuses : (refusal : Refusal) → Fate
  Admits : (entry : Entry) → Fate

-- The meters.

-- the units that a request to a route is taken to spend
abbrev pub estimate_at : List Tenant → (route : ℕ) → ℕ
estimate_at tenants route = of_member (λ r. r.estimate) 0 (all_routes tenants) route

-- a tenant's meter, before it was asked anything
abbrev pub meter_of : Tenant → Bucket
meter_of t = record { capacity = t.capacity; rate = t.rate; level = 0; last = 0 }

abbrev pub no_meter : Bucket
no_meter = record { capacity = 0; rate = 0; level = 0; last = 0 }

abbrev pub meter_at_first : List Tenant → (tenant : ℕ) → Bucket
meter_at_first tenants tenant = of_member meter_of no_meter tenants tenant

-- what a meter is asked for a request: nothing where it has no route
abbrev pub asked_for : List Tenant → (moment : ℕ) → (route : Option ℕ) → List Question
asked_for tenants moment None = []
asked_for tenants moment (Some route) = record { moment = moment; estimate = estimate_at tenants route } ∷ []

-- what the meter of a tenant is asked for an item: nothing for a refusal
abbrev pub asked_of : List Tenant → (tenant moment : ℕ) → Heard → List Question
asked_of tenants tenant moment (Asked method path keep body) = asked_for tenants moment (route_number tenants tenant path)
asked_of tenants tenant moment (Faulty number head keep) = []

-- what the meter of a tenant is asked for these items, in order. The connections' tenants are the owners.
abbrev pub asked_in : List Tenant → (owners : List ℕ) → (tenant : ℕ) → List Arrived → List Question
asked_in tenants owners tenant arrived =
    flat_map (λ a. if slice_index owners a.link == tenant then asked_of tenants tenant a.moment a.heard else []) arrived

-- the meter of a tenant once it was asked for these items
abbrev pub meter_behind : List Tenant → (owners : List ℕ) → (tenant : ℕ) → List Arrived → Bucket
meter_behind tenants owners tenant arrived = behind_all (meter_at_first tenants tenant) (asked_in tenants owners tenant arrived)

-- The fate of an item.

-- the moment by which the answer to a request is due: its own with the deadline of its route on top, or the last one that 64 bits can tell
abbrev pub due_at : List Tenant → (moment route : ℕ) → ℕ
due_at tenants moment route = min (moment + of_member (λ r. r.deadline) 0 (all_routes tenants) route) (2 ^ 64 - 1)

abbrev pub entry_of : List Tenant → (moment route : ℕ) → (body : List ℕ) → Entry
entry_of tenants moment route body = record { route = route; deadline = due_at tenants moment route; body = body }

abbrev pub fate_by_answer : Admission → Entry → Fate
fate_by_answer Entered entry = Admits entry
fate_by_answer (Spent level estimate capacity) entry = Refuses AdmissionSpent

abbrev pub fate_by_route : List Tenant → Bucket → (moment : ℕ) → (route : Option ℕ) → (body : List ℕ) → Fate
fate_by_route tenants meter moment None body = Refuses NoRoute
fate_by_route tenants meter moment (Some route) body =
    fate_by_answer (ask meter moment (estimate_at tenants route)).0 (entry_of tenants moment route body)

-- of what was heard on a connection of a tenant, whose meter stands so
abbrev pub fate_of_heard : List Tenant → (tenant : ℕ) → Bucket → (moment : ℕ) → Heard → Fate
fate_of_heard tenants tenant meter moment (Asked method path keep body) =
    fate_by_route tenants meter moment (route_number tenants tenant path) body
fate_of_heard tenants tenant meter moment (Faulty number head keep) = Refuses (refusal_numbered number)

-- of an item behind these
abbrev pub fate_of : List Tenant → (owners : List ℕ) → (before : List Arrived) → Arrived → Fate
fate_of tenants owners before a =
    fate_of_heard tenants (slice_index owners a.link) (meter_behind tenants owners (slice_index owners a.link) before) a.moment a.heard

-- the reply to what was heard has no body
abbrev pub to_head : Heard → Bool
to_head (Asked method path keep body) = is_head method
to_head (Faulty number head keep) = head

-- an item with its fate: its connection, whether its reply has no body, and whether the connection is kept after it
pub record Decided : Type 0 where
  pub link : ℕ
  pub head : Bool
  pub keep : Bool
  pub fate : Fate

abbrev pub decided_item : Arrived → Fate → Decided
decided_item a fate = record { link = a.link; head = to_head a.heard; keep = keeps a.heard; fate = fate }

-- item by item, each behind those before it
abbrev pub decided_behind : List Tenant → (owners : List ℕ) → (before arrived : List Arrived) → List Decided
decided_behind tenants owners before [] = []
decided_behind tenants owners before (a ∷ arrived) =
    decided_item a (fate_of tenants owners before a) ∷ decided_behind tenants owners (before ++ a ∷ []) arrived

-- all items of a recording with their fates, in order
unfoldable pub decided : List Tenant → List Record → List Decided
decided tenants records = decided_behind tenants (tenants_of records) [] (arrivals records)
