-- What one tenant is served, and the text of the reply to each item of a connection.
use Rattle.std.specs.Prelude.{◌≡◌, ℕ, List, [], Option, Some, None}
use Rattle.admission.specs.declared.meters.Admission.{Admission}
use Rattle.admission.specs.declared.meters.Admission.TheVariants.{Entered, Spent}
use Rattle.http_front.specs.Reply.{reply_of}
use Rattle.http_front.specs.Reported.{Reported, RefusedAs}
use Rattle.http_items.specs.Items.{Heard, Asked, Faulty, keeps}
use Rattle.http_items.specs.Refusals.{refusal_numbered}
use Rattle.http_items.specs.declared.refusals.Refusal.{Refusal}
use Rattle.http_items.specs.declared.refusals.Refusal.TheVariants.{NoRoute, AdmissionSpent}
use Rattle.recorded_runner.specs.Fates.{to_head}
use Rattle.tenant_meters.specs.declared.callers.Call.{Call}

-- what one tenant is served, by a clock
pub record Service : Type 1 where
  -- the number of the route that has this path
  pub route : (path : List ℕ) → Option ℕ
  -- the units that a request to a route is taken to spend
  pub estimate : (route : ℕ) → ℕ
  pub content_type : (route : ℕ) → List ℕ
  -- what the reply reports of a request to a route
  pub reported : (route : ℕ) → (body : List ℕ) → Reported
  -- the clock gave this moment
  pub gave : (moment : ℕ) → Type 0

-- the route of an item, for which the meter is asked; a refusal of its bytes and a path without a route ask none
abbrev pub route_of : Service → Heard → Option ℕ
route_of s (Asked method path keep body) = s.route path
route_of s (Faulty number head keep) = None

abbrev pub body_in : Heard → List ℕ
body_in (Asked method path keep body) = body
body_in (Faulty number head keep) = []

-- why an item without a route is refused
abbrev pub refusal_of : Heard → Refusal
refusal_of (Asked method path keep body) = NoRoute
refusal_of (Faulty number head keep) = refusal_numbered number

-- the reply to an item that asks no meter
abbrev pub refused_text : Heard → List ℕ
refused_text item = reply_of (RefusedAs (refusal_of item)) [] (to_head item) (keeps item)

-- the reply to an item with a route, by the answer of the meter: 503 exactly where it is spent, and else what is reported of the request
abbrev pub answered_text : Service → (route : ℕ) → Heard → Admission → List ℕ
answered_text s route item Entered = reply_of (s.reported route (body_in item)) (s.content_type route) (to_head item) (keeps item)
answered_text s route item (Spent level estimate capacity) = reply_of (RefusedAs AdmissionSpent) [] (to_head item) (keeps item)

-- the call asks for a request to this route, at a moment that the clock gave
pub record IsCallFor (s : Service) (route : ℕ) (call : Call) : Type 0 where
  pub estimate : call.estimate ≡ s.estimate route
  pub moment : s.gave call.moment
