-- The reply to each item: that of its refusal, or that of the verdict of its request.
use Rattle.std.specs.Prelude.{ℕ, List, [], Option, option_and_then, option_map, slice_get}
use Rattle.http_front.specs.Reply.{reply_of}
use Rattle.http_front.specs.Reported.{Reported, RefusedAs}
use Rattle.serve_config.specs.declared.tenants.Tenant.{Tenant}
use Rattle.serve_config.specs.Routing.{all_routes}
use Rattle.wasm_meaning.specs.Programs.{Program}
use Rattle.wasm_meaning.specs.Requests as requests
use Rattle.wasm_meaning.specs.Requests.{Request, Verdict}
use Rattle.workers.specs.Outcomes.{reported_of}
use Rattle.recorded_runner.specs.Lookups.{of_member}
use Rattle.recorded_runner.specs.Fates.{Fate, Refuses, Admits, Decided}

-- The requests that are admitted.

-- the request to the program of a route within the route's budget
abbrev pub request_to : List Tenant → (route : ℕ) → (body : List ℕ) → Program → Request
request_to tenants route body program =
    record { program = program; body = body; budget = of_member (λ r. r.budget) 0 (all_routes tenants) route }

-- the programs are those of the routes, in order
abbrev pub request_at : List Tenant → List Program → (route : ℕ) → (body : List ℕ) → Option Request
request_at tenants programs route body = option_map (request_to tenants route body) (slice_get programs route)

-- the uninterrupted meaning of its module on its body within its budget, whoever held the memory before
abbrev pub verdict_at : List Tenant → List Program → (route : ℕ) → (body : List ℕ) → Option Verdict
verdict_at tenants programs route body = option_and_then requests.verdict (request_at tenants programs route body)

-- The replies.

abbrev pub reported_fate : List Tenant → List Program → Fate → Reported
reported_fate tenants programs (Refuses refusal) = RefusedAs refusal
reported_fate tenants programs (Admits entry) = reported_of (verdict_at tenants programs entry.route entry.body)

-- the content type of a route's replies; a refusal has that of its own text
abbrev pub content_type_at : List Tenant → Fate → List ℕ
content_type_at tenants (Refuses refusal) = []
content_type_at tenants (Admits entry) = of_member (λ r. r.content_type) [] (all_routes tenants) entry.route

-- the reply to an item
unfoldable pub reply_to : List Tenant → List Program → Decided → List ℕ
reply_to tenants programs d = reply_of (reported_fate tenants programs d.fate) (content_type_at tenants d.fate) d.head d.keep
