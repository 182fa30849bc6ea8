-- What contracts see of a server, and what it serves to a tenant.
use Rattle.std.specs.Prelude.{◌≡◌, ℕ, List, []}
use Rattle.serve_config.specs.Configuration.{Configuration}
use Rattle.serve_config.specs.Routing.{all_routes, route_number}
use Rattle.serve_config.specs.declared.tenants.Tenant.{Tenant}
use Rattle.shop_desks.specs.Shops.{ShopView, VisitView}
use Rattle.tenant_meters.specs.declared.callers.Terms.{Terms}
use Rattle.wasm_meaning.specs.Programs.{Program}
use Rattle.workers.specs.Outcomes.{reported_of}
use Rattle.recorded_runner.specs.Fates.{estimate_at}
use Rattle.recorded_runner.specs.Lookups.{of_member}
use Rattle.recorded_runner.specs.Replies.{verdict_at}
use Rattle.link_sessions.specs.Services.{Service}

-- the shop, the configuration, and the program of each route in order
pub record ServerView : Type 0 where
  pub shop : ShopView
  pub config : Configuration
  pub programs : List Program

abbrev pub terms : (capacity rate : ℕ) → Terms
terms capacity rate = record { capacity = capacity; rate = rate }

-- what a tenant's meter is made for
abbrev pub terms_in : Tenant → Terms
terms_in tenant = terms tenant.capacity tenant.rate

-- what the meter of the tenant with this number is made for
abbrev pub terms_at : List Tenant → (tenant : ℕ) → Terms
terms_at tenants tenant = of_member terms_in (terms 0 0) tenants tenant

-- what a tenant of this configuration and these programs is served, by a clock that gives these moments: the routes, estimates, verdicts and content types are those of a replay
abbrev pub service_by : List Tenant → List Program → (tenant : ℕ) → (gave : ℕ → Type 0) → Service
service_by tenants programs tenant gave = record {
  route = route_number tenants tenant;
  estimate = estimate_at tenants;
  content_type = λ route. of_member (λ r. r.content_type) [] (all_routes tenants) route;
  reported = λ route body. reported_of (verdict_at tenants programs route body);
  gave = gave;
}

abbrev pub service_of : ServerView → (tenant : ℕ) → (gave : ℕ → Type 0) → Service
service_of server tenant gave = service_by server.config.tenants server.programs tenant gave

-- the visit's pass of the board has as many parts, and that of the pool is the same
pub record KeepsParts (old new : VisitView) : Type 0 where
  pub parts : new.board_pass.parts ≡ old.board_pass.parts
  pub pool : new.pool_pass ≡ old.pool_pass
