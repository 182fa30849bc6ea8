-- The ranges of a configuration's values, as the table of its keys gives them.
use Rattle.std.specs.Prelude.{ℕ, ◌^◌, ◌<◌, ◌≤◌, ◌≡◌, List, length, true}
use Rattle.std.specs.List.{AllByRecursion, list_all}
use Rattle.serve_config.specs.declared.tenants.Route.{Route}
use Rattle.serve_config.specs.declared.tenants.Tenant.{Tenant}
use Rattle.serve_config.specs.Configuration.{Configuration}
use Rattle.serve_config.specs.Letters.{is_name_byte}

-- the number is one of these, the ends among them
pub record IsBetween (least most n : ℕ) : Type 0 where
  pub above : least ≤ n
  pub below : n ≤ most

pub record IsRouteInRange (r : Route) : Type 0 where
  pub path : IsBetween 1 256 (length r.path)
  pub file : IsBetween 1 256 (length r.«module»)
  pub budget : r.budget ≤ 1099511627776
  pub pages : IsBetween 1 1024 r.pages
  pub estimate : r.estimate ≤ 1099511627776
  pub deadline : r.deadline ≤ 4294967295
  pub content_type : IsBetween 1 128 (length r.content_type)

pub record IsTenantInRange (t : Tenant) : Type 0 where
  pub name : IsBetween 1 64 (length t.name)
  pub letters : list_all is_name_byte t.name ≡ true
  pub port : IsBetween 1 65535 t.port
  pub capacity : t.capacity ≤ 1099511627776
  pub rate : t.rate ≤ 4294967295
  pub few : IsBetween 1 64 (length t.routes)
  pub routes : AllByRecursion IsRouteInRange t.routes

pub record IsInRange (c : Configuration) : Type 0 where
  pub workers : IsBetween 1 64 c.workers
  pub quantum : IsBetween 1 4294967295 c.quantum
  pub berths : IsBetween c.workers 256 c.berths
  pub clerks : IsBetween 1 16 c.clerks
  pub few : IsBetween 1 64 (length c.tenants)
  pub tenants : AllByRecursion IsTenantInRange c.tenants
