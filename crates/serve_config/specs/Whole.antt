-- What a configuration keeps as a whole, behind the ranges of its values: none of the faults that are looked at.
use Rattle.std.specs.Prelude.{◌≡◌, ◌≤◌, false}
use Rattle.std.specs.List.{list_any}
use Rattle.serve_config.specs.Configuration.{Configuration}
use Rattle.serve_config.specs.Overview.{route_count, has_double, are_rivals, some_route, has_bad_path, has_one_path, has_bad_content_type, is_too_large}

pub record IsWhole (c : Configuration) : Type 0 where
  pub few : route_count c.tenants ≤ 64
  pub names : has_double are_rivals c.tenants ≡ false
  pub paths : some_route has_bad_path c.tenants ≡ false
  pub once : list_any (λ t. has_double has_one_path t.routes) c.tenants ≡ false
  pub content_types : some_route has_bad_content_type c.tenants ≡ false
  pub memories : some_route (is_too_large c.berths) c.tenants ≡ false
