-- The table of a configuration's keys: each object's keys in order, each with its kind and its range.
use Rattle.std.specs.Prelude.{codes, Option, Some, None, Result, Ok, Err}
use Rattle.serde_json.specs.Data.{Data}
use Rattle.serve_config.specs.declared.refusals.Refusal.{Refusal}
use Rattle.serve_config.specs.declared.tenants.Route.{Route}
use Rattle.serve_config.specs.declared.tenants.Tenant.{Tenant}
use Rattle.serve_config.specs.Steps.{go_on}
use Rattle.serve_config.specs.Kinds.{number, text, name, policy, array_of, object_of, required, optional}
use Rattle.serve_config.specs.Objects.{route_keys, tenant_keys, top_keys}
use Rattle.serve_config.specs.Configuration.{Configuration}
use Rattle.serve_config.specs.Overview.{first_fault}

unfoldable pub route_of : Data → Result Route Refusal
route_of d =
    go_on (object_of route_keys d) (λ known.
    go_on (required (codes "path") (text 256) d) (λ path.
    go_on (required (codes "module") (text 256) d) (λ file.
    go_on (required (codes "budget") (number 0 1099511627776) d) (λ budget.
    go_on (required (codes "pages") (number 1 1024) d) (λ pages.
    go_on (required (codes "estimate") (number 0 1099511627776) d) (λ estimate.
    go_on (required (codes "deadline") (number 0 4294967295) d) (λ deadline.
    go_on (optional (codes "content_type") (codes "application/octet-stream") (text 128) d) (λ content_type.
    Ok (record { path = path; «module» = file; budget = budget; pages = pages; estimate = estimate; deadline = deadline; content_type = content_type })))))))))

unfoldable pub tenant_of : Data → Result Tenant Refusal
tenant_of d =
    go_on (object_of tenant_keys d) (λ known.
    go_on (required (codes "name") name d) (λ called.
    go_on (required (codes "port") (number 1 65535) d) (λ port.
    go_on (required (codes "capacity") (number 0 1099511627776) d) (λ capacity.
    go_on (required (codes "rate") (number 0 4294967295) d) (λ rate.
    go_on (required (codes "routes") (array_of route_of) d) (λ routes.
    Ok (record { name = called; port = port; capacity = capacity; rate = rate; routes = routes })))))))

-- the configuration, where nothing is wrong with it as a whole
abbrev pub unless_faulty : Option Refusal → Configuration → Result Configuration Refusal
unless_faulty None c = Ok c
unless_faulty (Some refusal) c = Err refusal

unfoldable pub config_of : Data → Result Configuration Refusal
config_of d =
    go_on (object_of top_keys d) (λ known.
    go_on (required (codes "workers") (number 1 64) d) (λ workers.
    go_on (required (codes "quantum") (number 1 4294967295) d) (λ quantum.
    go_on (required (codes "policy") policy d) (λ order.
    go_on (required (codes "berths") (number workers 256) d) (λ berths.
    go_on (optional (codes "clerks") 4 (number 1 16) d) (λ clerks.
    go_on (required (codes "tenants") (array_of tenant_of) d) (λ tenants.
    unless_faulty (first_fault berths tenants) (record { workers = workers; quantum = quantum; policy = order; berths = berths; clerks = clerks; tenants = tenants }))))))))
