-- The configuration of the load: one tenant, which has four routes.
use Rattle.std.specs.Prelude.{ℕ, List, [], ◌∷◌, ◌++◌, codes}
use Rattle.run_queues.specs.declared.policies.Policy.TheVariants.{RoundRobin}
use Rattle.serve_config.specs.declared.tenants.Route.{Route}
use Rattle.serve_config.specs.declared.tenants.Tenant.{Tenant}
use Rattle.serve_config.specs.Configuration.{Configuration}

-- each route has a budget of 1,000, and replies with bytes of any kind
abbrev pub soak_route : (path file : List ℕ) (pages estimate deadline : ℕ) → Route
soak_route path file pages estimate deadline = record {
  path = path;
  «module» = file;
  budget = 1000;
  pages = pages;
  estimate = estimate;
  deadline = deadline;
  content_type = codes "application/octet-stream";
}

abbrev pub soak_routes : List Route
soak_routes =
    soak_route (codes "/nil") (codes "m0") 1 10 10
    ∷ soak_route (codes "/trap") (codes "m1") 1 10 10
    ∷ soak_route (codes "/loop") (codes "m2") 1 1000 20
    ∷ soak_route (codes "/echo") (codes "e") 2 200 20
    ∷ []

abbrev pub soak_tenant : Tenant
soak_tenant = record { name = codes "soak"; port = 8080; capacity = 20000; rate = 500; routes = soak_routes }

abbrev pub soak_configuration : Configuration
soak_configuration = record { workers = 4; quantum = 100; policy = RoundRobin; berths = 8; clerks = 4; tenants = soak_tenant ∷ [] }

-- the same as the text of a file (RFC 8259)
unfoldable pub soak_text : List ℕ
soak_text =
    codes "{\"workers\":4,\"quantum\":100,\"policy\":\"rr\",\"berths\":8,\"tenants\":[{\"name\":\"soak\",\"port\":8080,\"capacity\":20000,\"rate\":500,\"routes\":["
    ++ codes "{\"path\":\"/nil\",\"module\":\"m0\",\"budget\":1000,\"pages\":1,\"estimate\":10,\"deadline\":10},"
    ++ codes "{\"path\":\"/trap\",\"module\":\"m1\",\"budget\":1000,\"pages\":1,\"estimate\":10,\"deadline\":10},"
    ++ codes "{\"path\":\"/loop\",\"module\":\"m2\",\"budget\":1000,\"pages\":1,\"estimate\":1000,\"deadline\":20},"
    ++ codes "{\"path\":\"/echo\",\"module\":\"e\",\"budget\":1000,\"pages\":2,\"estimate\":200,\"deadline\":20}]}]}"
