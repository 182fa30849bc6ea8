-- The objects of a configuration: the keys that each may have.
use Rattle.std.specs.Prelude.{ℕ, List, [], ◌∷◌, codes}
use Rattle.serve_config.specs.declared.objects.Object.{Object}
use Rattle.serve_config.specs.declared.objects.Object.TheVariants.{Route, Tenant, Top}

abbrev pub route_keys : List (List ℕ)
route_keys =
    codes "path" ∷ codes "module" ∷ codes "budget" ∷ codes "pages" ∷ codes "estimate" ∷ codes "deadline" ∷ codes "content_type" ∷ []

abbrev pub tenant_keys : List (List ℕ)
tenant_keys = codes "name" ∷ codes "port" ∷ codes "capacity" ∷ codes "rate" ∷ codes "routes" ∷ []

abbrev pub top_keys : List (List ℕ)
top_keys =
    codes "workers" ∷ codes "quantum" ∷ codes "policy" ∷ codes "berths" ∷ codes "clerks" ∷ codes "tenants" ∷ []

abbrev pub keys_of : Object → List (List ℕ)
keys_of Route = route_keys
keys_of Tenant = tenant_keys
keys_of Top = top_keys
