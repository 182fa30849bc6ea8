-- What a configuration says: the value of each key of its table.
use Rattle.std.specs.Prelude.{ℕ, List}
use Rattle.run_queues.specs.declared.policies.Policy.{Policy}
use Rattle.serve_config.specs.declared.tenants.Tenant.{Tenant}

pub record Configuration : Type 0 where
  pub workers : ℕ
  pub quantum : ℕ
  pub policy : Policy
  pub berths : ℕ
  pub clerks : ℕ
  pub tenants : List Tenant
