-- The values are in their ranges, and nothing is wrong with the whole.
use Rattle.generated_load.proofs.Fitting.{in_range, nothing_wrong}
use Rattle.generated_load.proofs.configuration.soak_config.Goals as goal

pub invariant_of-result : goal.invariant_of-result
invariant_of-result c = rw (c.new.ensures, c.in_ok-tenants.ensures.items, c.in_ok-tenant.ensures) (in_range, nothing_wrong)
