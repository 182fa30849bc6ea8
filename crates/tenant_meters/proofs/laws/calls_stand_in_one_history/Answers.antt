use Rattle.tenant_meters.proofs.Chaining.{stand_in_one_history, ends_with_its_latest}
use Rattle.tenant_meters.proofs.laws.calls_stand_in_one_history.Goals as goal

pub returns-clause-asked : goal.returns-clause-asked
returns-clause-asked c = stand_in_one_history

pub returns-clause-history : goal.returns-clause-history
returns-clause-history c = ends_with_its_latest
