use Rattle.recorded_runner.proofs.AloneArrivals.{fewer_alone}
use Rattle.recorded_runner.proofs.AloneFiles.{recorded_alone}
use Rattle.recorded_runner.proofs.AloneLaws.{said_alone, tenants_alone}
use Rattle.recorded_runner.proofs.AloneLegal.{legal_alone}
use Rattle.recorded_runner.proofs.laws.one_tenant_alone.Goals as goal

pub returns : goal.returns
returns c = record { legal = legal_alone; owners = tenants_alone; said = said_alone; recorded = recorded_alone; fewer = fewer_alone c.ends_complete_refusals.ensures }
