use Rattle.recorded_runner.proofs.AloneFates.{replies_alone}
use Rattle.recorded_runner.proofs.IsolationLaws.{isolated, isolated_whole}
use Rattle.recorded_runner.proofs.laws.tenants_are_isolated.Goals as goal

pub returns : goal.returns
returns c = record {
  each = λ config programs records tenant link. replies_alone c.ends_complete_refusals.ensures config.tenants programs tenant link records;
  texts = isolated c.ends_complete_refusals.ensures;
  whole = isolated_whole c.ends_complete_refusals.ensures;
}
