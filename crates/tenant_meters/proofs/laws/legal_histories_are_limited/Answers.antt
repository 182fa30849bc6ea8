use Rattle.tenant_meters.proofs.Limits.{limited}
use Rattle.tenant_meters.proofs.laws.legal_histories_are_limited.Goals as goal

pub returns : goal.returns
returns c = limited c.any_questions.ensures.limited
