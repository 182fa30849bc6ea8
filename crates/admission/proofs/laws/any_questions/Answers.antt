use Rattle.admission.proofs.BucketLaws.{kept, limited}
use Rattle.admission.proofs.laws.any_questions.Goals as goal

pub returns-clause-kept : goal.returns-clause-kept
returns-clause-kept c = kept

pub returns-clause-limited : goal.returns-clause-limited
returns-clause-limited c = limited
