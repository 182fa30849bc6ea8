use Rattle.recording_format.proofs.ConnectionLaws.{as_many, one_more}
use Rattle.recording_format.proofs.laws.connections_grow.Goals as goal

pub returns-clause-as_many : goal.returns-clause-as_many
returns-clause-as_many c = as_many

pub returns-clause-one_more : goal.returns-clause-one_more
returns-clause-one_more c = one_more
