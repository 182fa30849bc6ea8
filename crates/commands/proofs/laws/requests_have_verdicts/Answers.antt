use Rattle.commands.proofs.InvokeLaws.{has_verdict}
use Rattle.commands.proofs.laws.requests_have_verdicts.Goals as goal

pub returns : goal.returns
returns c = has_verdict
