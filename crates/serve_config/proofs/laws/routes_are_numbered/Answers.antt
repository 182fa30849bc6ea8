-- By the place of the route among those of its tenant.
use Rattle.serve_config.proofs.Numbering.{has_number}
use Rattle.serve_config.proofs.laws.routes_are_numbered.Goals as goal

pub returns : goal.returns
returns c = has_number
