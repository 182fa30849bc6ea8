-- By the reads in order, each by the law of libraries.
use Rattle.serve_config.proofs.ToldLoads.{loads_over, loads_untold}
use Rattle.serve_config.proofs.laws.loads_are_due.Goals as goal

pub returns-clause-told : goal.returns-clause-told
returns-clause-told g c = loads_over g.L.Library.state g.L.Library.gave g.met.L.Library.tells

pub returns-clause-untold : goal.returns-clause-untold
returns-clause-untold g c = loads_untold g.L.Library.state g.L.Library.gave g.met.L.Library.tells
