-- By the routes in order.
use Rattle.serve_config.proofs.ToldLoads.{all_or_not, first_or_not}
use Rattle.serve_config.proofs.laws.loads_are_told.Goals as goal

pub returns-clause-programs : goal.returns-clause-programs
returns-clause-programs c = all_or_not

pub returns-clause-first : goal.returns-clause-first
returns-clause-first c = first_or_not
