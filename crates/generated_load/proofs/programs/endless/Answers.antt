use Rattle.generated_load.specs.Modules.{loop_module}
use Rattle.generated_load.proofs.Accepted.{loop_accepted}
use Rattle.generated_load.proofs.programs.endless.Goals as goal

pub program_of-requires : goal.program_of-requires
unfolding loop_module
program_of-requires c = loop_accepted

pub returns : goal.returns
unfolding loop_module
returns c = c.program_of.ensures
