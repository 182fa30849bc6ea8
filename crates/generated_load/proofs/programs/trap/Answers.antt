use Rattle.generated_load.specs.Modules.{trap_module}
use Rattle.generated_load.proofs.Accepted.{trap_accepted}
use Rattle.generated_load.proofs.programs.trap.Goals as goal

pub program_of-requires : goal.program_of-requires
unfolding trap_module
program_of-requires c = trap_accepted

pub returns : goal.returns
unfolding trap_module
returns c = c.program_of.ensures
