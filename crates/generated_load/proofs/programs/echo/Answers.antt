use Rattle.generated_load.specs.Modules.{echo_module}
use Rattle.generated_load.proofs.Accepted.{echo_accepted}
use Rattle.generated_load.proofs.programs.echo.Goals as goal

pub program_of-requires : goal.program_of-requires
unfolding echo_module
program_of-requires c = echo_accepted

pub returns : goal.returns
unfolding echo_module
returns c = c.program_of.ensures
