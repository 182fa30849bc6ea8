use Rattle.generated_load.specs.Modules.{nil_module}
use Rattle.generated_load.proofs.Accepted.{nil_accepted}
use Rattle.generated_load.proofs.programs.nil.Goals as goal

pub program_of-requires : goal.program_of-requires
unfolding nil_module
program_of-requires c = nil_accepted

pub returns : goal.returns
unfolding nil_module
returns c = c.program_of.ensures
