use Rattle.commands.proofs.ReadLaws.{read_fault_told}
use Rattle.commands.proofs.read_laws.read_faults_are_told.Goals as goal

pub returns : goal.returns
returns g c = read_fault_told g.L.Library.state g.L.Library.gave g.met.L.Library.tells
