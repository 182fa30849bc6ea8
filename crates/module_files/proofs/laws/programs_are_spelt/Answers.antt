use Rattle.module_files.proofs.Programs.{made_of_refused}
use Rattle.module_files.proofs.Spelt.{accepted_or_not, invalid_made, unlinked_made}
use Rattle.module_files.proofs.laws.programs_are_spelt.Goals as goal

pub returns-clause-accepted : goal.returns-clause-accepted
returns-clause-accepted c = accepted_or_not

pub returns-clause-refused : goal.returns-clause-refused
returns-clause-refused c = made_of_refused

pub returns-clause-invalid : goal.returns-clause-invalid
returns-clause-invalid c = invalid_made

pub returns-clause-unlinked : goal.returns-clause-unlinked
returns-clause-unlinked c = unlinked_made
