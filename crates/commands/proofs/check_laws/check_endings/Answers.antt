use Rattle.commands.proofs.CheckLaws.{complete, config_missing, config_refused, done_is_answered, module_invalid, module_missing, module_refused, module_unlinked}
use Rattle.commands.proofs.check_laws.check_endings.Goals as goal

pub returns-clause-config_missing : goal.returns-clause-config_missing
returns-clause-config_missing c = config_missing

pub returns-clause-config_refused : goal.returns-clause-config_refused
returns-clause-config_refused c = config_refused

pub returns-clause-module_missing : goal.returns-clause-module_missing
returns-clause-module_missing c = module_missing

pub returns-clause-module_refused : goal.returns-clause-module_refused
returns-clause-module_refused c = module_refused

pub returns-clause-module_invalid : goal.returns-clause-module_invalid
returns-clause-module_invalid c = module_invalid

pub returns-clause-module_unlinked : goal.returns-clause-module_unlinked
returns-clause-module_unlinked c = module_unlinked

pub returns-clause-complete : goal.returns-clause-complete
returns-clause-complete c = complete

pub returns-clause-answered : goal.returns-clause-answered
returns-clause-answered c = done_is_answered
