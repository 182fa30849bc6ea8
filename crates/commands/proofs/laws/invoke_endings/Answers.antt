use Rattle.commands.proofs.InvokeLaws.{body_missing, body_too_long, complete, done_is_answered, module_invalid, module_missing, module_refused, module_unlinked}
use Rattle.commands.proofs.laws.invoke_endings.Goals as goal

pub returns-clause-module_missing : goal.returns-clause-module_missing
returns-clause-module_missing c = module_missing

pub returns-clause-module_refused : goal.returns-clause-module_refused
returns-clause-module_refused c = module_refused

pub returns-clause-module_invalid : goal.returns-clause-module_invalid
returns-clause-module_invalid c = module_invalid

pub returns-clause-module_unlinked : goal.returns-clause-module_unlinked
returns-clause-module_unlinked c = module_unlinked

pub returns-clause-body_missing : goal.returns-clause-body_missing
returns-clause-body_missing c = body_missing

pub returns-clause-body_too_long : goal.returns-clause-body_too_long
returns-clause-body_too_long c = body_too_long

pub returns-clause-complete : goal.returns-clause-complete
returns-clause-complete c = complete

pub returns-clause-answered : goal.returns-clause-answered
returns-clause-answered c = done_is_answered
