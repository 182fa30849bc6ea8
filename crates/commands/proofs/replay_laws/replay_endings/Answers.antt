use Rattle.commands.proofs.ReplayLaws.{complete, done_is_answered, not_ready, recording_missing, recording_refused, too_many}
use Rattle.commands.proofs.replay_laws.replay_endings.Goals as goal

pub returns-clause-not_ready : goal.returns-clause-not_ready
returns-clause-not_ready c = not_ready

pub returns-clause-recording_missing : goal.returns-clause-recording_missing
returns-clause-recording_missing c = recording_missing

pub returns-clause-recording_refused : goal.returns-clause-recording_refused
returns-clause-recording_refused c = recording_refused

pub returns-clause-too_many : goal.returns-clause-too_many
returns-clause-too_many c = too_many

pub returns-clause-complete : goal.returns-clause-complete
returns-clause-complete c = complete

pub returns-clause-answered : goal.returns-clause-answered
returns-clause-answered c = done_is_answered
