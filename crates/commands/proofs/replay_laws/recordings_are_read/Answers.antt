use Rattle.commands.proofs.RecordingLaws.{read_is, recorded_is, refused_is}
use Rattle.commands.proofs.replay_laws.recordings_are_read.Goals as goal

pub returns-clause-recorded : goal.returns-clause-recorded
returns-clause-recorded c = recorded_is

pub returns-clause-refused : goal.returns-clause-refused
returns-clause-refused c = refused_is

pub returns-clause-read : goal.returns-clause-read
returns-clause-read c = read_is
