-- From the laws alone: what the configuration's file is is in range, so the recording is read as it is spelt, and the ending is that of a replay.
use Rattle.commands.proofs.AcceptedLaws.{accepted_end, answered_are, answered_is_done, are_ready, few_tenants}
use Rattle.commands.specs.Commands.{ending}
use Rattle.std.proofs.Common.{length}
use Rattle.commands.proofs.accepted_laws.accepted_files_are_replayed.Goals as goal

pub returns-clause-done : goal.returns-clause-done
returns-clause-done c = λ words files r config programs records is a.
    let small = few_tenants config (c.configurations_fit.ensures.in_range a.configured.file config a.configured.accepted) in
    let read = c.recordings_are_read.ensures.recorded (length config.tenants) a.recording records small a.spelt in
    answered_is_done r files (ending words files)
    (c.replay_endings.ensures.complete words files r config programs a.recording records is (are_ready r files config programs records a) a.holds read a.few)

pub returns-clause-ends : goal.returns-clause-ends
returns-clause-ends c = λ words files r config programs records is a.
    let small = few_tenants config (c.configurations_fit.ensures.in_range a.configured.file config a.configured.accepted) in
    accepted_end words files r config programs records is a (c.recordings_are_read.ensures.recorded (length config.tenants) a.recording records small a.spelt)

pub returns-clause-only : goal.returns-clause-only
returns-clause-only c = λ words files r is bytes done.
    answered_are r files (ending words files) c.recordings_are_read.ensures.read bytes (c.replay_endings.ensures.answered words files r is done)
