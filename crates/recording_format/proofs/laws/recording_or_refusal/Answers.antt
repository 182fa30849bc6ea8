use Rattle.recording_format.proofs.RecordedLaws.{one_of_two, refused_or_recorded, one_recording, one_refusal}
use Rattle.recording_format.proofs.laws.recording_or_refusal.Goals as goal

pub returns-clause-one_holds : goal.returns-clause-one_holds
returns-clause-one_holds c = one_of_two

pub returns-clause-never_both : goal.returns-clause-never_both
returns-clause-never_both c = refused_or_recorded

pub returns-clause-one_recording : goal.returns-clause-one_recording
returns-clause-one_recording c = one_recording

pub returns-clause-one_refusal : goal.returns-clause-one_refusal
returns-clause-one_refusal c = one_refusal
