-- The bytes are the records so far, and what is ahead.
use Rattle.std.proofs.Common.{length}
use Rattle.recording_format.specs.Recorded.{AreRecords}
use Rattle.recording_format.proofs.reading.read_records.Given as goal

abbrev pub invariant-records : goal.invariant-records
invariant-records l = AreRecords l.tenants l.bytes l.recording l.ahead

abbrev pub decreases-records : goal.decreases-records
decreases-records l = length l.ahead
