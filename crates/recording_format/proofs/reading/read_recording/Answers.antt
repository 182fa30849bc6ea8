-- Each way back is a law.
use Rattle.std.proofs.Common.{arith}
use Rattle.recording_format.proofs.Responses.{records_given, refusal_given}
use Rattle.recording_format.proofs.reading.read_recording.Goals as goal

pub returns-clause-only : goal.returns-clause-only
returns-clause-only c = records_given c.args.tenants c.args.bytes.now c.read_bytes.result (omega (arith, c.ranges.tenants)) c.read_bytes.ensures.found c.read_bytes.ensures.refused

pub returns-clause-only_refused : goal.returns-clause-only_refused
returns-clause-only_refused c = refusal_given c.args.tenants c.args.bytes.now c.read_bytes.result (omega (arith, c.ranges.tenants)) c.read_bytes.ensures.found c.read_bytes.ensures.refused
