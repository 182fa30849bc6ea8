use Rattle.std.proofs.Common.{All}
use Rattle.outside_links.specs.MemPort.{IsUntouched}
use Rattle.server_tables.proofs.calls.doors.ports_in.Given as goal

-- no call was made on the ports so far
abbrev pub invariant-loop-part : goal.invariant-loop-part
invariant-loop-part l = All IsUntouched l.ports.items
