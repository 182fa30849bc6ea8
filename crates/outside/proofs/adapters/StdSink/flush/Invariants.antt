use Rattle.std.proofs.Common.{◌≤◌}
use Rattle.std.specs.Io.KnownBytes.{Keeps}
use Rattle.outside.proofs.adapters.StdSink.flush.Given as goal

-- the stream keeps what it holds, and the count never falls
abbrev pub invariant-loop : goal.invariant-loop
invariant-loop g l = record {
  kept : Keeps (g.W.Write.contents l.fn.self.stream) (g.W.Write.contents l.self.stream);
  later : l.fn.self.faults ≤ l.self.faults;
}
