use Rattle.std.proofs.Common.{◌≡◌, ◌≤◌, ◌++◌, ℕ, List}
use Rattle.std.specs.Io.KnownBytes.{Appends as Gains}
use Rattle.outside.proofs.adapters.StdSinkSink.write.Given as goal

-- the stream holds what was handed to it, which is all but the rest, and the count never falls
abbrev pub invariant-loop : goal.invariant-loop
invariant-loop g l = record {
  done : List ℕ;
  split : done ++ l.rest ≡ l.bytes;
  gained : Gains (g.W.Write.contents l.fn.self.stream) (g.W.Write.contents l.self.stream) done;
  later : l.fn.self.faults ≤ l.self.faults;
}
