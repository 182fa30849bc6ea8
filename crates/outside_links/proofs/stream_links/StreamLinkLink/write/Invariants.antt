use Rattle.std.proofs.Common.{◌≡◌, ◌++◌, ℕ, List}
use Rattle.std.specs.Io.KnownBytes.{Appends}
use Rattle.outside_links.proofs.stream_links.StreamLinkLink.write.Given as goal

-- the stream holds what was handed to it, which is all but the rest, and nothing else has changed
abbrev pub invariant-loop : goal.invariant-loop
invariant-loop g l = record {
  sent : List ℕ;
  split : sent ++ l.rest ≡ l.bytes;
  gained : Appends (g.S.Write.contents l.fn.self.stream) (g.S.Write.contents l.self.stream) sent;
  ended : l.self.ended ≡ l.fn.self.ended;
  used : l.self.used ≡ l.fn.self.used;
  faults : l.self.faults ≡ l.fn.self.faults;
}
