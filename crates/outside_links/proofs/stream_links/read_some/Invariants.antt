use Rattle.std.specs.Io.KnownBytes.{Keeps}
use Rattle.outside_links.proofs.stream_links.read_some.Given as goal

-- the calls that were interrupted took no byte
abbrev pub invariant-loop : goal.invariant-loop
invariant-loop g l = Keeps (g.S.Read.remaining l.fn.stream) (g.S.Read.remaining l.stream)
