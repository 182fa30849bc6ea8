use Rattle.std.proofs.Common.{◌≤◌, length}
use Rattle.outside.specs.Sink.{Appends, SinkState, TakesPrefix}
use Rattle.commands.proofs.Pieces.{CompletesCut, CompletesHanded}
use Rattle.commands.proofs.delivery.write_pieces.Given as goal

-- whatever completes the rest completes the whole
abbrev pub invariant-pieces : goal.invariant-pieces
invariant-pieces g l = record {
  all : (z : SinkState) → Appends (g.S.Sink.state l.sink) z l.rest → Appends (g.S.Sink.state l.fn.sink) z l.bytes;
  some : (z : SinkState) → TakesPrefix (g.S.Sink.state l.sink) z l.rest → TakesPrefix (g.S.Sink.state l.fn.sink) z l.bytes;
  handed : CompletesHanded g.S.Sink.took l.rest l.bytes l.sink l.fn.sink;
  cut : CompletesCut g.S.Sink.took l.rest l.bytes l.sink l.fn.sink;
  later : (g.S.Sink.state l.fn.sink).faults ≤ (g.S.Sink.state l.sink).faults;
}

abbrev pub decreases-pieces : goal.decreases-pieces
decreases-pieces g l = length l.rest
