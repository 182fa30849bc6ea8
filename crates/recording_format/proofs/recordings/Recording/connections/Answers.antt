use Rattle.std.proofs.Common.{◌≡◌, ap, arith, length}
use Rattle.recording_format.specs.Standing.{Standing}
use Rattle.recording_format.proofs.StandingLaws.{few_connections}
use Rattle.recording_format.proofs.ConnectionLaws.{as_many}
use Rattle.recording_format.specs.Connections.{connections_of}
use Rattle.recording_format.proofs.recordings.Recording.connections.Goals as goal

pub overflow_cast-result : goal.overflow_cast-result
overflow_cast-result c =
    let few = few_connections c.self.inside.records.items c.self.invariant.0 in
    let same = ap (λ (s : Standing). length s.links) c.self.invariant.1 in
    omega (arith, few, same, c.len.ensures)

pub returns-clause-few : goal.returns-clause-few
returns-clause-few c =
    let few = few_connections c.self.inside.records.items c.self.invariant.0 in
    let same = ap (λ (s : Standing). length s.links) c.self.invariant.1 in
    omega (arith, few, same, c.len.ensures)

pub returns-clause-all : goal.returns-clause-all
returns-clause-all c =
    let same = ap (λ (s : Standing). length s.links) c.self.invariant.1 in
    let all = as_many c.self.inside.records.items in
    let count : c.len.result ≡ length (connections_of c.self.inside.records.items) = omega (arith, same, all, c.len.ensures) in
    rw (← c.self.view_is) count
