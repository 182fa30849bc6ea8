use Rattle.std.proofs.Common.{◌≡◌, ◌+◌, ◌<◌, ◌≤◌, ◌^◌, None}
use Rattle.worker_desks.proofs.working.work.Given as goal

abbrev pub invariant-duties : goal.invariant-duties
invariant-duties g l = record {
  ready : (1 ≤ l.quantum) × ((g.D.Desk.state l.desk).quantum ≡ l.quantum);
  same : (g.D.Desk.state l.desk).quantum ≡ (g.D.Desk.state l.fn.desk).quantum;
  free : (g.D.Desk.state l.desk).out ≡ None;
  counted : (g.D.Desk.state l.desk).given ≡ (g.D.Desk.state l.fn.desk).given + l.turns;
  few : (g.D.Desk.state l.desk).given + (g.D.Desk.state l.desk).bound < 2 ^ 64;
  falls : (g.D.Desk.state l.desk).bound ≤ (g.D.Desk.state l.fn.desk).bound;
  serves : g.D.Desk.serves l.desk ≡ g.D.Desk.serves l.fn.desk;
}

abbrev pub decreases-duties : goal.decreases-duties
decreases-duties g l = (g.D.Desk.state l.desk).bound
