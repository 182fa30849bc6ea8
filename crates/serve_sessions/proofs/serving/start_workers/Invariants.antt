use Rattle.std.specs.Arc.{arc_value}
use Rattle.shop_desks.specs.Shops.{IsVisitOf}
use Rattle.serve_sessions.specs.Parts.{GivesAway}
use Rattle.serve_sessions.proofs.serving.start_workers.Given as goal

abbrev pub invariant-loop-number : goal.invariant-loop-number
invariant-loop-number g l = record {
  own : IsVisitOf (arc_value l.staff.server).shop l.visit;
  parts : GivesAway l.fn.visit l.visit l.number;
}
