use Rattle.shop_desks.specs.Shops.{IsVisitOf}
use Rattle.serve_sessions.proofs.clerks.clerk.Given as goal

abbrev pub invariant-loop : goal.invariant-loop
invariant-loop g l = IsVisitOf l.server.shop l.visit
