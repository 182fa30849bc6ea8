use Rattle.shop_desks.specs.Shops.{IsVisitOf}
use Rattle.server_tables.proofs.sessions.print_sessions.Given as goal

abbrev pub invariant-loop-line : goal.invariant-loop-line
invariant-loop-line g l = IsVisitOf l.server.shop l.visit
