use Rattle.std.proofs.Common.{◌≤◌}
use Rattle.tenant_meters.specs.Metered.{IsPassOf}
use Rattle.server_tests.proofs.meters.entered.Given as goal

abbrev pub invariant-loop-round : goal.invariant-loop-round
invariant-loop-round g l = IsPassOf l.meter l.pass × (l.entered ≤ l.round)
