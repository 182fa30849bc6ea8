use Rattle.tenant_meters.proofs.Visiting.{second_visit}
use Rattle.tenant_meters.proofs.visits.Meters.visit.Goals as goal

pub returns-clause-own : goal.returns-clause-own
returns-clause-own c =
    rw (c.split_each.ensures.passes, c.from.view_is) (second_visit _ _ c.requires.own)
