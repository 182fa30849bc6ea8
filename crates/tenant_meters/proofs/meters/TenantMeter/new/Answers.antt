use Rattle.std.proofs.Common.{rules}
use Rattle.tenant_meters.proofs.Asking.{opens}
use Rattle.tenant_meters.proofs.meters.TenantMeter.new.Goals as goal

pub swap_as-requires : goal.swap_as-requires
swap_as-requires g c = (search rules, (search rules, (search rules, opens _ _ _ c.in_ok-cell.ensures.1 c.first-first.ensures.empty.0 c.first-first.ensures.empty.1)))
