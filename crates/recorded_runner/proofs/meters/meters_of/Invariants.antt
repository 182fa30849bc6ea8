use Rattle.std.proofs.Common.{◌≡◌, map, take}
use Rattle.recorded_runner.specs.Fates.{meter_of}
use Rattle.recorded_runner.proofs.meters.meters_of.Given as goal

abbrev pub invariant-loop-tenant : goal.invariant-loop-tenant
invariant-loop-tenant l = l.meters.items ≡ map meter_of (take l.tenant-index l.tenants)
