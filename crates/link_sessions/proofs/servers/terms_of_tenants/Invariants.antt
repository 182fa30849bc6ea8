use Rattle.std.proofs.Common.{◌≡◌, map, take}
use Rattle.link_sessions.specs.Servers.{terms_in}
use Rattle.link_sessions.proofs.servers.terms_of_tenants.Given as goal

abbrev pub invariant-loop-tenant : goal.invariant-loop-tenant
invariant-loop-tenant l = l.terms.items ≡ map terms_in (take l.tenant-index l.tenants)
