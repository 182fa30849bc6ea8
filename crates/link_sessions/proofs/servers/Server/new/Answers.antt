use Rattle.std.proofs.Common.{◌≡◌, ◌≤◌, ◌^◌, All, List, map, sym, ap, ◌∙◌, subst}
use Rattle.tenant_meters.specs.declared.callers.Terms.{Terms}
use Rattle.link_sessions.specs.Servers.{terms_in}
use Rattle.link_sessions.proofs.MeterLaws.{terms_few}
use Rattle.link_sessions.proofs.servers.Server.new.Goals as goal

pub new-requires-clause-few : goal.new-requires-clause-few
new-requires-clause-few g c =
    let are : c.as_slice.result.now ≡ map terms_in c.args.config.tenants = c.as_slice.ensures.value ∙ c.in_ok-terms.ensures ∙ ap (map terms_in) c.tenants.ensures.same in
    subst (λ (all : List Terms). All (λ (t : Terms). t.capacity ≤ 2 ^ 40) all) (sym are) (terms_few c.args.config.tenants c.tenants.ensures.in_range.tenants)
