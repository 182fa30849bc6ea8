use Rattle.std.proofs.Common.{rules, sym, subst, ap, ◌∙◌}
use Rattle.tenant_meters.proofs.Asking.{tells}
use Rattle.tenant_meters.proofs.Knowing.{known_second}
use Rattle.tenant_meters.specs.Knowing.{IsKnown}
use Rattle.tenant_meters.specs.Metered.{PassView}
use Rattle.tenant_meters.specs.declared.callers.Caller.{Caller}
use Rattle.tenant_meters.proofs.meters.TenantMeter.split.Goals as goal

pub split_pass-requires : goal.split_pass-requires
split_pass-requires c = (search rules, (search rules, (search rules, tells _ _ _ (ap (λ (p : PassView). p.terms) c.pass.view_is ∙ c.requires.1))))

pub invariant_of-result : goal.invariant_of-result
invariant_of-result c =
    let v = c.pass.inside.seat.me.0.client in
    subst (λ (w : Caller). IsKnown w.terms w.seen w.mine) (sym c.split_pass.ensures.given.1) (known_second v.terms v.seen v.mine c.pass.invariant)
