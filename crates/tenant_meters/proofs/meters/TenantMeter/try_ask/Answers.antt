use Rattle.std.proofs.Common.{rules, ap, ◌∙◌, subst}
use Rattle.admission.specs.Bucket.{Bucket}
use Rattle.admission.specs.declared.meters.Admission.{Admission}
use Rattle.tenant_meters.proofs.Asking.{looks, asks, equal_fields, next_bucket, tried_hit, tried_miss}
use Rattle.tenant_meters.specs.Metered.{PassView}
use Rattle.tenant_meters.specs.Steps.{SeesMore, MakesCall}
use Rattle.tenant_meters.proofs.meters.TenantMeter.try_ask.Goals as goal
use Rattle.tenant_meters.proofs.meters.TenantMeter.try_ask.Goals.{in-Ok, in-Err}

pub load_as-seen-requires : goal.load_as-seen-requires
load_as-seen-requires g c = (search rules, (search rules, (search rules, looks _ _ _ (ap (λ (p : PassView). p.terms) c.pass.view_is ∙ c.requires.own.1))))

pub compare_exchange_as-requires : goal.compare_exchange_as-requires
compare_exchange_as-requires g c =
    let terms = ap (λ (p : PassView). p.terms) c.pass.view_is ∙ c.requires.own.1 in
    let next = c.asked-answer.result.1 in
    let seen = c.load_as-seen.result in (
      search rules,
      (
        search rules,
        (
          search rules,
          asks _ _ _ _ seen next (c.load_as-seen.ensures.rule.0 ∙ terms) (λ x e. equal_fields x seen e) (next_bucket _ _ _ _ _ _ _ c.asked-answer.ensures.bucket c.asked-answer.ensures.call.0 c.asked-answer.ensures.call.1) c.asked-answer.ensures.call.2,
        ),
      ),
    )

pub returns-clause-tried : goal.returns-clause-tried
returns-clause-tried g c =
    let given = c.args.self.now.terms in
    let terms = ap (λ (p : PassView). p.terms) c.pass.view_is ∙ c.requires.own.1 in
    let seen = c.load_as-seen.result in
    let next = c.asked-answer.result.1 in
    let asked = c.asked-answer.ensures in
    let v = c.pass.inside.seat.me.0.client in
    let w = c.load_as-seen.new.pass.me.0.client in
    let u = c.compare_exchange_as.new.pass.me.0.client in
    elim c.match-compare_exchange_as.branch [
      | in-Ok b ↦
          let told = b.in-Ok.ensures.rule in
          rw b.result-is (
          subst (λ (p : PassView). MakesCall given p.seen p.mine u.seen u.mine c.args.moment c.args.estimate c.asked-answer.result.0) c.pass.view_is (
          tried_hit given v w u seen b.in-Ok.field-0 next c.args.moment c.args.estimate c.asked-answer.result.0 terms c.load_as-seen.ensures.rule (equal_fields b.in-Ok.field-0 seen told.0) told.1
          (ap (λ (p : Admission × Bucket). p.0) asked.bucket) asked.call.0 asked.call.1 asked.call.2))
      | in-Err b ↦
          let told = b.in-Err.ensures.rule in
          rw b.result-is (
          subst (λ (p : PassView). SeesMore given p.seen p.mine u.seen u.mine) c.pass.view_is (
          tried_miss given v w u seen b.in-Err.field-0 terms c.load_as-seen.ensures.rule told.1))
    ]
