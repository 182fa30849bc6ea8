use Rattle.std.proofs.Common.{List, ap, subst}
use Rattle.tenant_meters.specs.Metered.{MeterView, PassView}
use Rattle.shop_desks.specs.Asking.{AsksOnce}
use Rattle.shop_desks.specs.Shops.{ShopView, VisitView}
use Rattle.shop_desks.proofs.shops.Shop.ask.Goals as goal

pub returns-clause-call : goal.returns-clause-call
returns-clause-call g c =
    let asked = subst (λ (all : List MeterView). AsksOnce all c.visit.inside.meter_visit c.ask.new.visit c.args.tenant c.args.moment c.args.estimate c.ask.result) (ap (λ (s : ShopView). s.meters) c.self.view_is) c.ask.ensures.call in
    subst (λ (passes : List PassView). AsksOnce c.args.self.now.meters passes c.ask.new.visit c.args.tenant c.args.moment c.args.estimate c.ask.result) (ap (λ (v : VisitView). v.meter_visit) c.visit.view_is) asked
