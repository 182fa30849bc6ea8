use Rattle.std.proofs.Common.{◌≡◌, List, map, sym, ap, ◌∙◌, subst}
use Rattle.serve_config.specs.Configuration.{Configuration}
use Rattle.shop_desks.specs.Asking.{AsksOnce}
use Rattle.shop_desks.specs.Shops.{ShopView}
use Rattle.tenant_meters.specs.Visiting.{terms_of}
use Rattle.link_sessions.specs.Servers.{ServerView, terms_in}
use Rattle.link_sessions.proofs.MeterLaws.{asks_meter}
use Rattle.link_sessions.proofs.servers.Server.ask.Goals as goal

pub returns-clause-asked : goal.returns-clause-asked
returns-clause-asked g c =
    let shop = ap (λ (s : ServerView). s.shop) c.self.view_is in
    let config = ap (λ (s : ServerView). s.config) c.self.view_is in
    let same : map terms_of c.args.self.now.shop.meters ≡ map terms_in c.args.self.now.config.tenants =
    ap (λ (s : ShopView). map terms_of s.meters) (sym shop) ∙ c.self.invariant.1 ∙ ap (λ (f : Configuration). map terms_in f.tenants) config in
    let call : AsksOnce c.args.self.now.shop.meters c.args.visit.now.meter_visit c.ask.new.visit.meter_visit c.args.tenant c.args.moment c.args.estimate c.ask.result =
    subst (λ (s : ShopView). AsksOnce s.meters c.args.visit.now.meter_visit c.ask.new.visit.meter_visit c.args.tenant c.args.moment c.args.estimate c.ask.result) (c.deref.ensures ∙ shop) c.ask.ensures.call in
    asks_meter c.args.self.now.shop.meters c.args.self.now.config.tenants c.args.tenant c.args.visit.now.meter_visit c.ask.new.visit.meter_visit c.args.moment c.args.estimate c.ask.result same c.requires.tenant c.requires.own.meters call
