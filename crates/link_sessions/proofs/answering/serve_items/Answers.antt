use Rattle.std.proofs.Common.{◌≡◌, [], ◌∷◌, ◌++◌, map, refl, sym, ap, ◌∙◌, subst, append_assoc, arith, rules}
use Rattle.std.specs.List.{AllByRecursion}
use Rattle.http_front.specs.Views.{heard_of}
use Rattle.http_items.specs.Items.{IsWithin}
use Rattle.link_sessions.specs.Servers.{service_of, terms_at}
use Rattle.link_sessions.proofs.DoingLaws.{OnErr-anyhow, does_all, does_begin, done_nothing}
use Rattle.link_sessions.proofs.answering.serve_items.Goals as goal

pub loop-item-init : goal.loop-item-init
loop-item-init g c = record {
  own = c.requires.own;
  served = [];
  split = ap (map heard_of) c.from_vec-rest.ensures.items;
  within = subst (λ items. AllByRecursion IsWithin (map heard_of items)) (sym c.from_vec-rest.ensures.items) c.requires.within;
  does = done_nothing g.K.Link.state g.K.Link.exchanged (terms_at c.args.server.now.config.tenants c.args.tenant) c.args.tenant g.met.K.Link.nothing
      (service_of c.args.server.now c.args.tenant (g.C.Clock.gave c.args.clock.now)) c.args.link.now c.args.visit.now.meter_visit;
  kept = λ e. let bad : ⊥ = cc in absurd bad;
  parts = record { parts = refl; pool = refl };
  later = omega arith;
}

pub loop-item-preserved : goal.loop-item-preserved
loop-item-preserved g c =
    let read : c.loop-item.rest.items ≡ c.in-Some.item ∷ c.pop_front.new.self.items = search rules in
    let before = c.loop-item.invariant in
    record {
      own = c.serve_item.ensures.own;
      served = before.served ++ heard_of c.in-Some.item ∷ [];
      split = append_assoc before.served (heard_of c.in-Some.item ∷ []) (map heard_of c.pop_front.new.self.items)
          ∙ ap (λ items. before.served ++ map heard_of items) (sym read) ∙ before.split;
      within = (subst (λ items. AllByRecursion IsWithin (map heard_of items)) read before.within).1;
      does = does_all g.K.Link.state g.K.Link.exchanged (terms_at c.args.server.now.config.tenants c.args.tenant) c.args.tenant g.met.K.Link.behind
          (service_of c.args.server.now c.args.tenant (g.C.Clock.gave c.args.clock.now)) before.served (heard_of c.in-Some.item ∷ []) _ _ _ _ _ _ before.does c.in_ok-serve_item.ensures.ok;
      kept = λ e. record { before = before.served; last = heard_of c.in-Some.item; split = refl; closes = sym c.is_kept-keep.ensures ∙ e };
      parts = record { parts = c.serve_item.ensures.parts.parts ∙ before.parts.parts; pool = c.serve_item.ensures.parts.pool ∙ before.parts.pool };
      later = omega (arith, before.later, c.serve_item.ensures.later);
    }

pub returns-in_err-serve_item-clause-err : goal.returns-in_err-serve_item-clause-err
returns-in_err-serve_item-clause-err g c =
    let read : c.loop-item.rest.items ≡ c.in-Some.item ∷ c.pop_front.new.self.items = search rules in
    let before = c.loop-item.invariant in
    OnErr-anyhow c.from_residual.result
    (does_begin g.K.Link.state g.K.Link.exchanged (terms_at c.args.server.now.config.tenants c.args.tenant) c.args.tenant g.met.K.Link.behind
    (service_of c.args.server.now c.args.tenant (g.C.Clock.gave c.args.clock.now)) before.served (heard_of c.in-Some.item ∷ []) (map heard_of c.pop_front.new.self.items) _ _ _ _ _ _ _
    (ap (λ items. before.served ++ map heard_of items) (sym read) ∙ before.split)
    before.does c.in_err-serve_item.ensures.err)
