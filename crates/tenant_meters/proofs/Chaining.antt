-- Calls of one pass, one after another, by induction.
use Rattle.std.proofs.Common.{List, [], ◌∷◌, ◌++◌, refl, sym, ap, ◌∙◌, subst, append_assoc}
use Rattle.std.proofs.lemmas.List.{append-nil}
use Rattle.tenant_meters.proofs.Histories.{goes_twice}
use Rattle.tenant_meters.specs.Chains.{Asked, HaveAsked, StandInOneHistory, EndsWithItsLatest}
use Rattle.tenant_meters.specs.Histories.{call}
use Rattle.tenant_meters.specs.Metered.{PassView, HasAsked}
use Rattle.tenant_meters.specs.declared.callers.Call.{Call}
use Rattle.tenant_meters.specs.declared.callers.Terms.{Terms}

pub stand_in_one_history : (given : Terms) (old new : PassView) (asked : List Asked) → HaveAsked given old new asked → StandInOneHistory old new asked
stand_in_one_history given old new [] same =
    record {
      onward = ([], ap (λ (p : PassView). p.seen) same ∙ sym (append-nil old.seen));
      calls = [];
      mine = ap (λ (p : PassView). p.mine) same ∙ sym (append-nil old.mine);
      are = refl;
    }
stand_in_one_history given old new (a ∷ asked) chain =
    let between : PassView = chain.0 in
    let one = chain.1 in
    let rest = stand_in_one_history given between new asked chain.2 in
    let e = call one.by a.moment a.estimate a.answer in
    record {
      onward = goes_twice old.seen between.seen new.seen (one.between ++ e ∷ [], one.seen_is ∙ append_assoc old.seen one.between (e ∷ [])) rest.onward;
      calls = e ∷ rest.calls;
      mine = rest.mine ∙ (ap (λ (l : List Call). l ++ rest.calls) one.mine_is ∙ append_assoc old.mine (e ∷ []) rest.calls);
      are = ap (λ (l : List Asked). a ∷ l) rest.are;
    }

one_call : (given : Terms) (old new : PassView) (a : Asked) → HasAsked given old new a.moment a.estimate a.answer → EndsWithItsLatest given new
one_call given old new a one =
    record {
      legal = one.legal;
      by = one.by;
      own = one.own;
      latest = call one.by a.moment a.estimate a.answer;
      seen_before = old.seen ++ one.between;
      mine_before = old.mine;
      seen_ends = one.seen_is;
      mine_ends = one.mine_is;
    }

pub ends_with_its_latest : (given : Terms) (old new : PassView) (first : Asked) (more : List Asked) → HaveAsked given old new (first ∷ more) → EndsWithItsLatest given new
ends_with_its_latest given old new a [] chain = subst (EndsWithItsLatest given) (sym chain.2) (one_call given old chain.0 a chain.1)
ends_with_its_latest given old new a (b ∷ more) chain = ends_with_its_latest given chain.0 new b more chain.2
