-- Calls of one tenant's meter, one after another.
use Rattle.std.proofs.Common.{◌≡◌, ◌≢◌, ◌⊎◌, inl, inr, ℕ, List, [], ◌∷◌, ◌++◌, slice_get, refl, sym, ap, ◌∙◌, append_assoc, append-nil, subst}
use Rattle.tenant_meters.specs.Histories.{GoesOn}
use Rattle.tenant_meters.specs.Metered.{PassView}
use Rattle.tenant_meters.specs.declared.callers.Call.{Call}
use Rattle.tenant_meters.specs.declared.callers.Terms.{Terms}
use Rattle.link_sessions.specs.Calling.{EndsWithItsLatest, IsOneHistory, MakesCall, MakesCalls, OthersStay, mine_in, seen_in}

-- some calls, and then others
pub calls_then : (given : Terms) (tenant : ℕ) (old mid new : List PassView) (first second : List Call) →
    MakesCalls given tenant old mid first → MakesCalls given tenant mid new second → MakesCalls given tenant old new (first ++ second)
calls_then given tenant old mid new [] second x y = subst (λ p. MakesCalls given tenant p new second) x y
calls_then given tenant old mid new (c ∷ first) second x y = (x.0, x.1, calls_then given tenant x.0 mid new first second x.2 y)

-- the visit's own calls grow by just these
pub mine_grows : (given : Terms) (tenant : ℕ) (old new : List PassView) (calls : List Call) →
    MakesCalls given tenant old new calls → mine_in new tenant ≡ mine_in old tenant ++ calls
mine_grows given tenant old new [] x = ap (λ p. mine_in p tenant) x ∙ sym (append-nil (mine_in old tenant))
mine_grows given tenant old new (c ∷ calls) x =
    mine_grows given tenant x.0 new calls x.2 ∙ ap (λ cs. cs ++ calls) x.1.mine ∙ append_assoc (mine_in old tenant) (c ∷ []) calls

pub others_stay : (given : Terms) (tenant : ℕ) (old new : List PassView) (calls : List Call) →
    MakesCalls given tenant old new calls → OthersStay tenant old new
others_stay given tenant old new [] x other apart = ap (λ p. slice_get p other) x
others_stay given tenant old new (c ∷ calls) x other apart = others_stay given tenant x.0 new calls x.2 other apart ∙ x.1.others other apart

goes_twice : (a b c : List Call) → GoesOn a b → GoesOn b c → GoesOn a c
goes_twice a b c (more, x) (more', y) = (more ++ more', y ∙ ap (λ l. l ++ more') x ∙ append_assoc a more more')

one_goes : (given : Terms) (tenant : ℕ) (old new : List PassView) (c : Call) → MakesCall given tenant old new c → GoesOn (seen_in old tenant) (seen_in new tenant)
one_goes given tenant old new c x = (x.between ++ c ∷ [], x.seen ∙ append_assoc (seen_in old tenant) x.between (c ∷ []))

one_ends : (given : Terms) (tenant : ℕ) (old new : List PassView) (c : Call) → MakesCall given tenant old new c → EndsWithItsLatest given (seen_in new tenant) (mine_in new tenant)
one_ends given tenant old new c x = record {
  legal = x.legal;
  by = c.by;
  own = x.own;
  latest = c;
  seen_before = seen_in old tenant ++ x.between;
  mine_before = mine_in old tenant;
  seen_ends = x.seen;
  mine_ends = x.mine;
}

ends_by : (given : Terms) (tenant : ℕ) (mid new : List PassView) → EndsWithItsLatest given (seen_in mid tenant) (mine_in mid tenant) →
    (new ≡ mid) ⊎ EndsWithItsLatest given (seen_in new tenant) (mine_in new tenant) → EndsWithItsLatest given (seen_in new tenant) (mine_in new tenant)
ends_by given tenant mid new ends (inl same) = subst (λ p. EndsWithItsLatest given (seen_in p tenant) (mine_in p tenant)) (sym same) ends
ends_by given tenant mid new ends (inr later) = later

-- the calls stand in one history, which goes on from what was seen
pub one_history : (given : Terms) (tenant : ℕ) (old new : List PassView) (calls : List Call) →
    MakesCalls given tenant old new calls → IsOneHistory given tenant old new
one_history given tenant old new [] x =
    record { onward = ([], ap (λ p. seen_in p tenant) x ∙ sym (append-nil (seen_in old tenant))); latest = inl x }
one_history given tenant old new (c ∷ calls) x =
    let behind = one_history given tenant x.0 new calls x.2 in
    record {
      onward = goes_twice (seen_in old tenant) (seen_in x.0 tenant) (seen_in new tenant) (one_goes given tenant old x.0 c x.1) behind.onward;
      latest = inr (ends_by given tenant x.0 new (one_ends given tenant old x.0 c x.1) behind.latest);
    }
