-- A session from one read to the next.
use Rattle.std.proofs.Common.{◌≡◌, ◌≢◌, ◌⊎◌, inl, inr, ◌≤◌, ◌+◌, ℕ, Bool, true, false, ◌||◌, List, [], ◌∷◌, ◌++◌, take, length, refl, sym, ap, ◌∙◌, subst, append_assoc, append-nil, arith, ◌==◌, ◌<◌, eqb-true}
use Rattle.std.specs.List.{AllByRecursion}
use Rattle.http_items.specs.Items.{Heard, items, keeps}
use Rattle.http_items.specs.Standings.{Goes, Reading, Standing, items_from}
use Rattle.outside.specs.Faults.{Rose, one_more}
use Rattle.outside_links.specs.Link.{Fails, LinkState, Reads}
use Rattle.tenant_meters.specs.Metered.{PassView}
use Rattle.tenant_meters.specs.declared.callers.Call.{Call}
use Rattle.tenant_meters.specs.declared.callers.Terms.{Terms}
use Rattle.link_sessions.specs.Calling.{MakesCalls, mine_in}
use Rattle.link_sessions.specs.Going.{Does, Going, Serves, StopCause}
use Rattle.link_sessions.specs.Services.{Service}
use Rattle.link_sessions.specs.Serving.{Begins, Replies}
use Rattle.link_sessions.specs.Sessions.{HasServed, HasServedAll, LastCloses}
use Rattle.link_sessions.specs.declared.sessions.Ended.{Ended}
use Rattle.link_sessions.specs.declared.sessions.Ended.TheVariants.{Done, LinkFault, NoMemory}
use Rattle.link_sessions.proofs.CallingLaws.{calls_then, mine_grows}
use Rattle.link_sessions.proofs.ServingLaws.{begins_more, begins_nothing, replies_all, replies_begin, replies_some, replies_then}

-- the items behind those so far
so_far : (read : List ℕ) (heard : List Heard) (front : Standing) → Goes (Reading []) read heard front [] →
    (more : List ℕ) (ended : Bool) → items (read ++ more) ended ≡ heard ++ items_from front more ended
so_far read heard front goes more ended = goes.same more ended

stop_not_done : (e : Ended) (old new : LinkState) → StopCause e old new → e ≡ Done → ⊥
stop_not_done Done old new cause is = cause
stop_not_done LinkFault old new cause is = cc
stop_not_done NoMemory old new cause is = cc

stop_fault : (e : Ended) (first : ℕ) (old new : LinkState) → first ≤ old.faults → StopCause e old new → e ≡ LinkFault → Rose first new.faults
stop_fault Done first old new later cause is = absurd cause
stop_fault LinkFault first old new later cause is = let c = cause.0 in omega (arith, c, later)
stop_fault NoMemory first old new later cause is = let bad : ⊥ = cc in absurd bad

stop_used : (e : Ended) (old new : LinkState) → StopCause e old new → e ≢ NoMemory → new.used ≡ true
stop_used Done old new cause other = absurd cause
stop_used LinkFault old new cause other = cause.1
stop_used NoMemory old new cause other = absurd (other refl)

last_behind : (heard heard' : List Heard) → LastCloses heard' → LastCloses (heard ++ heard')
last_behind heard heard' x = record {
  before = heard ++ x.before;
  last = x.last;
  split = ap (λ is. heard ++ is) x.split ∙ sym (append_assoc heard x.before (x.last ∷ []));
  closes = x.closes;
}

ended_by : (ended : Bool) (all heard heard' : List Heard) → all ≡ heard ++ heard' → (ended ≡ true) ⊎ LastCloses heard' → (ended ≡ true) ⊎ LastCloses all
ended_by ended all heard heard' is (inl end) = inl end
ended_by ended all heard heard' is (inr closes) = inr (subst LastCloses (sym is) (last_behind heard heard' closes))

or_true : (b : Bool) → (b || true) ≡ true
or_true true = refl
or_true false = refl

or_false : (b : Bool) → (b || false) ≡ b
or_false true = refl
or_false false = refl

nothing_read : (count : ℕ) (room : List ℕ) → (count == 0) ≡ true → take count room ≡ []
nothing_read count room e = ap (λ n. take n room) (eqb-true count 0 e)

goes_behind : (a b c : Standing) (first second : List ℕ) (heard heard' : List Heard) → Goes a first heard b [] → Goes b second heard' c [] → Goes a (first ++ second) (heard ++ heard') c []
goes_behind a b c first second heard heard' x y = record {
  same = λ more ended.
      ap (λ t. items_from a t ended) (append_assoc first second more) ∙ x.same (second ++ more) ended
      ∙ ap (λ is. heard ++ is) (y.same more ended) ∙ sym (append_assoc heard heard' (items_from c more ended));
}

all_behind : {A : Type 0} (P : A → Type 0) (xs ys : List A) → AllByRecursion P (xs ++ ys) → AllByRecursion P ys
all_behind P [] ys all = all
all_behind P (x ∷ xs) ys all = all_behind P xs ys all.1

-- the items of a piece are items of all the bytes
pub within_new : (P : Heard → Type 0) (read : List ℕ) (heard heard' : List Heard) (front : Standing) (more : List ℕ) (ended : Bool) →
    Goes (Reading []) read heard front [] → heard' ≡ items_from front more ended → AllByRecursion P (items (read ++ more) ended) → AllByRecursion P heard'
within_new P read heard heard' front more ended goes is all =
    subst (AllByRecursion P) (sym is) (all_behind P heard (items_from front more ended) (subst (AllByRecursion P) (so_far read heard front goes more ended) all))

module _ {L : Type 0} (state : L → LinkState) (exchanged : L → L → List ℕ → List ℕ → Type 0) (given : Terms) (tenant : ℕ) (s : Service) where
  pub going_first : (nothing : (at : L) → exchanged at at [] []) (at : L) (passes : List PassView) (front : Standing) → front ≡ Reading [] → (state at).ended ≡ false →
      Going state exchanged given tenant s at at passes passes front
  going_first nothing at passes front is unended = record {
    read = [];
    sent = [];
    exchange = nothing at;
    heard = [];
    goes = subst (λ f. Goes (Reading []) [] [] f []) (sym is) (record { same = λ more e. refl });
    calls = [];
    called = refl;
    replies = (refl, refl);
    ended = unended;
    later = omega arith;
  }

  -- what is public of a whole session
  pub served_of : (result : Ended) (old new : L) (passes passes' : List PassView) → Serves state exchanged given tenant s result old new passes passes' →
      HasServed s (exchanged old new) (state new).ended tenant passes passes'
  served_of result old new passes passes' x =
      record { read = x.read; sent = x.sent; exchange = x.exchange; calls = x.calls; mine = mine_grows given tenant passes passes' x.calls x.called; does = x.begins }

  pub served_all_of : (result : Ended) (old new : L) (passes passes' : List PassView) → Serves state exchanged given tenant s result old new passes passes' → result ≡ Done →
      HasServedAll s (exchanged old new) (state new).ended tenant passes passes'
  served_all_of result old new passes passes' x is =
      record { read = x.read; sent = x.sent; exchange = x.exchange; calls = x.calls; mine = mine_grows given tenant passes passes' x.calls x.called; does = x.done is }

  module _ (behind : (old mid new : L) (read read' sent sent' : List ℕ) → exchanged old mid read sent → exchanged mid new read' sent' → exchanged old new (read ++ read') (sent ++ sent')) where
    -- bytes were read, and then others sent
    exchange_then : (old now mid new : L) (read piece sent sent' : List ℕ) → exchanged old now read sent → exchanged now mid piece [] → exchanged mid new [] sent' →
        exchanged old new (read ++ piece) (sent ++ sent')
    exchange_then old now mid new read piece sent sent' x y z =
        subst (λ r. exchanged old new r (sent ++ sent')) (append-nil (read ++ piece))
        (subst (λ w. exchanged old new ((read ++ piece) ++ []) (w ++ sent')) (append-nil sent)
        (behind old mid new (read ++ piece) [] (sent ++ []) sent' (behind old now mid read piece sent [] x y) z))

    -- some more items were begun
    serves_begun : (result : Ended) (old now mid new : L) (passes passes' passes'' : List PassView) (front : Standing) (piece : List ℕ) (heard' rest : List Heard) →
        (g : Going state exchanged given tenant s old now passes passes' front) → exchanged now mid piece [] →
        Does state exchanged given tenant (Begins s heard') mid new passes' passes'' →
        items (g.read ++ piece) (state new).ended ≡ g.heard ++ (heard' ++ rest) →
        (state now).faults ≤ (state mid).faults → StopCause result (state mid) (state new) →
        Serves state exchanged given tenant s result old new passes passes''
    serves_begun result old now mid new passes passes' passes'' front piece heard' rest g x d is later cause = record {
      read = g.read ++ piece;
      sent = g.sent ++ d.sent;
      exchange = exchange_then old now mid new g.read piece g.sent d.sent g.exchange x d.exchange;
      calls = g.calls ++ d.calls;
      called = calls_then given tenant passes passes' passes'' g.calls d.calls g.called d.called;
      begins = subst (λ is. Begins s is (g.calls ++ d.calls) (g.sent ++ d.sent)) (sym is)
          (replies_then s g.heard (heard' ++ rest) g.calls d.calls g.sent d.sent g.replies (begins_more s heard' rest d.calls d.sent d.does));
      done = λ e. absurd (stop_not_done result (state mid) (state new) cause e);
      fault = stop_fault result (state old).faults (state mid) (state new) (let l = g.later in omega (arith, l, later)) cause;
      used = stop_used result (state mid) (state new) cause;
    }

    -- all items were replied to
    serves_all : (old now mid new : L) (passes passes' passes'' : List PassView) (front : Standing) (piece : List ℕ) (heard' : List Heard) →
        (g : Going state exchanged given tenant s old now passes passes' front) → exchanged now mid piece [] →
        Does state exchanged given tenant (Replies s heard') mid new passes' passes'' →
        items (g.read ++ piece) (state new).ended ≡ g.heard ++ heard' →
        ((state new).ended ≡ true) ⊎ LastCloses heard' → (state new).used ≡ true →
        Serves state exchanged given tenant s Done old new passes passes''
    serves_all old now mid new passes passes' passes'' front piece heard' g x d is end used =
        let calls = g.calls ++ d.calls in
        let sent = g.sent ++ d.sent in
        let all = items (g.read ++ piece) (state new).ended in
        let replies : Replies s all calls sent = subst (λ is. Replies s is calls sent) (sym is) (replies_all s g.heard heard' g.calls d.calls g.sent d.sent g.replies d.does) in
        record {
          read = g.read ++ piece;
          sent = sent;
          exchange = exchange_then old now mid new g.read piece g.sent d.sent g.exchange x d.exchange;
          calls = calls;
          called = calls_then given tenant passes passes' passes'' g.calls d.calls g.called d.called;
          begins = replies_begin s all calls sent replies;
          done = λ e. (replies, ended_by (state new).ended all g.heard heard' is end);
          fault = λ e. let bad : ⊥ = cc in absurd bad;
          used = λ other. used;
        }

    -- the read failed
    pub read_failed : (old now new : L) (passes passes' : List PassView) (front : Standing) →
        Going state exchanged given tenant s old now passes passes' front → exchanged now new [] [] → Fails (state now) (state new) →
        Serves state exchanged given tenant s LinkFault old new passes passes'
    read_failed old now new passes passes' front g x f =
        let later : one_more (state now).faults ≤ (state new).faults = let c = f.faults in omega (arith, c) in
        record {
          read = g.read ++ [];
          sent = g.sent ++ [];
          exchange = behind old now new g.read [] g.sent [] g.exchange x;
          calls = g.calls ++ [];
          called = calls_then given tenant passes passes' passes' g.calls [] g.called refl;
          begins = subst (λ is. Begins s is (g.calls ++ []) (g.sent ++ [])) (sym (so_far g.read g.heard front g.goes [] (state new).ended))
              (replies_then s g.heard (items_from front [] (state new).ended) g.calls [] g.sent [] g.replies (begins_nothing s (items_from front [] (state new).ended)));
          done = λ e. let bad : ⊥ = cc in absurd bad;
          fault = λ e. let l = g.later in omega (arith, l, later);
          used = λ other. f.used;
        }

    -- the end of the input was read: what is left gives the last items, of which these were begun
    pub at_end : (result : Ended) (old now mid new : L) (passes passes' passes'' : List PassView) (front : Standing) (count : ℕ) (room : List ℕ) (heard' : List Heard) →
        Going state exchanged given tenant s old now passes passes' front → exchanged now mid (take count room) [] → Reads (state now) (state mid) count → (count == 0) ≡ true →
        Does state exchanged given tenant (Begins s heard') mid new passes' passes'' → (rest : List Heard) → items_from front [] true ≡ heard' ++ rest →
        StopCause result (state mid) (state new) → Serves state exchanged given tenant s result old new passes passes''
    at_end result old now mid new passes passes' passes'' front count room heard' g x r is_zero d rest is cause =
        let ended : (state new).ended ≡ true = d.marks.ended ∙ r.ended ∙ ap (λ b. (state now).ended || b) is_zero ∙ or_true (state now).ended in
        let none : exchanged now mid [] [] = subst (λ t. exchanged now mid t []) (nothing_read count room is_zero) x in
        serves_begun result old now mid new passes passes' passes'' front [] heard' rest g none d
        (ap (items (g.read ++ [])) ended ∙ so_far g.read g.heard front g.goes [] true ∙ ap (λ is. g.heard ++ is) is)
        (let f = r.faults in omega (arith, f)) cause

    -- or all of them
    pub at_end_all : (old now mid new : L) (passes passes' passes'' : List PassView) (front : Standing) (count : ℕ) (room : List ℕ) (heard' : List Heard) →
        Going state exchanged given tenant s old now passes passes' front → exchanged now mid (take count room) [] → Reads (state now) (state mid) count → (count == 0) ≡ true →
        Does state exchanged given tenant (Replies s heard') mid new passes' passes'' → heard' ≡ items_from front [] true →
        Serves state exchanged given tenant s Done old new passes passes''
    at_end_all old now mid new passes passes' passes'' front count room heard' g x r is_zero d is =
        let ended : (state new).ended ≡ true = d.marks.ended ∙ r.ended ∙ ap (λ b. (state now).ended || b) is_zero ∙ or_true (state now).ended in
        let none : exchanged now mid [] [] = subst (λ t. exchanged now mid t []) (nothing_read count room is_zero) x in
        let used : (state mid).used ≡ true = r.used ∙ ap (λ b. (state now).used || b) is_zero ∙ or_true (state now).used in
        serves_all old now mid new passes passes' passes'' front [] heard' g none d
        (ap (items (g.read ++ [])) ended ∙ so_far g.read g.heard front g.goes [] true ∙ ap (λ is. g.heard ++ is) (sym is))
        (inl ended) (d.marks.kept used)

    still_open : (old now mid new : L) (passes passes' passes'' : List PassView) (front : Standing) (count : ℕ) (heard' : List Heard) →
        Going state exchanged given tenant s old now passes passes' front → Reads (state now) (state mid) count → (count == 0) ≡ false →
        (state new).ended ≡ (state mid).ended → (state new).ended ≡ false
    still_open old now mid new passes passes' passes'' front count heard' g r some same =
        same ∙ r.ended ∙ ap (λ b. (state now).ended || b) some ∙ or_false (state now).ended ∙ g.ended

    -- a piece was read: it gives these items, which were begun, and maybe some behind them
    pub at_piece : (result : Ended) (old now mid new : L) (passes passes' passes'' : List PassView) (front : Standing) (count : ℕ) (room piece : List ℕ) (heard' : List Heard) →
        Going state exchanged given tenant s old now passes passes' front → exchanged now mid (take count room) [] → Reads (state now) (state mid) count → (count == 0) ≡ false → piece ≡ take count room →
        Does state exchanged given tenant (Begins s heard') mid new passes' passes'' → (rest : List Heard) → items_from front piece false ≡ heard' ++ rest →
        StopCause result (state mid) (state new) → Serves state exchanged given tenant s result old new passes passes''
    at_piece result old now mid new passes passes' passes'' front count room piece heard' g x r some pieced d rest is cause =
        let unended = still_open old now mid new passes passes' passes'' front count heard' g r some d.marks.ended in
        serves_begun result old now mid new passes passes' passes'' front piece heard' rest g (subst (λ t. exchanged now mid t []) (sym pieced) x) d
        (ap (items (g.read ++ piece)) unended ∙ so_far g.read g.heard front g.goes piece false ∙ ap (λ is. g.heard ++ is) is)
        (let f = r.faults in omega (arith, f)) cause

    -- a piece was read, all of its items were replied to, and the last one closes the connection
    pub at_close : (old now mid new : L) (passes passes' passes'' : List PassView) (front : Standing) (count : ℕ) (room piece : List ℕ) (heard' : List Heard) →
        Going state exchanged given tenant s old now passes passes' front → exchanged now mid (take count room) [] → Reads (state now) (state mid) count → (count == 0) ≡ false → piece ≡ take count room →
        Does state exchanged given tenant (Replies s heard') mid new passes' passes'' → heard' ≡ items_from front piece false → LastCloses heard' →
        Serves state exchanged given tenant s Done old new passes passes''
    at_close old now mid new passes passes' passes'' front count room piece heard' g x r some pieced d is closes =
        let unended = still_open old now mid new passes passes' passes'' front count heard' g r some d.marks.ended in
        serves_all old now mid new passes passes' passes'' front piece heard' g (subst (λ t. exchanged now mid t []) (sym pieced) x) d
        (ap (items (g.read ++ piece)) unended ∙ so_far g.read g.heard front g.goes piece false ∙ ap (λ is. g.heard ++ is) (sym is))
        (inr closes) (d.marks.marks (replies_some s heard' closes.before closes.last d.calls d.sent closes.split d.does))

    -- and the session goes on
    pub goes_on : (old now mid new : L) (passes passes' passes'' : List PassView) (front front' : Standing) (count : ℕ) (room piece : List ℕ) (heard' : List Heard) →
        Going state exchanged given tenant s old now passes passes' front → exchanged now mid (take count room) [] → Reads (state now) (state mid) count → (count == 0) ≡ false → piece ≡ take count room →
        Does state exchanged given tenant (Replies s heard') mid new passes' passes'' → Goes front piece heard' front' [] → (state mid).faults ≤ (state new).faults →
        Going state exchanged given tenant s old new passes passes'' front'
    goes_on old now mid new passes passes' passes'' front front' count room piece heard' g x r some pieced d goes later = record {
      read = g.read ++ piece;
      sent = g.sent ++ d.sent;
      exchange = exchange_then old now mid new g.read piece g.sent d.sent g.exchange (subst (λ t. exchanged now mid t []) (sym pieced) x) d.exchange;
      heard = g.heard ++ heard';
      goes = goes_behind (Reading []) front front' g.read piece g.heard heard' g.goes goes;
      calls = g.calls ++ d.calls;
      called = calls_then given tenant passes passes' passes'' g.calls d.calls g.called d.called;
      replies = replies_all s g.heard heard' g.calls d.calls g.sent d.sent g.replies d.does;
      ended = still_open old now mid new passes passes' passes'' front count heard' g r some d.marks.ended;
      later = let l = g.later in let f = r.faults in omega (arith, l, f, later);
    }
