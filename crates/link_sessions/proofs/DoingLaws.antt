-- What is done over a link, one thing after another.
use Rattle.std.proofs.Common.{◌≡◌, ℕ, List, [], ◌∷◌, ◌++◌, Result, Ok, Err, OnErr, take, refl, sym, ap, ◌∙◌, subst, append_assoc, Bool, true, false, not, ◌||◌, ◌==◌, ◌<◌, length, arith}
use Rattle.std.proofs.lemmas.Bool.Decides.{nat_tests}
use Rattle.http_items.specs.Items.{Heard}
use Rattle.outside_links.specs.Link.{Fails, LinkState, SendsPart, Writes}
use Rattle.tenant_meters.specs.Metered.{PassView}
use Rattle.tenant_meters.specs.declared.callers.Call.{Call}
use Rattle.tenant_meters.specs.declared.callers.Terms.{Terms}
use Rattle.link_sessions.specs.Calling.{MakesCalls}
use Rattle.link_sessions.specs.Going.{Asks, Does, Marks}
use Rattle.link_sessions.specs.Services.{Service}
use Rattle.link_sessions.specs.Serving.{Begins, Doing, Replies}
use Rattle.link_sessions.proofs.CallingLaws.{calls_then}
use Rattle.link_sessions.proofs.ServingLaws.{begins_more, begins_nothing, part_of_text, replies_all, replies_then}

pub OnErr-anyhow : {T E P : Type 0} (result : Result T E) → P → OnErr result P
OnErr-anyhow (Ok x) p = tt
OnErr-anyhow (Err e) p = p

used_or : (b c : Bool) → b ≡ true → (b || c) ≡ true
used_or true c e = refl
used_or false c e = let bad : ⊥ = cc in absurd bad

not_none : (n : ℕ) → 0 < n → (n == 0) ≡ false
not_none n some = grind (arith, nat_tests, some)

or_some : (b : Bool) (bytes : List ℕ) → 0 < length bytes → (b || not (length bytes == 0)) ≡ true
or_some true bytes some = refl
or_some false [] some = absurd (omega (arith, some))
or_some false (x ∷ bytes) some = ap not (not_none (length (x ∷ bytes)) some)

-- one of two texts is not empty
marks_both : (a b : List ℕ) (m n : Bool) → (0 < length a → m ≡ true) → (0 < length b → n ≡ true) → (m ≡ true → n ≡ true) → 0 < length (a ++ b) → n ≡ true
marks_both [] b m n first second on some = second some
marks_both (x ∷ a) b m n first second on some = on (first (omega arith))

marks_then : (old mid new : LinkState) (a b : List ℕ) → Marks old mid a → Marks mid new b → Marks old new (a ++ b)
marks_then old mid new a b x y = record {
  ended = y.ended ∙ x.ended;
  kept = λ e. y.kept (x.kept e);
  marks = marks_both a b mid.used new.used x.marks y.marks y.kept;
}

pub marks_nothing : (at : LinkState) → Marks at at []
marks_nothing at = record { ended = refl; kept = λ e. e; marks = λ some. absurd (omega (arith, some)) }

marks_written : (old new : LinkState) (text all : List ℕ) → all ≡ text → Writes old new all → Marks old new text
marks_written old new text all is w = record {
  ended = w.ended;
  kept = λ e. w.used ∙ used_or old.used (not (length all == 0)) e;
  marks = λ some. w.used ∙ or_some old.used all (rw is some);
}

marks_failed : (old new : LinkState) (sent : List ℕ) → Fails old new → Marks old new sent
marks_failed old new sent f = record { ended = f.ended; kept = λ e. f.used; marks = λ some. f.used }

-- nothing was asked
pub asks_nothing : (given : Terms) (tenant : ℕ) (s : Service) (items : List Heard) (passes : List PassView) → Asks given tenant (Begins s items) [] passes passes
asks_nothing given tenant s items passes = record { calls = []; called = refl; does = begins_nothing s items }

module _ {L : Type 0} (state : L → LinkState) (exchanged : L → L → List ℕ → List ℕ → Type 0) (given : Terms) (tenant : ℕ) where
  -- a text was written whole
  pub sent_all : (P : Doing) (old new : L) (text all : List ℕ) (passes passes' : List PassView) → all ≡ text →
      Asks given tenant P text passes passes' → exchanged old new [] all → Writes (state old) (state new) all → Does state exchanged given tenant P old new passes passes'
  sent_all P old new text all passes passes' is a x w = record {
    calls = a.calls;
    called = a.called;
    sent = text;
    exchange = subst (λ t. exchanged old new [] t) is x;
    does = a.does;
    marks = marks_written (state old) (state new) text all is w;
  }

  -- or a part of it
  pub sent_part : (s : Service) (item : Heard) (old new : L) (text all : List ℕ) (passes passes' : List PassView) → all ≡ text →
      Asks given tenant (Replies s (item ∷ [])) text passes passes' → SendsPart exchanged old new all → Fails (state old) (state new) → Does state exchanged given tenant (Begins s (item ∷ [])) old new passes passes'
  sent_part s item old new text all passes passes' is a x f = record {
    calls = a.calls;
    called = a.called;
    sent = take x.count text;
    exchange = subst (λ t. exchanged old new [] (take x.count t)) is x.sent;
    does = part_of_text s item a.calls text x.count a.does;
    marks = marks_failed (state old) (state new) (take x.count text) f;
  }

  module _ (nothing : (at : L) → exchanged at at [] []) where
    -- or nothing of it
    pub sent_none : (P : Doing) (at : L) (passes passes' : List PassView) → Asks given tenant P [] passes passes' → Does state exchanged given tenant P at at passes passes'
    sent_none P at passes passes' a = record { calls = a.calls; called = a.called; sent = []; exchange = nothing at; does = a.does; marks = marks_nothing (state at) }

    pub done_nothing : (s : Service) (at : L) (passes : List PassView) → Does state exchanged given tenant (Replies s []) at at passes passes
    done_nothing s at passes = record { calls = []; called = refl; sent = []; exchange = nothing at; does = (refl, refl); marks = marks_nothing (state at) }

    pub begun_nothing : (s : Service) (items : List Heard) (at : L) (passes : List PassView) → Does state exchanged given tenant (Begins s items) at at passes passes
    begun_nothing s items at passes = record { calls = []; called = refl; sent = []; exchange = nothing at; does = begins_nothing s items; marks = marks_nothing (state at) }

  module _ (behind : (old mid new : L) (read read' sent sent' : List ℕ) → exchanged old mid read sent → exchanged mid new read' sent' → exchanged old new (read ++ read') (sent ++ sent')) where
    -- some items, and then others
    pub does_all : (s : Service) (items more : List Heard) (old mid new : L) (passes passes' passes'' : List PassView) →
        Does state exchanged given tenant (Replies s items) old mid passes passes' → Does state exchanged given tenant (Replies s more) mid new passes' passes'' →
        Does state exchanged given tenant (Replies s (items ++ more)) old new passes passes''
    does_all s items more old mid new passes passes' passes'' x y = record {
      calls = x.calls ++ y.calls;
      called = calls_then given tenant passes passes' passes'' x.calls y.calls x.called y.called;
      sent = x.sent ++ y.sent;
      exchange = behind old mid new [] [] x.sent y.sent x.exchange y.exchange;
      does = replies_all s items more x.calls y.calls x.sent y.sent x.does y.does;
      marks = marks_then (state old) (state mid) (state new) x.sent y.sent x.marks y.marks;
    }

    -- some items, and a beginning of others, with none of those behind
    pub does_begin : (s : Service) (items more rest all : List Heard) (old mid new : L) (passes passes' passes'' : List PassView) → items ++ (more ++ rest) ≡ all →
        Does state exchanged given tenant (Replies s items) old mid passes passes' → Does state exchanged given tenant (Begins s more) mid new passes' passes'' →
        Does state exchanged given tenant (Begins s all) old new passes passes''
    does_begin s items more rest all old mid new passes passes' passes'' split x y = record {
      calls = x.calls ++ y.calls;
      called = calls_then given tenant passes passes' passes'' x.calls y.calls x.called y.called;
      sent = x.sent ++ y.sent;
      exchange = behind old mid new [] [] x.sent y.sent x.exchange y.exchange;
      does = subst (λ is. Begins s is (x.calls ++ y.calls) (x.sent ++ y.sent)) split
          (replies_then s items (more ++ rest) x.calls y.calls x.sent y.sent x.does (begins_more s more rest y.calls y.sent y.does));
      marks = marks_then (state old) (state mid) (state new) x.sent y.sent x.marks y.marks;
    }
