-- The reply to one request that has a route, and the call of the meter beside it.
use Rattle.std.proofs.Common.{◌≡◌, ℕ, Bool, List, [], ◌∷◌, ◌++◌, Option, Some, Result, Ok, Err, IfOk, inl, refl, sym, ap, ◌∙◌, subst, append-nil}
use Rattle.admission.specs.declared.meters.Admission.{Admission}
use Rattle.http_front.specs.Reply.{reply_of}
use Rattle.http_front.specs.Reported.{Reported}
use Rattle.http_items.specs.Items.{Heard}
use Rattle.tenant_meters.specs.Histories.{call}
use Rattle.tenant_meters.specs.Metered.{PassView}
use Rattle.tenant_meters.specs.declared.callers.Terms.{Terms}
use Rattle.link_sessions.specs.Calling.{AsksMeter}
use Rattle.link_sessions.specs.Going.{Asks}
use Rattle.link_sessions.specs.Services.{Service, answered_text, route_of}
use Rattle.link_sessions.specs.Serving.{Begins, BeginsBy, Replies, RepliesBy}

pub IfOk-then : {T E : Type 0} (P Q : T → Type 0) (result : Result T E) → ((x : T) → P x → Q x) → IfOk result P → IfOk result Q
IfOk-then P Q (Ok x) onward p = onward x p
IfOk-then P Q (Err e) onward p = p

pub reply_same : (r r' : Reported) (type type' : List ℕ) (head head' keep : Bool) → r ≡ r' → type ≡ type' → head ≡ head' → reply_of r type head keep ≡ reply_of r' type' head' keep
reply_same r r' type type' head head' keep e f g =
    ap (λ x. reply_of x type head keep) e ∙ ap (λ x. reply_of r' x head keep) f ∙ ap (λ x. reply_of r' type' x keep) g

-- the meter was asked, and the whole reply is due
pub asks_all : (given : Terms) (tenant : ℕ) (s : Service) (item : Heard) (route : ℕ) (old new : List PassView) (moment estimate : ℕ) (answer : Admission) (text : List ℕ) →
    route_of s item ≡ Some route → estimate ≡ s.estimate route → s.gave moment → AsksMeter given tenant old new moment estimate answer →
    text ≡ answered_text s route item answer → Asks given tenant (Replies s (item ∷ [])) text old new
asks_all given tenant s item route old new moment estimate answer text routed due gave asked is = record {
  calls = call asked.0 moment estimate answer ∷ [];
  called = (new, asked.1, refl);
  does = subst (λ r. RepliesBy s item r (Replies s []) (call asked.0 moment estimate answer ∷ []) text) (sym routed)
      (record { estimate = due; moment = gave }, record { rest = []; split = is ∙ sym (append-nil (answered_text s route item answer)); next = (refl, refl) });
}

-- the meter was asked, and nothing was sent
pub asks_begun : (given : Terms) (tenant : ℕ) (s : Service) (item : Heard) (route : ℕ) (old new : List PassView) (moment estimate : ℕ) (answer : Admission) →
    route_of s item ≡ Some route → estimate ≡ s.estimate route → s.gave moment → AsksMeter given tenant old new moment estimate answer →
    Asks given tenant (Begins s (item ∷ [])) [] old new
asks_begun given tenant s item route old new moment estimate answer routed due gave asked = record {
  calls = call asked.0 moment estimate answer ∷ [];
  called = (new, asked.1, refl);
  does = subst (λ r. BeginsBy s item r (Begins s []) (call asked.0 moment estimate answer ∷ []) []) (sym routed)
      (record { estimate = due; moment = gave }, inl (record { count = 0; front = refl; last = refl }));
}
