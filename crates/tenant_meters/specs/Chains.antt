-- Calls of a meter by one pass, one after another.
use Rattle.std.specs.Prelude.{◌≡◌, ℕ, List, [], ◌∷◌, ◌++◌, map}
use Rattle.admission.specs.declared.meters.Admission.{Admission}
use Rattle.tenant_meters.specs.Histories.{empty_bucket, IsLegal, calls_by, GoesOn}
use Rattle.tenant_meters.specs.Metered.{PassView, HasAsked}
use Rattle.tenant_meters.specs.declared.callers.Call.{Call}
use Rattle.tenant_meters.specs.declared.callers.Terms.{Terms}

-- what was asked, and what was answered
pub record Asked : Type 0 where
  pub moment : ℕ
  pub estimate : ℕ
  pub answer : Admission

abbrev pub asked_in : Call → Asked
asked_in c = record { moment = c.moment; estimate = c.estimate; answer = c.answer }

-- these calls were made, one after another
abbrev pub HaveAsked : Terms → (old new : PassView) → List Asked → Type 0
HaveAsked given old new [] = new ≡ old
HaveAsked given old new (a ∷ asked) = (between : PassView) × HasAsked given old between a.moment a.estimate a.answer × HaveAsked given between new asked

-- the history goes on from what was seen, and the pass has just these calls more
pub record StandInOneHistory (old new : PassView) (asked : List Asked) : Type 0 where
  pub onward : GoesOn old.seen new.seen
  pub calls : List Call
  pub mine : new.mine ≡ old.mine ++ calls
  pub are : map asked_in calls ≡ asked

-- the history is legal, has of one number the pass's own calls and no others, and ends with the latest of them
pub record EndsWithItsLatest (given : Terms) (new : PassView) : Type 0 where
  pub legal : IsLegal (empty_bucket given) new.seen
  pub by : ℕ
  pub own : calls_by by new.seen ≡ new.mine
  pub latest : Call
  pub seen_before : List Call
  pub mine_before : List Call
  pub seen_ends : new.seen ≡ seen_before ++ latest ∷ []
  pub mine_ends : new.mine ≡ mine_before ++ latest ∷ []
