-- What each step on a meter's cell tells the pass that makes it.
use Rattle.std.specs.Prelude.{◌≡◌, ◌≢◌, ℕ, List, [], ◌∷◌, ◌++◌, Some, IfSome}
use Rattle.admission.specs.Metering.{ask}
use Rattle.admission.specs.declared.meters.Admission.{Admission}
use Rattle.tenant_meters.specs.Charging.{bucket_in, terms_in}
use Rattle.tenant_meters.specs.Histories.{call, empty_bucket, IsLegal, calls_by, GoesOn}
use Rattle.tenant_meters.specs.Ruled.{caller}
use Rattle.tenant_meters.specs.declared.callers.Call.{Call}
use Rattle.tenant_meters.specs.declared.callers.Caller.{Caller}
use Rattle.tenant_meters.specs.declared.callers.Terms.{Terms}
use Rattle.tenant_meters.specs.declared.charges.Charge.{Charge}

-- the history was seen as far as it went at this step, and no call was made
pub record SeesMore (given : Terms) (seen mine seen' mine' : List Call) : Type 0 where
  pub onward : GoesOn seen seen'
  pub same : mine' ≡ mine
  pub legal : IsLegal (empty_bucket given) seen'
  pub by : ℕ
  pub own : calls_by by seen' ≡ mine'

-- one call was made, with which the history ended at this step; it is the one call more of its pass, under that one's number
pub record MakesCall (given : Terms) (seen mine seen' mine' : List Call) (moment estimate : ℕ) (answer : Admission) : Type 0 where
  pub by : ℕ
  pub between : List Call
  pub seen_is : seen' ≡ (seen ++ between) ++ call by moment estimate answer ∷ []
  pub mine_is : mine' ≡ mine ++ call by moment estimate answer ∷ []
  pub legal : IsLegal (empty_bucket given) seen'
  pub own : calls_by by seen' ≡ mine'

-- the terms that the cell then holds are laid down, and nothing was asked yet
abbrev pub opened : Caller → Charge → Charge → Caller → Type 0
opened v before after w = w ≡ caller (Some (terms_in after)) [] []

abbrev pub looked : Caller → Charge → Charge → Caller → Type 0
looked v before after w = (w.terms ≡ v.terms) × IfSome v.terms (λ given. SeesMore given v.seen v.mine w.seen w.mine)

-- where the number of calls has changed the pass made the call that is written in the cell, answered by the bucket that was there; else it made none
abbrev pub asked : Caller → Charge → Charge → Caller → Type 0
asked v before after w =
    (w.terms ≡ v.terms)
    × (after.calls ≡ before.calls → IfSome v.terms (λ given. SeesMore given v.seen v.mine w.seen w.mine))
    × (after.calls ≢ before.calls → IfSome v.terms (λ given. MakesCall given v.seen v.mine w.seen w.mine after.moment after.estimate (ask (bucket_in before) after.moment after.estimate).0))

abbrev pub same : Caller → Caller
same v = v

-- what a second pass knows
abbrev pub told : Caller → Caller
told v = caller v.terms v.seen []
