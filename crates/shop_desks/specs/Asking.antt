-- What a session's calls of a shop do.
use Rattle.std.specs.Prelude.{◌≡◌, ℕ, List, slice_get, slice_set, Some}
use Rattle.admission.specs.declared.meters.Admission.{Admission}
use Rattle.tenant_meters.specs.Knowing.{IsKnown}
use Rattle.tenant_meters.specs.Metered as meters
use Rattle.tenant_meters.specs.Metered.{MeterView, HasAsked}
use Rattle.shop_desks.specs.Shops.{VisitView}

-- one call more of one tenant's meter, and none of another's
abbrev pub AsksOnce : List MeterView → (old new : List meters.PassView) → (tenant moment estimate : ℕ) → Admission → Type 0
AsksOnce all old new tenant moment estimate answer =
    (meter : MeterView) (before : meters.PassView) → slice_get all tenant ≡ Some meter → slice_get old tenant ≡ Some before
    → (after : meters.PassView) × (new ≡ slice_set old tenant after) × HasAsked meter.terms before after moment estimate answer

-- no meter was asked and no berth taken; the board's pass has as many parts as before
pub record KeepsOthers (old new : VisitView) : Type 0 where
  pub meters : new.meter_visit ≡ old.meter_visit
  pub parts : new.board_pass.parts ≡ old.board_pass.parts
  pub pool : new.pool_pass ≡ old.pool_pass

-- what is known of a tenant's meter
abbrev pub IsKnownOf : List meters.PassView → (tenant : ℕ) → Type 0
IsKnownOf passes tenant = (pass : meters.PassView) → slice_get passes tenant ≡ Some pass → IsKnown pass.terms pass.seen pass.mine
