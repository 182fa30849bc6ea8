-- What contracts see of a tenant's meter and of its passes.
use Rattle.std.specs.Prelude.{◌≡◌, ℕ, List, [], Option, Some}
use Rattle.atomic_table.specs.Seated.{TableId}
use Rattle.admission.specs.declared.meters.Admission.{Admission}
use Rattle.tenant_meters.specs.Steps.{SeesMore, MakesCall}
use Rattle.tenant_meters.specs.declared.callers.Call.{Call}
use Rattle.tenant_meters.specs.declared.callers.Terms.{Terms}

-- which meter it is, and its terms
pub record MeterView : Type 0 where
  pub id : TableId
  pub terms : Terms

-- which meter a pass is for and that one's terms, the history as far as it was seen, and the pass's own calls
pub record PassView : Type 0 where
  pub id : TableId
  pub terms : Option Terms
  pub seen : List Call
  pub mine : List Call

abbrev pub IsPassOf : MeterView → PassView → Type 0
IsPassOf meter pass = (pass.id ≡ meter.id) × (pass.terms ≡ Some meter.terms)

-- the first pass has seen nothing and made no call
abbrev pub first_pass : MeterView → PassView
first_pass meter = record { id = meter.id; terms = Some meter.terms; seen = []; mine = [] }

-- a second pass has seen as much and made no call
abbrev pub second : PassView → PassView
second pass = record pass { mine = [] }

-- no call was made, and no less was seen
abbrev pub HasLooked : Terms → (old new : PassView) → Type 0
HasLooked given old new = SeesMore given old.seen old.mine new.seen new.mine

-- one call was made, which was answered so
abbrev pub HasAsked : Terms → (old new : PassView) → (moment estimate : ℕ) → Admission → Type 0
HasAsked given old new moment estimate answer = MakesCall given old.seen old.mine new.seen new.mine moment estimate answer
